-- A names line with a byte that the rules do not allow, such as a line feed, is None.
use Rattle.std.proofs.Common.{Option, Some, None}
use Prim.Native.Nat.{ℕ, ◌+◌, ◌<◌}
use mathlib.Core.Path.{◌≡◌, refl, sym, ap, ◌∙◌}
use mathlib.Core.List.{List, [], ◌∷◌, ◌++◌}
use mathlib.Core.Bool.{Bool, true, false, cond, ◌||◌, false≢true}
use mathlib.Mathlib.Data.Bool.Basic.{or-eq-false-eq-eq-false-and-eq-false}
use lib.ListN.{length, get_or}
use lib.Dec.{eqb}
use Rattle.decimal.specs.Ascii.{ascii, blank, comma, line_feed}
use Rattle.decimal.proofs.Answers.{either_way}
use Rattle.lines.specs.declared.columns.Column.{Column}
use Rattle.lines.specs.declared.columns.Columns.{Columns}
use Rattle.lines.specs.Fields.{fits_line, fields, same_bytes}
use Rattle.lines.specs.Columns.{same_column}
use Rattle.lines.proofs.FieldLaws.{same_equal}
use Rattle.lines.proofs.OtherBytes.{contains, contains_any, contains_at, fields_contain}
use Rattle.names.specs.Columns.{column_if, column_named, with_column, no_columns, size_columns, split_size_columns}
use Rattle.names.specs.Names.{names_from, names_line, size_names_line}
use Rattle.names.proofs.NamesLaws.{names_other, names_column}

-- A byte b that stands in no name and is no comma.
without : (b : ℕ) (s t : List ℕ) → contains b (s ++ (comma ∷ t)) ≡ false
    → (contains b s ≡ false) × (contains b t ≡ false)
unfolding contains
without b [] t e = (refl, ((or-eq-false-eq-eq-false-and-eq-false (eqb comma b) (contains b t)).0 e).1)
without b (x ∷ s) t e =
    let both = (or-eq-false-eq-eq-false-and-eq-false (eqb x b) (contains b (s ++ (comma ∷ t)))).0 e in
    let rest = without b s t both.1 in
    (rw both.0 rest.0, rest.1)

module _ (b : ℕ) (f : List ℕ) (h : contains b f ≡ true) where
  other_name : (name : List ℕ) (column : Column) (other : Option Column) → contains b name ≡ false → column_if f name column other ≡ other
  unfolding column_if
  other_name name column other n = go (same_bytes f name) refl
    where
      go : (t : Bool) → same_bytes f name ≡ t → cond (same_bytes f name) (Some column) other ≡ other
      go true e = absurd (false≢true (sym n ∙ ap (contains b) (sym (same_equal f name e)) ∙ h))
      go false e = rw e

  names_nothing : contains b (ascii "rows,cols,depth,least,split,row,col,dir,weight") ≡ false → column_named f ≡ None
  unfolding column_named
  names_nothing n =
      let rows = without b (ascii "rows") (ascii "cols,depth,least,split,row,col,dir,weight") n in
      let cols = without b (ascii "cols") (ascii "depth,least,split,row,col,dir,weight") rows.1 in
      let depth = without b (ascii "depth") (ascii "least,split,row,col,dir,weight") cols.1 in
      let least = without b (ascii "least") (ascii "split,row,col,dir,weight") depth.1 in
      let split = without b (ascii "split") (ascii "row,col,dir,weight") least.1 in
      let row = without b (ascii "row") (ascii "col,dir,weight") split.1 in
      let col = without b (ascii "col") (ascii "dir,weight") row.1 in
      let dir = without b (ascii "dir") (ascii "weight") col.1 in
      other_name _ _ _ rows.0
      ∙ other_name _ _ _ cols.0
      ∙ other_name _ _ _ depth.0
      ∙ other_name _ _ _ least.0
      ∙ other_name _ _ _ split.0
      ∙ other_name _ _ _ row.0
      ∙ other_name _ _ _ col.0
      ∙ other_name _ _ _ dir.0
      ∙ other_name _ _ _ dir.1

module _ (b : ℕ) (n : contains b (ascii "rows,cols,depth,least,split,row,col,dir,weight") ≡ false) where
  names_from_other : (place : ℕ) (fs : List (List ℕ)) (c : Columns) → contains_any b fs ≡ true
      → names_from place fs c ≡ None
  unfolding contains_any same_column
  names_from_other place [] c h = absurd (false≢true h)
  names_from_other place (f ∷ fs) c h =
      go (contains b f) refl h (names_from_other (place + 1) fs (with_column c place (column_named f)))
    where
      known : (t : Bool) → same_column (column_named f) None ≡ t
          → names_from (place + 1) fs (with_column c place (column_named f)) ≡ None → names_from place
          (f ∷ fs) c ≡ None
      known true e ih = names_other place c f fs e
      known false e ih = names_column place c f fs e ∙ ih

      go : (t : Bool) → contains b f ≡ t → (t || contains_any b fs) ≡ true
          → (contains_any b fs ≡ true → names_from (place + 1) fs (with_column c place (column_named f)) ≡ None)
          → names_from place (f ∷ fs) c ≡ None
      go true e h ih = names_other place c f fs (ap (λ (x : Option Column). same_column x None) (names_nothing b f e n))
      go false e h ih = known (same_column (column_named f) None) refl (ih h)

  pub names_other_byte : (expected : Columns) (s : List ℕ) (i : ℕ) → i < length s → get_or s i 0 ≡ b
      → names_line expected s ≡ None
  unfolding names_line contains
  names_other_byte expected s i h e =
      rw (names_from_other 0 (fields s) no_columns (sym (fields_contain b s no_comma) ∙ contains_at b s i h e))
      (either_way (fits_line s) None)
    where
      no_comma : b ≡ comma → ⊥
      no_comma e =
          false≢true
          (sym n ∙ ap (λ (x : ℕ). contains x (ascii "rows,cols,depth,least,split,row,col,dir,weight")) e)

  pub size_names_other_byte : (s : List ℕ) (i : ℕ) → i < length s → get_or s i 0 ≡ b → size_names_line s ≡ None
  unfolding size_names_line
  size_names_other_byte s i h e =
      rw (names_other_byte size_columns s i h e, names_other_byte split_size_columns s i h e)

-- A names line with a blank anywhere is None.
pub names_blank : (expected : Columns) (s : List ℕ) (i : ℕ) → i < length s → get_or s i 0 ≡ blank
    → names_line expected s ≡ None
unfolding contains
names_blank = names_other_byte blank refl

-- A line feed.
pub names_line_feed : (expected : Columns) (s : List ℕ) (i : ℕ) → i < length s → get_or s i 0 ≡ line_feed
    → names_line expected s ≡ None
unfolding contains
names_line_feed = names_other_byte line_feed refl

-- The same of the sizes' names.
pub size_names_blank : (s : List ℕ) (i : ℕ) → i < length s → get_or s i 0 ≡ blank → size_names_line s ≡ None
unfolding contains
size_names_blank = size_names_other_byte blank refl

pub size_names_line_feed : (s : List ℕ) (i : ℕ) → i < length s → get_or s i 0 ≡ line_feed → size_names_line s ≡ None
unfolding contains
size_names_line_feed = size_names_other_byte line_feed refl
