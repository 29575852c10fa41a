-- The line `weight` is the only names line of the weights.
use Rattle.std.proofs.Common.{Option, Some, None, length, get_or, count_by}
use Rattle.std.proofs.lemmas.List.{get_or-set_other}
use Rattle.std.proofs.lemmas.List.Sums.{count_by-le-length}
use Prim.Native.Nat.{ℕ, ◌+◌, ◌≤◌}
use mathlib.Core.Path.{◌≡◌, refl, sym, ap, ◌∙◌}
use mathlib.Core.List.{List, [], ◌∷◌}
use mathlib.Core.Bool.{Bool, true, false, cond, false≢true}
use native.Mathlib.Omega.{arith}
use lib.Dec.{leb}
use Rattle.decimal.specs.Ascii.{ascii}
use Rattle.lines.specs.declared.columns.Column.{Column}
use Rattle.lines.specs.declared.columns.Column.TheVariants.{Weight}
use Rattle.lines.specs.declared.columns.Columns.{Columns}
use Rattle.lines.specs.Fields.{fits_line, fields, same_bytes}
use Rattle.lines.specs.Columns.{most_columns, same_column, column_at}
use Rattle.lines.proofs.FieldLaws.{same_equal, one_field}
use Rattle.names.specs.Columns.{column_if, column_named, no_columns, with_column, count_column, same_columns}
use Rattle.names.specs.Columns.{weight_columns}
use Rattle.names.specs.Names.{NamesLine, names_from, if_expected, names_line}
use Rattle.names.proofs.NamesLaws.{names_places, names_other, names_column, weight_name_once}

-- a field that names the weights is their name
module _ (f : List ℕ) where
  not_this : (name : List ℕ) (column : Column) (other : Option Column) → same_column (Some column) (Some Weight) ≡ false
      → same_column (column_if f name column other) (Some Weight) ≡ true → same_column other (Some Weight) ≡ true
  unfolding column_if
  not_this name column other n e = go (same_bytes f name) e
    where
      go : (t : Bool) → same_column (cond t (Some column) other) (Some Weight) ≡ true → same_column other (Some Weight) ≡ true
      go true e = absurd (false≢true (sym n ∙ e))
      go false e = e

  this : same_column (column_if f (ascii "weight") Weight None) (Some Weight) ≡ true → f ≡ ascii "weight"
  unfolding column_if same_column
  this e = go (same_bytes f (ascii "weight")) refl e
    where
      go : (t : Bool) → same_bytes f (ascii "weight") ≡ t → same_column (cond t (Some Weight) None) (Some Weight) ≡ true
          → f ≡ ascii "weight"
      go true h e = same_equal f (ascii "weight") h
      go false h e = absurd (false≢true e)

  weight_field : same_column (column_named f) (Some Weight) ≡ true → f ≡ ascii "weight"
  unfolding column_named same_column
  weight_field e =
      this
      (not_this (ascii "dir") _ _ refl
      (not_this (ascii "col") _ _ refl
      (not_this (ascii "row") _ _ refl
      (not_this (ascii "split") _ _ refl
      (not_this (ascii "least") _ _ refl
      (not_this (ascii "depth") _ _ refl
      (not_this (ascii "cols") _ _ refl (not_this (ascii "rows") _ _ refl e))))))))

bad_not_named : {c : Columns} → None ≡ Some c → ⊥
bad_not_named {c} e = let z : ◌≡◌ {A = ℕ} 0 1 = cc in omega arith

-- the first field of a good line names a column, and the later ones are good
first_named : (place : ℕ) (f : List ℕ) (fs : List (List ℕ)) (c d : Columns) → names_from place (f ∷ fs) c ≡ Some d
    → (same_column (column_named f) None ≡ false) ×
    (names_from (place + 1) fs (with_column c place (column_named f)) ≡ Some d)
first_named place f fs c d e = go (same_column (column_named f) None) refl
  where
    go : (t : Bool) → same_column (column_named f) None ≡ t → (same_column (column_named f) None ≡ false) ×
        (names_from (place + 1) fs (with_column c place (column_named f)) ≡ Some d)
    go true h = absurd (bad_not_named (sym (names_other place c f fs h) ∙ e))
    go false h = (h, sym (names_column place c f fs h) ∙ e)

done : (place : ℕ) (c d : Columns) → names_from place [] c ≡ Some d → c ≡ d
unfolding names_from
done place c d e = go (leb place most_columns) e
  where
    go : (t : Bool) → cond t (Some c) None ≡ Some d → c ≡ d
    go true e = cc
    go false e = absurd (bad_not_named e)

-- later fields leave the first two columns as they are
later : (place : ℕ) (fs : List (List ℕ)) (c d : Columns) → 2 ≤ place → names_from place fs c ≡ Some d
    → (column_at c 0 ≡ column_at d 0) × (column_at c 1 ≡ column_at d 1)
unfolding with_column column_at
later place [] c d h e =
    let is = done place c d e in
    (ap (λ (x : Columns). column_at x 0) is, ap (λ (x : Columns). column_at x 1) is)
later place (f ∷ fs) c d h e =
    rw (
      get_or-set_other c.places place 0 (column_named f) None (λ z. omega arith),
      get_or-set_other c.places place 1 (column_named f) None (λ z. omega arith),
    ) at
    (later (place + 1) fs (with_column c place (column_named f)) d (omega arith) (first_named place f fs c d e).1)

-- where the first two of five places are named, at most three are left
few_left : (c : Columns) → length c.places ≡ 5 → same_column (column_at c 0) None ≡ false
    → same_column (column_at c 1) None ≡ false → count_column c None ≤ 3
unfolding column_at count_column
few_left c five first second = go c.places five first second
  where
    go : (xs : List (Option Column)) → length xs ≡ 5 → same_column (get_or xs 0 None) None ≡ false
        → same_column (get_or xs 1 None) None ≡ false → count_by (λ y. same_column y None) xs ≤ 3
    go [] n a b = omega arith
    go (x ∷ []) n a b = absurd (omega arith)
    go (x ∷ y ∷ xs) n a b = rw (a, b) (omega (arith, n, count_by-le-length (λ y. same_column y None) xs))

-- the weights' line has one field, and it is the name
one_name : (fs : List (List ℕ)) {c : Columns} → names_from 0 fs no_columns ≡ Some c → count_column c (Some Weight) ≡ 1
    → count_column c None ≡ 4 → fs ≡ ascii "weight" ∷ []
unfolding count_column same_column with_column column_at
one_name [] {c} e weight left =
    let is : no_columns ≡ c = done 0 no_columns c e in
    absurd (omega (arith, ap (λ (d : Columns). count_column d (Some Weight)) is))
one_name (f ∷ []) {c} e weight left =
    let is : with_column no_columns 0 (column_named f) ≡ c = done 1 _ c (first_named 0 f [] no_columns c e).1 in
    let count : count_column (with_column no_columns 0 (column_named f)) (Some Weight) ≡ 1 =
    ap (λ (d : Columns). count_column d (Some Weight)) is ∙ weight in
    let once : cond {A = ℕ} (same_column (column_named f) (Some Weight)) 1 0
    ≡ count_column (with_column no_columns 0 (column_named f)) (Some Weight) = omega arith in
    ap (λ (g : List ℕ). g ∷ []) (weight_field f (go (same_column (column_named f) (Some Weight)) refl (once ∙ count)))
  where
    go : (t : Bool) → same_column (column_named f) (Some Weight) ≡ t → cond {A = ℕ} t 1 0 ≡ 1
        → same_column (column_named f) (Some Weight) ≡ true
    go true h e = h
    go false h e = absurd (omega arith)
one_name (f ∷ g ∷ fs) {c} e weight left =
    let first = first_named 0 f (g ∷ fs) no_columns c e in
    let second = first_named 1 g fs (with_column no_columns 0 (column_named f)) c first.1 in
    let kept = later 2 fs _ c (omega arith) second.1 in
    let a : same_column (column_at c 0) None ≡ false = ap (λ (x : Option Column). same_column x None) (sym kept.0)
    ∙ first.0 in
    let b : same_column (column_at c 1) None ≡ false = ap (λ (x : Option Column). same_column x None) (sym kept.1)
    ∙ second.0 in
    absurd (omega (arith, left, few_left c (names_places 0 (f ∷ g ∷ fs) no_columns c e) a b))

from_line : (s : List ℕ) {c : Columns} → names_line weight_columns s ≡ Some c
    → names_from 0 (fields s) no_columns ≡ Some c
unfolding names_line
from_line s {c} e = go (fits_line s) (names_from 0 (fields s) no_columns) refl e
  where
    good : (d : Columns) (t : Bool) → cond t (Some d) None ≡ Some c → Some d ≡ Some c
    good d true e = e
    good d false e = absurd (bad_not_named e)

    go : (t : Bool) (l : NamesLine) → names_from 0 (fields s) no_columns ≡ l
        → cond t (if_expected weight_columns l) None ≡ Some c → names_from 0 (fields s) no_columns ≡ Some c
    go true (Some d) is e = is ∙ good d (same_columns weight_columns d) e
    go true None is e = absurd (bad_not_named e)
    go false l is e = absurd (bad_not_named e)

pub weight_alone : (s : List ℕ) {c : Columns} → names_line weight_columns s ≡ Some c → s ≡ ascii "weight"
weight_alone s e =
    let once = weight_name_once s e in
    one_field s (one_name (fields s) (from_line s e) once.0 once.1)
