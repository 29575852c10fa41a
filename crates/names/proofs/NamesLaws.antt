-- Laws of names lines.
use Rattle.std.proofs.Common.{Option, Some, None}
use Prim.Native.Nat.{ℕ, ◌+◌, ◌<◌, ◌≤◌}
use mathlib.Core.Path.{◌≡◌, refl, sym, ap, ◌∙◌}
use mathlib.Core.List.{List, [], ◌∷◌}
use mathlib.Core.Bool.{Bool, true, false, cond, and-eq-true_iff}
use native.Mathlib.Omega.{arith}
use borrow.Author.Tests.{le-leb, lt-leb, eqb-true}
use lib.Dec.{leb}
use lib.ListN.{length, drop, drop_of_length-le, length-set}
use Rattle.lines.specs.declared.columns.Column.{Column}
use Rattle.lines.specs.declared.columns.Column.TheVariants.{Rows, Cols, Depth, Least, Split}
use Rattle.lines.specs.declared.columns.Column.TheVariants.{Row, Col, Dir, Weight}
use Rattle.lines.specs.declared.columns.Columns.{Columns}
use Rattle.lines.specs.Fields.{line_bytes, fits_line, fields}
use Rattle.lines.specs.Columns.{most_columns, same_column}
use Rattle.names.specs.Columns.{column_named, with_column, no_columns, count_column, as_often, same_columns}
use Rattle.names.specs.Columns.{size_columns, split_size_columns, weight_columns, cell_columns}
use Rattle.names.specs.Names.{NamesLine, names_from, if_expected, names_line, size_names_line}
use Rattle.lines.proofs.ColumnLaws.{equal_is}

-- no column, and a column
pub none_left : same_column None None ≡ true
unfolding same_column
none_left = refl

pub named_column : (x : Column) → same_column (Some x) None ≡ false
named_column x = sym (equal_is (Some x) None)

-- Column by column.
module _ (place : ℕ) (c : Columns) where
  -- past the last field
  pub names_done : (fs : List (List ℕ)) → length fs ≤ place → place ≤ most_columns
      → names_from place (drop place fs) c ≡ Some c
  unfolding names_from
  names_done fs h e = rw (drop_of_length-le fs h, le-leb place most_columns e)

  pub names_over : (fs : List (List ℕ)) → length fs ≤ place → most_columns < place
      → names_from place (drop place fs) c ≡ None
  unfolding names_from
  names_over fs h n = rw (drop_of_length-le fs h, lt-leb place most_columns n)

  module _ (f : List ℕ) (fs : List (List ℕ)) where
    pub names_other : same_column (column_named f) None ≡ true → names_from place (f ∷ fs) c ≡ None
    unfolding names_from
    names_other e = rw e

    pub names_column : same_column (column_named f) None ≡ false
        → names_from place (f ∷ fs) c ≡ names_from (place + 1) fs (with_column c place (column_named f))
    unfolding names_from
    names_column e = rw e

    -- by what the field names
    pub names_none : column_named f ≡ None → names_from place (f ∷ fs) c ≡ None
    names_none e = names_other (rw e none_left)

    pub names_some : {x : Column} → column_named f ≡ Some x
        → names_from place (f ∷ fs) c ≡ names_from (place + 1) fs (with_column c place (Some x))
    names_some {x} e = names_column (rw e (named_column x)) ∙ rw e

-- The whole line.
module _ (expected : Columns) (s : List ℕ) where
  pub names_long : line_bytes < length s → names_line expected s ≡ None
  unfolding names_line
  names_long h = rw (lt-leb (length s) line_bytes h)

  module _ (fits : length s ≤ line_bytes) where
    pub names_bad : names_from 0 (fields s) no_columns ≡ None → names_line expected s ≡ None
    unfolding names_line
    names_bad e = rw (le-leb (length s) line_bytes fits, e)

    pub names_expected : {c : Columns} → names_from 0 (fields s) no_columns ≡ Some c → same_columns expected c ≡ true
        → names_line expected s ≡ Some c
    unfolding names_line
    names_expected e t = rw (le-leb (length s) line_bytes fits, e, t)

    pub names_unexpected : {c : Columns} → names_from 0 (fields s) no_columns ≡ Some c → same_columns expected c ≡ false
        → names_line expected s ≡ None
    unfolding names_line
    names_unexpected e t = rw (le-leb (length s) line_bytes fits, e, t)

-- a line read with the expected columns
pub names_as : (s : List ℕ) {given expected : Columns} {l : NamesLine} → given ≡ expected → l ≡ names_line given s
    → l ≡ names_line expected s
names_as s is e = rw is at e

-- The sizes' names: without least and split, and where that is no good line, with them.
module _ (s : List ℕ) {first : Columns} (is : first ≡ size_columns) where
  pub size_names_first : {c : Columns} → names_line first s ≡ Some c → Some c ≡ size_names_line s
  unfolding size_names_line
  size_names_first e = sym (rw (rw is at e))

  pub size_names_second : names_line first s ≡ None → {second : Columns} {l : NamesLine} → second ≡ split_size_columns
      → l ≡ names_line second s → l ≡ size_names_line s
  unfolding size_names_line
  size_names_second n second_is e = sym (rw (rw is at n) (sym (rw second_is at e)))

pub size_names_long : (s : List ℕ) → line_bytes < length s → size_names_line s ≡ None
unfolding size_names_line
size_names_long s h = rw (names_long size_columns s h, names_long split_size_columns s h)

-- Three fields that name columns give these columns, in their order; so do five.
pub three_names : (f g h : List ℕ) → same_column (column_named f) None ≡ false
    → same_column (column_named g) None ≡ false → same_column (column_named h) None ≡ false
    → names_from 0 (f ∷ g ∷ h ∷ []) no_columns ≡ Some (record { places = column_named f ∷ column_named g ∷ column_named h ∷ None ∷ None ∷ [] })
unfolding names_from
three_names f g h a b c = rw (a, b, c)

pub five_names : (f g h k l : List ℕ) → same_column (column_named f) None ≡ false
    → same_column (column_named g) None ≡ false → same_column (column_named h) None ≡ false
    → same_column (column_named k) None ≡ false → same_column (column_named l) None ≡ false
    → names_from 0 (f ∷ g ∷ h ∷ k ∷ l ∷ []) no_columns ≡ Some (record { places = column_named f ∷ column_named g ∷ column_named h ∷ column_named k ∷ column_named l ∷ [] })
unfolding names_from
five_names f g h k l a b c d e = rw (a, b, c, d, e)

-- a line has five places
pub names_places : (place : ℕ) (fs : List (List ℕ)) (c d : Columns) → names_from place fs c ≡ Some d
    → length d.places ≡ length c.places
unfolding names_from with_column
names_places place [] c d e = go (leb place most_columns) e
  where
    go : (t : Bool) → cond t (Some c) None ≡ Some d → length d.places ≡ length c.places
    go true e = let is : c ≡ d = cc in ap (λ (x : Columns). length x.places) (sym is)
    go false e = let z : ◌≡◌ {A = ℕ} 0 1 = cc in absurd (omega arith)
names_places place (f ∷ fs) c d e =
    go (same_column (column_named f) None) e (names_places (place + 1) fs (with_column c place (column_named f)) d)
  where
    go : (t : Bool) → cond t None (names_from (place + 1) fs (with_column c place (column_named f))) ≡ Some d
        → (names_from (place + 1) fs (with_column c place (column_named f)) ≡ Some d
        → length d.places ≡ length (with_column c place (column_named f)).places) → length d.places ≡ length c.places
    go true e ih = let z : ◌≡◌ {A = ℕ} 0 1 = cc in absurd (omega arith)
    go false e ih = ih e ∙ length-set c.places place (column_named f)

pub line_places : (expected : Columns) (s : List ℕ) {c : Columns} → names_line expected s ≡ Some c → length c.places ≡ 5
unfolding names_line
line_places expected s {c} e = go (fits_line s) (names_from 0 (fields s) no_columns) refl e
  where
    good : (d : Columns) → names_from 0 (fields s) no_columns ≡ Some d → (t : Bool)
        → cond t (Some d) None ≡ Some c → length c.places ≡ 5
    good d is true e =
        let same : d ≡ c = cc in
        ap (λ (x : Columns). length x.places) (sym same) ∙ names_places 0 (fields s) no_columns d is
    good d is false e = let z : ◌≡◌ {A = ℕ} 0 1 = cc in absurd (omega arith)

    go : (t : Bool) (l : NamesLine) → names_from 0 (fields s) no_columns ≡ l
        → cond t (if_expected expected l) None ≡ Some c → length c.places ≡ 5
    go true (Some d) is e = good d is (same_columns expected d) e
    go true None is e = let z : ◌≡◌ {A = ℕ} 0 1 = cc in absurd (omega arith)
    go false l is e = let z : ◌≡◌ {A = ℕ} 0 1 = cc in absurd (omega arith)

-- An accepted line has each expected column as often as it is expected; so each size, and each part of a cell, exactly
-- once.
names_good : (expected : Columns) (s : List ℕ) {c : Columns} → names_line expected s ≡ Some c
    → same_columns expected c ≡ true
unfolding names_line
names_good expected s {c} e = go (fits_line s) (names_from 0 (fields s) no_columns) e
  where
    good : (d : Columns) (t : Bool) → same_columns expected d ≡ t → cond t (Some d) None ≡ Some c
        → same_columns expected c ≡ true
    good d true g e = let d-is : d ≡ c = cc in ap (same_columns expected) (sym d-is) ∙ g
    good d false g e = let z : ◌≡◌ {A = ℕ} 0 1 = cc in absurd (omega arith)

    go : (t : Bool) (l : NamesLine) → cond t (if_expected expected l) None ≡ Some c → same_columns expected c ≡ true
    go true (Some d) e = good d (same_columns expected d) refl e
    go true None e = let z : ◌≡◌ {A = ℕ} 0 1 = cc in absurd (omega arith)
    go false l e = let z : ◌≡◌ {A = ℕ} 0 1 = cc in absurd (omega arith)

-- a column stands among columns as often as it is expected
abbrev Often : Columns → Columns → Option Column → Type 0
Often expected c x = count_column c x ≡ count_column expected x

same_count : (x y z u v : Option Column) (c : Columns)
    → let expected : Columns = record { places = x ∷ y ∷ z ∷ u ∷ v ∷ [] } in
    same_columns expected c ≡ true
    → Often expected c x × Often expected c y × Often expected c z × Often expected c u × Often expected c v
unfolding same_columns as_often
same_count x y z u v c e =
    let one = (and-eq-true_iff _ _).0 e in
    let two = (and-eq-true_iff _ _).0 one.1 in
    let three = (and-eq-true_iff _ _).0 two.1 in
    let four = (and-eq-true_iff _ _).0 three.1 in
    let five = (and-eq-true_iff _ _).0 four.1 in (
      eqb-true _ _ one.0,
      eqb-true _ _ two.0,
      eqb-true _ _ three.0,
      eqb-true _ _ four.0,
      eqb-true _ _ five.0,
    )

module _ (s : List ℕ) {c : Columns} where
  pub size_names_once : names_line size_columns s ≡ Some c
      → (count_column c (Some Rows) ≡ 1) × (count_column c (Some Cols) ≡ 1) × (count_column c (Some Depth) ≡ 1) × (count_column c None ≡ 2)
  unfolding count_column same_column
  size_names_once e =
      let all = same_count _ _ _ _ _ c (names_good size_columns s e) in
      (all.0, all.1, all.2, all.3)

  pub split_size_names_once : names_line split_size_columns s ≡ Some c
      → (count_column c (Some Rows) ≡ 1) × (count_column c (Some Cols) ≡ 1) × (count_column c (Some Depth) ≡ 1) × (count_column c (Some Least) ≡ 1) ×
      (count_column c (Some Split) ≡ 1)
  unfolding count_column same_column
  split_size_names_once e = same_count _ _ _ _ _ c (names_good split_size_columns s e)

  pub weight_name_once : names_line weight_columns s ≡ Some c → (count_column c (Some Weight) ≡ 1) × (count_column c None ≡ 4)
  unfolding count_column same_column
  weight_name_once e =
      let all = same_count _ _ _ _ _ c (names_good weight_columns s e) in
      (all.0, all.1)

  pub cell_names_once : names_line cell_columns s ≡ Some c
      → (count_column c (Some Row) ≡ 1) × (count_column c (Some Col) ≡ 1) × (count_column c (Some Dir) ≡ 1) × (count_column c None ≡ 2)
  unfolding count_column same_column
  cell_names_once e =
      let all = same_count _ _ _ _ _ c (names_good cell_columns s e) in
      (all.0, all.1, all.2, all.3)
