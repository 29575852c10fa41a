-- The statements of specs/SizeNames, proved.
use Rattle.std.proofs.Common.{Option, Some, None}
use Prim.Native.Nat.{ℕ, ◌+◌, ◌≤◌}
use mathlib.Core.Path.{◌≡◌, refl, ◌∙◌}
use mathlib.Core.List.{List}
use mathlib.Core.Bool.{Bool, true, false, cond}
use mathlib.Core.Logic.{◌⊎◌, inl, inr}
use native.Mathlib.Omega.{arith}
use Rattle.lines.specs.declared.columns.Column.{Column}
use Rattle.lines.specs.declared.columns.Column.TheVariants.{Rows, Cols, Depth, Least, Split}
use Rattle.lines.specs.declared.columns.Column.TheVariants.{Row, Col, Dir, Weight}
use Rattle.lines.specs.declared.columns.Columns.{Columns}
use Rattle.lines.specs.Columns.{same_column, column_at, Unnamed}
use Rattle.names.specs.Columns.{count_column, size_columns, split_size_columns}
use Rattle.names.specs.Names.{NamesLine, names_line, or_else, size_names_line}
use Rattle.names.specs.SizeNames.{SizeNames}
use Rattle.names.proofs.NamesLaws.{size_names_once, split_size_names_once, line_places}
use Rattle.std.proofs.lemmas.List.Sums.{sum_by-cons}
use Rattle.lines.proofs.ColumnLaws.{equal_is}
use Rattle.std.proofs.Common.{length, get_or, count_by, sym, zero, suc, [], ◌∷◌}

-- one of the two kinds of line
which : (s : List ℕ) (c : Columns) → size_names_line s ≡ Some c
    → (names_line size_columns s ≡ Some c) ⊎ (names_line split_size_columns s ≡ Some c)
unfolding size_names_line
which s c e = go (names_line size_columns s) refl e
  where
    go : (l : NamesLine) → names_line size_columns s ≡ l → or_else l (names_line split_size_columns s) ≡ Some c
        → (names_line size_columns s ≡ Some c) ⊎ (names_line split_size_columns s ≡ Some c)
    go (Some d) is e = inl (is ∙ e)
    go None is e = inr e

-- a place is at most one of these
named_once : (x : Option Column) → cond (same_column x (Some Rows)) 1 0 + cond (same_column x (Some Cols)) 1 0
    + cond (same_column x (Some Depth)) 1 0 + cond (same_column x None) 1 0 + cond (same_column x (Some Least)) 1 0
    + cond (same_column x (Some Split)) 1 0 ≤ 1
unfolding same_column
named_once None = omega arith
named_once (Some Rows) = omega arith
named_once (Some Cols) = omega arith
named_once (Some Depth) = omega arith
named_once (Some Least) = omega arith
named_once (Some Split) = omega arith
named_once (Some Row) = omega arith
named_once (Some Col) = omega arith
named_once (Some Dir) = omega arith
named_once (Some Weight) = omega arith

-- how often a column stands in places
abbrev often : List (Option Column) → Option Column → ℕ
often xs x = count_by (λ y. same_column y x) xs

more_often : (x : Option Column) (y : Option Column) (xs : List (Option Column))
    → often (x ∷ xs) y ≡ cond (same_column x y) 1 0 + often xs y
more_often x y xs = sum_by-cons (λ z. cond (same_column z y) 1 0) x xs

places_count : (xs : List (Option Column))
    → often xs (Some Rows) + often xs (Some Cols) + often xs (Some Depth) + often xs None + often xs (Some Least)
    + often xs (Some Split) ≤ length xs
places_count [] = omega arith
places_count (x ∷ xs) =
    omega (
      arith,
      named_once x,
      places_count xs,
      more_often x (Some Rows) xs,
      more_often x (Some Cols) xs,
      more_often x (Some Depth) xs,
      more_often x None xs,
      more_often x (Some Least) xs,
      more_often x (Some Split) xs,
    )

-- five columns, of which each size is one and two are None, leave no place for least and split
no_place : (c : Columns) → length c.places ≡ 5 → count_column c (Some Rows) ≡ 1 → count_column c (Some Cols) ≡ 1
    → count_column c (Some Depth) ≡ 1 → count_column c None ≡ 2
    → (count_column c (Some Least) ≡ 0) × (count_column c (Some Split) ≡ 0)
unfolding count_column
no_place c five rows cols depth none =
    let all = places_count c.places in
    (omega (arith, all, five, rows, cols, depth, none), omega (arith, all, five, rows, cols, depth, none))

-- a column that stands there no time is not named
none_of : (xs : List (Option Column)) (x : Column) → often xs (Some x) ≡ 0 → (place : ℕ)
    → same_column (get_or xs place None) (Some x) ≡ false
none_of [] x e place = sym (equal_is None (Some x))
none_of (y ∷ ys) x e place =
    go (same_column y (Some x)) refl (sym (more_often y (Some x) ys) ∙ e) (none_of ys x) place
  where
    go : (t : Bool) → same_column y (Some x) ≡ t → cond t 1 0 + often ys (Some x) ≡ 0
        → (often ys (Some x) ≡ 0 → (k : ℕ) → same_column (get_or ys k None) (Some x) ≡ false) → (place : ℕ)
        → same_column (get_or (y ∷ ys) place None) (Some x) ≡ false
    go true is e ih place = absurd (omega (arith, e))
    go false is e ih zero = is
    go false is e ih (suc place) = ih (omega (arith, e)) place

unnamed : (c : Columns) (x : Column) → count_column c (Some x) ≡ 0 → Unnamed c x
unfolding count_column column_at
unnamed c x e = none_of c.places x e

sizes_once : (s : List ℕ) (c : Columns) → size_names_line s ≡ Some c
    → (count_column c (Some Rows) ≡ 1) × (count_column c (Some Cols) ≡ 1) × (count_column c (Some Depth) ≡ 1)
sizes_once s c e = go (which s c e)
  where
    go : (names_line size_columns s ≡ Some c) ⊎ (names_line split_size_columns s ≡ Some c)
        → (count_column c (Some Rows) ≡ 1) × (count_column c (Some Cols) ≡ 1) × (count_column c (Some Depth) ≡ 1)
    go (inl e) = let all = size_names_once s e in (all.0, all.1, all.2)
    go (inr e) = let all = split_size_names_once s e in (all.0, all.1, all.2)

both_or_neither : (s : List ℕ) (c : Columns) → size_names_line s ≡ Some c
    → ((count_column c (Some Least) ≡ 1) × (count_column c (Some Split) ≡ 1)) ⊎
    (Unnamed c Least × Unnamed c Split × (count_column c None ≡ 2))
unfolding same_column
both_or_neither s c e = go (which s c e)
  where
    go : (names_line size_columns s ≡ Some c) ⊎ (names_line split_size_columns s ≡ Some c)
        → ((count_column c (Some Least) ≡ 1) × (count_column c (Some Split) ≡ 1)) ⊎
        (Unnamed c Least × Unnamed c Split × (count_column c None ≡ 2))
    go (inl e) =
        let all = size_names_once s e in
        let none = no_place c (line_places size_columns s e) all.0 all.1 all.2 all.3 in
        inr (unnamed c Least none.0, unnamed c Split none.1, all.3)
    go (inr e) = let all = split_size_names_once s e in inl (all.3, all.4)

five_places : (s : List ℕ) (c : Columns) → size_names_line s ≡ Some c → length c.places ≡ 5
five_places s c e = go (which s c e)
  where
    go : (names_line size_columns s ≡ Some c) ⊎ (names_line split_size_columns s ≡ Some c) → length c.places ≡ 5
    go (inl e) = line_places size_columns s e
    go (inr e) = line_places split_size_columns s e

pub size_names : SizeNames
size_names = record { five_places = five_places; sizes_once = sizes_once; both_or_neither = both_or_neither }
