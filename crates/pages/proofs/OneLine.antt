-- A line has no line feed but its own.
use mathlib.Core.Path.{◌≡◌, refl}
use mathlib.Core.Bool.{Bool, true}
use mathlib.Core.List.{List, [], ◌∷◌, ◌++◌}
use Prim.Native.Nat.{ℕ, zero, suc, ◌-◌, ◌/◌, ◌%◌}
use native.Mathlib.Omega.{arith}
use lib.ListN.{length, get_or}
use borrow.Author.Tests.{ltb-true}
use lib.Dec.{ltb}
use Rattle.decimal.specs.Ascii.{blank, line_feed}
use Rattle.sheet.specs.Record.{label_at}
use Rattle.sheet.specs.Sheet.{Grid}
use Rattle.sheet.specs.Refusal.{both}
use Rattle.sheet.proofs.Within.{both_true}
use Rattle.listing.proofs.AsBefore.{OneLine, one_line_join, number_line, label_line}
use Rattle.pages.specs.Field.{blanks, to_right, to_left}
use Rattle.pages.specs.Line.{Texts, fields, line_columns, names, value_texts, cell_texts}

blanks_line : (n : ℕ) → OneLine (blanks n)
blanks_line zero = tt
blanks_line (suc n) = (omega arith, blanks_line n)

right_line : (w : ℕ) (text : List ℕ) → OneLine text → OneLine (to_right w text)
unfolding to_right
right_line w text o = one_line_join (blanks (w - length text)) text (blanks_line (w - length text)) o

left_line : (w : ℕ) (text : List ℕ) → OneLine text → OneLine (to_left w text)
unfolding to_left
left_line w text o = one_line_join text (blanks (w - length text)) o (blanks_line (w - length text))

-- a field, a blank and another text
then_line : (s t : List ℕ) → OneLine s → OneLine t → OneLine (s ++ (blank ∷ t))
then_line s t o p = one_line_join s (blank ∷ t) o (omega arith, p)

columns_line : (t : Texts) → OneLine t.basin → OneLine t.row → OneLine t.col → OneLine t.area
    → OneLine t.label → OneLine (line_columns t)
unfolding line_columns fields
columns_line t basin row col area label =
    let from-label : List ℕ = to_left 36 t.label in
    let from-area : List ℕ = to_right 9 t.area ++ (blank ∷ from-label) in
    let from-col : List ℕ = to_right 4 t.col ++ (blank ∷ from-area) in
    let from_row : List ℕ = to_right 4 t.row ++ (blank ∷ from-col) in
    left_line 72 (to_right 5 t.basin ++ (blank ∷ from_row))
    (then_line (to_right 5 t.basin) from_row (right_line 5 t.basin basin)
    (then_line (to_right 4 t.row) from-col (right_line 4 t.row row)
    (then_line (to_right 4 t.col) from-area (right_line 4 t.col col)
    (then_line (to_right 9 t.area) from-label (right_line 9 t.area area) (left_line 36 t.label label)))))

-- that of a cell
pub cell_one_line : (G : Grid) (areas labels basins : List ℕ) (c : ℕ)
    → OneLine (line_columns (cell_texts G areas labels basins c))
unfolding cell_texts value_texts
cell_one_line G areas labels basins c =
    columns_line (cell_texts G areas labels basins c) (number_line (get_or basins c 0)) (number_line (c / G.cols))
    (number_line (c % G.cols)) (number_line (get_or areas c 0)) (label_line (label_at labels c))

-- a text whose bytes are tested one after the other
abbrev all_above : List ℕ → Bool
all_above [] = true
all_above (b ∷ s) = both (ltb line_feed b) (all_above s)

tested_line : (s : List ℕ) → all_above s ≡ true → OneLine s
tested_line [] e = tt
tested_line (b ∷ s) e =
    let t = both_true (ltb line_feed b) (all_above s) e in (ltb-true line_feed b t.0, tested_line s t.1)

pub names_one_line : OneLine (line_columns names)
names_one_line =
    columns_line names (tested_line names.basin refl) (tested_line names.row refl)
    (tested_line names.col refl) (tested_line names.area refl) (tested_line names.label refl)
