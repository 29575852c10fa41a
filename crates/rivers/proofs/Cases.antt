-- Sample A in the order along rivers: the labels of its cells, and which of them stand before the next. A label of 19
-- digits.
use mathlib.Core.Path.{◌≡◌, refl}
use mathlib.Core.Bool.{Bool, true, false}
use mathlib.Core.List.{List, [], ◌∷◌, ◌++◌, map}
use Prim.Native.Nat.{ℕ}
use lib.ListN.{replicate}
use Rattle.sheet.specs.Sheet.{Grid, Sheet, grid}
use Rattle.sheet.specs.Record.{number, numbers_of}
use Rattle.sheet.specs.Label.{label_digits, label_of}
use Rattle.sheet.specs.Cases.{sample_a, sheet, split_sheet}
use Rattle.claims.specs.Dictionary.{is_before}

abbrev pub sample_sheet : Sheet
sample_sheet = sheet sample_a 2

-- each cell, then its donors from lightest to heaviest, each with all that drains to it
abbrev pub sample_order : List ℕ
sample_order = 4 ∷ 8 ∷ 5 ∷ 9 ∷ 10 ∷ 1 ∷ 2 ∷ 6 ∷ 3 ∷ 7 ∷ 11 ∷ []

abbrev pub before_next : List (List ℕ) → List Bool
unfolding is_before
before_next [] = []
before_next (x ∷ []) = []
before_next (x ∷ y ∷ l) = is_before x y ∷ before_next (y ∷ l)

pub sample_labels : map (λ c. number (label_digits sample_sheet c)) sample_order
    ≡ (1 ∷ 2 ∷ 3 ∷ 4 ∷ 6 ∷ 8 ∷ 8 ∷ 91 ∷ 92 ∷ 93 ∷ 93 ∷ [])
unfolding label_digits number
sample_labels = refl

-- cells 1 and 2 share a label, and cells 7 and 11
pub sample_rises : before_next (map (label_digits sample_sheet) sample_order)
    ≡ (true ∷ true ∷ true ∷ true ∷ true ∷ false ∷ true ∷ true ∷ true ∷ false ∷ [])
unfolding label_digits before_next
sample_rises = refl

-- A river along the second row of 20 columns, with a mouth at each cell but the last, split one at a time: of equal
-- mouths the last is the heaviest, so that each split takes one off the end. The outlet, cell 20, and the mouth at it,
-- cell 0, have 19 digits.
abbrev pub comb : Grid
comb = grid 2 20 (replicate 20 4 ++ replicate 20 16)

pub nineteen_digits : numbers_of (map (label_of (split_sheet comb 36 1 1)) (20 ∷ 0 ∷ []))
    ≡ (111111111111111111 ∷ 1 ∷ 111111111111111111 ∷ 2 ∷ [])
unfolding label_of numbers_of
nineteen_digits = refl
