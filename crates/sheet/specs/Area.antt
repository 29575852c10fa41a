-- Document 01's area, with document 02's weights, and its order among cells.
use Rattle.std.specs.Prelude.{Bool, false, cond, List, ℕ, zero, suc, ◌+◌, ◌/◌, eqb, ltb, get_or}
use Rattle.sheet.specs.Sheet.{Grid, Sheet, cells, inside, next}
use Rattle.sheet.specs.Water.{passes}

-- how many of the first n cells pass a test
unfoldable pub count : ℕ → (ℕ → Bool) → ℕ
count zero test = 0
count (suc n) test = let r = count n test in cond (test n) (suc r) r

-- the sum of f over those of the first n cells that pass a test
unfoldable pub sum_over : ℕ → (ℕ → Bool) → (ℕ → ℕ) → ℕ
sum_over zero test f = 0
sum_over (suc n) test f = let r = sum_over n test f in cond (test n) (r + f n) r

-- the water of an inside cell q passes c
unfoldable pub drains_into : Grid → ℕ → ℕ → Bool
unfolding inside next passes
drains_into G c q = cond (inside G q) (passes (next G) (cells G) q c) false

-- the weight of a cell's row, of weights one a row
abbrev pub row_weight : ℕ → List ℕ → ℕ → ℕ
row_weight cols weights c = get_or weights (c / cols) 0

-- a cell's own weight in an area: that of its row
unfoldable pub weight : Sheet → ℕ → ℕ
weight S c = row_weight S.grid.cols S.weights c

-- "area" of an inside cell: the sum of the weights of the inside cells, itself included, whose water passes it;
-- outside cells have area 0
unfoldable pub area : Sheet → ℕ → ℕ
unfolding inside sum_over drains_into weight
area S c = cond (inside S.grid c) (sum_over (cells S.grid) (drains_into S.grid c) (weight S)) 0

-- "heavier": u has the larger area, or of equal areas the larger cell number
unfoldable pub heavier_by : (ℕ → ℕ) → ℕ → ℕ → Bool
heavier_by area u v = cond (eqb (area u) (area v)) (ltb v u) (ltb (area v) (area u))
