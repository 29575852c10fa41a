-- What check 4 finds, as the benchmark is told it.
use Rattle.std.specs.Prelude.{Bool, cond, List, ℕ, ◌*◌, leb, length, None, Some}
use Rattle.sheet.specs.Sheet.{grid, first}
use Rattle.sheet.specs.Refusal.{both, sizes_fit, bad_code}
use Rattle.sheet.specs.Answer.{Found}

-- 1 to 256 rows and columns, and a byte for each cell
unfoldable pub has_cells : ℕ → ℕ → List ℕ → Bool
unfolding sizes_fit
has_cells rows cols dirs = both (sizes_fit rows cols) (leb (rows * cols) (length dirs))

-- the cell that was found, or n
unfoldable pub cell_or : ℕ → Found → ℕ
cell_or n (Some c) = c
cell_or n None = n

-- the first cell whose byte is none of the nine codes, or how many cells there are; 0 where sizes are outside 1 to 256
-- or bytes are missing
unfoldable pub first_bad_cell : ℕ → ℕ → List ℕ → ℕ
unfolding has_cells cell_or first bad_code
first_bad_cell rows cols dirs =
    cond (has_cells rows cols dirs) (cell_or (rows * cols) (first (bad_code (grid rows cols dirs)) (rows * cols))) 0
