-- The cell in a row and a column lies on the sheet, and its number fits.
use Prim.Native.Nat.{ℕ, ◌+◌, ◌*◌, ◌<◌}
use native.Mathlib.Omega.{arith}
use Rattle.sheet.proofs.Cells.{cells_most, cell_lt}
use Rattle.directions.specs.Sizes.{OnSheet}

module _ {rows cols row col : ℕ} (on : OnSheet rows cols row col) where
  pub on_lt : row * cols + col < rows * cols
  on_lt = cell_lt on.row_on on.col_on

  pub on_fits : row * cols + col < 65536
  on_fits = omega (arith, on_lt, cells_most on.rows_most on.cols_most)
