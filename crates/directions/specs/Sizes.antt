-- What the code asks of a sheet's sizes and of a row and a column on it.
use Rattle.std.specs.Prelude.{List, ℕ, ◌*◌, ◌<◌, ◌≤◌, length}
use Rattle.sheet.specs.Sheet.{Grid, grid}
use Rattle.directions.specs.declared.Grid.{Grid as GridValue}

-- the largest count of cells: 256 rows of 256 columns
abbrev pub most_cells : ℕ
most_cells = 65536

-- a row and a column of a sheet of at most 256 each
pub record OnSheet (rows cols row col : ℕ) : Type 0 where
  pub rows_most : rows ≤ 256
  pub cols_most : cols ≤ 256
  pub row_on : row < rows
  pub col_on : col < cols

-- a sheet of at most 256 rows and 1 to 256 columns, with a byte for each cell
pub record Sized (rows cols : ℕ) (dirs : List ℕ) : Type 0 where
  pub rows_most : rows ≤ 256
  pub cols_most : cols ≤ 256
  pub cols_some : 0 < cols
  pub long : rows * cols ≤ length dirs

-- the grid that a value of the code holds
abbrev pub grid_of : GridValue → Grid
grid_of g = grid g.rows g.cols g.dirs.now
