-- What the steps of a call ask and promise.
use Rattle.std.specs.Prelude.{◌≡◌, List, ℕ, ◌+◌, ◌*◌, ◌<◌, ◌≤◌, length}
use Rattle.decimal.specs.Text.{overwrite}
use Rattle.sheet.specs.Record.{label_places}

-- a text was written into a buffer from a position on, and `next` is the position after it
pub record Put (before after : List ℕ) (at next : ℕ) (text : List ℕ) : Type 0 where
  pub next_is : next ≡ at + length text
  pub after_is : after ≡ overwrite before at text

-- a sheet that can be listed: at most 256 rows, 1 to 256 columns, and a direction, an area, a label and a basin for
-- each cell
pub record Listable (rows cols : ℕ) (dirs areas labels basins : List ℕ) : Type 0 where
  pub rows_most : rows ≤ 256
  pub cols_most : cols ≤ 256
  pub cols_some : 0 < cols
  pub dirs_long : rows * cols ≤ length dirs
  pub areas_long : rows * cols ≤ length areas
  pub labels_long : rows * cols ≤ label_places (length labels)
  pub basins_long : rows * cols ≤ length basins
