-- What is said of a labelled sheet that is lent.
use Rattle.std.specs.Prelude.{List, ℕ, ◌*◌, ◌/◌, ◌%◌, get_or}
use Rattle.sheet.specs.Record.{label_at}
use Rattle.sheet.specs.Sheet.{Grid, grid}
use Rattle.listing.specs.declared.CellValues.{CellValues}
use Rattle.listing.specs.declared.LabelledSheet.{LabelledSheet}
use Rattle.listing.specs.Listing.{label_text, cell_line, line_of, lines_below}
use Rattle.listing.specs.Steps.{Listable}

abbrev pub grid_of : LabelledSheet → Grid
grid_of sheet = grid sheet.rows sheet.cols sheet.dirs.now

-- the values of a cell
abbrev pub values_at : LabelledSheet → ℕ → CellValues
values_at sheet c = record {
  basin = get_or sheet.basins.now c 0;
  row = c / sheet.cols;
  col = c % sheet.cols;
  area = get_or sheet.areas.now c 0;
  label = label_at sheet.labels.now c;
}

-- the line that they have
abbrev pub values_line : CellValues → List ℕ
values_line v = cell_line v.basin v.row v.col v.area (label_text v.label)

-- the line of a cell
abbrev pub line_at : LabelledSheet → ℕ → List ℕ
line_at sheet = line_of (grid_of sheet) sheet.areas.now sheet.labels.now sheet.basins.now

-- the lines of its inside cells
abbrev pub lines_of : LabelledSheet → List ℕ
lines_of sheet = lines_below (grid_of sheet) (line_at sheet) (sheet.rows * sheet.cols)

abbrev pub CanBeListed : LabelledSheet → Type 0
CanBeListed sheet =
    Listable sheet.rows sheet.cols sheet.dirs.now sheet.areas.now sheet.labels.now sheet.basins.now
