-- Document 02, W4: which cell lines are accepted, and what they do to the direction bytes. Statements about line_after.
use Rattle.std.specs.Prelude.{Some, None}
use Rattle.std.specs.Prelude.{◌≡◌, Bool, true, cond, List, [], ◌∷◌, ℕ, ◌<◌, ◌≤◌, eqb, length, get_or}
use Rattle.lines.specs.declared.columns.Columns.{Columns}
use Rattle.lines.specs.declared.values.Values.{Values}
use Rattle.lines.specs.Values.{ValuesLine}
use Rattle.lines.specs.Values.{values_line}
use Rattle.sheet.specs.Direction.{is_code}
use Rattle.sheet.specs.Refusal.{both}
use Rattle.faults.specs.declared.Sizes.{Sizes}
use Rattle.faults.specs.declared.Cell.{Cell}
use Rattle.faults.specs.Faults.{cell_in, cell_count, on_sheet, byte_of}
use Rattle.intake.specs.declared.Stage.TheVariants.{TakingCells}
use Rattle.intake.specs.declared.Intake.{Intake}
use Rattle.intake.specs.Intake.{LentSheet, accept, refuse, cell_written, state_fault, line_after}
use Rattle.intake.specs.Takes.{Takes}

abbrev pub taking_cells : Sizes → Columns → Intake
taking_cells z c = record { stage = TakingCells z c }

-- ---- one line

-- a line for the cell x that gets none of 1, 2, 19 and 3, by the sizes in the state, and then none of 8, 9 and 4
pub record CellLine (z : Sizes) (c : Columns) (line : List ℕ) (x : Cell) (lent : LentSheet) : Type 0 where
  pub state_good : state_fault (TakingCells z c) (length lent.dirs) (length lent.weights) ≡ 0
  pub values : Values
  pub line_is : values_line c line ≡ Some values
  pub cell_is : x ≡ cell_in c values
  pub on_sheet_lem : on_sheet z x ≡ true
  pub code : is_code x.dir ≡ true

-- ---- any number of lines

-- the cells that lines list, in the order of the lines; a line that breaks the rules lists none
abbrev pub with_cell : Columns → ValuesLine → List Cell → List Cell
with_cell c (Some v) cells = cell_in c v ∷ cells
with_cell c None cells = cells

unfoldable pub cells_listed : Columns → List (List ℕ) → List Cell
unfolding values_line cell_in
cells_listed c [] = []
cells_listed c (line ∷ lines) =
    let later : List Cell = cells_listed c lines in
    with_cell c (values_line c line) later

-- whether a line names the cell in a row and column
abbrev pub is_named : ℕ → ℕ → Cell → Bool
is_named row col x = both (eqb x.row row) (eqb x.col col)

-- the code in the last line that names the cell; what its byte was, where none does
unfoldable pub last_code : ℕ → ℕ → List Cell → ℕ → ℕ
last_code row col [] was = was
last_code row col (x ∷ later) was = last_code row col later (cond (is_named row col x) x.dir was)

-- what accepted cell lines leave
pub record BytesAfter (z : Sizes) (c : Columns) (lent : LentSheet) (lines : List (List ℕ)) (end : Intake)
    (new : LentSheet) : Type 0 where
  pub bytes : (row col : ℕ) → row < z.rows → col < z.cols
      → byte_of z row col new.dirs ≡ last_code row col (cells_listed c lines) (byte_of z row col lent.dirs)
  pub others_kept : (place : ℕ) → cell_count z ≤ place → get_or new.dirs place 0 ≡ get_or lent.dirs place 0
  pub as_long : length new.dirs ≡ length lent.dirs
  pub weights_kept : new.weights ≡ lent.weights
  pub stage_kept : end ≡ taking_cells z c

pub record CellLines : Type 0 where
  -- a line with dir 0 is accepted, whatever the cell's byte is
  pub withdrawal : (z : Sizes) (c : Columns) (line : List ℕ) (x : Cell) (lent : LentSheet) → CellLine z c line x lent
      → x.dir ≡ 0 → line_after (taking_cells z c) line lent ≡ accept (TakingCells z c) (cell_written z x lent)
  -- and the byte is 0 afterwards
  pub withdrawn : (z : Sizes) (c : Columns) (line : List ℕ) (x : Cell) (lent : LentSheet) → CellLine z c line x lent
      → x.dir ≡ 0 → byte_of z x.row x.col (cell_written z x lent).dirs ≡ 0
  -- where the byte is not 0, a line with another code gives 10
  pub byte_not_0 : (z : Sizes) (c : Columns) (line : List ℕ) (x : Cell) (lent : LentSheet) → CellLine z c line x lent
      → (x.dir ≡ 0 → ⊥) → (byte_of z x.row x.col lent.dirs ≡ 0 → ⊥)
      → line_after (taking_cells z c) line lent ≡ refuse (TakingCells z c) lent 10
  -- where it is 0, a line with any code is accepted
  pub byte_0 : (z : Sizes) (c : Columns) (line : List ℕ) (x : Cell) (lent : LentSheet) → CellLine z c line x lent
      → byte_of z x.row x.col lent.dirs ≡ 0
      → line_after (taking_cells z c) line lent ≡ accept (TakingCells z c) (cell_written z x lent)
  -- after a withdrawal of the cell x the same cell may be listed again, as y
  pub listed_again : (z : Sizes) (c : Columns) (line next : List ℕ) (x y : Cell) (lent : LentSheet)
      → CellLine z c line x lent → x.dir ≡ 0 → CellLine z c next y (cell_written z x lent) → y.row ≡ x.row
      → y.col ≡ x.col → line_after (taking_cells z c) next (cell_written z x lent)
      ≡ accept (TakingCells z c) (cell_written z y (cell_written z x lent))
  -- any number of accepted cell lines
  pub after_lines : (z : Sizes) (c : Columns) (lent : LentSheet) (lines : List (List ℕ)) (end : Intake)
      (new : LentSheet) → Takes (taking_cells z c) lent lines end new → BytesAfter z c lent lines end new
