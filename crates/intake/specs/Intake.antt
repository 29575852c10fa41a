-- Document 01's intake, with document 02's weights, least and split: what a line and the end give in each stage.
use Rattle.std.specs.Prelude.{cond, List, ◌++◌, ℕ, ◌+◌, ltb, eqb, length, drop, replicate, set, Err, None, Option, Some}
use Rattle.lines.specs.declared.columns.Columns.{Columns}
use Rattle.names.specs.Names.{NamesLine}
use Rattle.lines.specs.Values.{first_value, ValuesLine}
use Rattle.names.specs.Columns.{weight_columns, cell_columns}
use Rattle.names.specs.Names.{names_line, size_names_line}
use Rattle.lines.specs.Values.{values_line}
use Rattle.sheet.specs.Direction.{cell_number}
use Rattle.faults.specs.declared.Sizes.{Sizes}
use Rattle.faults.specs.declared.Cell.{Cell}
use Rattle.faults.specs.Faults.{sizes_in, cell_in, cell_count, sizes_fault, row_fault, weight_fault, cell_fault}
use Rattle.intake.specs.declared.Stage.{Stage}
use Rattle.intake.specs.declared.Stage.TheVariants.{WaitingForSizeNames, WaitingForSizes}
use Rattle.intake.specs.declared.Stage.TheVariants.{WaitingForWeightOrCellNames, WaitingForWeight}
use Rattle.intake.specs.declared.Stage.TheVariants.{WaitingForCellNames, TakingCells, Ended}
use Rattle.intake.specs.declared.Intake.{Intake}
use Rattle.intake.specs.declared.Taken.{Taken}
use Rattle.sheet.specs.Answer.{Outcome, Accepted, Refused}

-- document 01's number and place of an outcome: both 0 where it is accepted; all intake refusals give place 0
pub record TakenValues : Type 0 where
  pub number : ℕ
  pub place : ℕ

abbrev pub taken_values : Outcome → TakenValues
taken_values Accepted = record { number = 0; place = 0 }
taken_values (Err refusal) = record { number = refusal.number; place = 0 }

-- what is lent to the intake: direction bytes, and weights (16-bit), one place a row
pub record LentSheet : Type 0 where
  pub dirs : List ℕ
  pub weights : List ℕ

abbrev pub lent_sheet : List ℕ → List ℕ → LentSheet
lent_sheet dirs weights = record { dirs = dirs; weights = weights }

-- what a call leaves: the next state beside the outcome, and what was lent
pub record After : Type 0 where
  pub taken : Taken
  pub lent : LentSheet

abbrev pub accepted : Stage → Taken
accepted next = record { intake = record { stage = next }; outcome = Accepted }

-- a refused line or end returns the state it got
abbrev pub refused : Stage → ℕ → Taken
refused stage number = record { intake = record { stage = stage }; outcome = Refused number 0 }

abbrev pub keep : LentSheet → Taken → After
keep lent t = record { taken = t; lent = lent }

abbrev pub accept : Stage → LentSheet → After
accept next lent = keep lent (accepted next)

-- a refused line writes nothing
abbrev pub refuse : Stage → LentSheet → ℕ → After
refuse stage lent number = keep lent (refused stage number)

-- refused by the number of a fault; what follows, if there is none
unfoldable pub unless : ℕ → Stage → LentSheet → After → After
unless fault stage lent next = cond (eqb fault 0) next (refuse stage lent fault)

-- the first n places set to a value
abbrev pub first_set : ℕ → ℕ → List ℕ → List ℕ
first_set n x places = replicate n x ++ drop n places

-- accepted sizes set the first rows × columns direction bytes to 0, and the first `rows` weights to 1
unfoldable pub sizes_written : Sizes → LentSheet → LentSheet
sizes_written z lent = lent_sheet (first_set (cell_count z) 0 lent.dirs) (first_set z.rows 1 lent.weights)

-- an accepted weight line sets its own row's weight and nothing else
unfoldable pub weight_written : ℕ → ℕ → LentSheet → LentSheet
weight_written row weight lent = lent_sheet lent.dirs (set lent.weights row weight)

-- an accepted cell line sets that cell's byte and nothing else
unfoldable pub cell_written : Sizes → Cell → LentSheet → LentSheet
cell_written z x lent =
    lent_sheet (set lent.dirs (cell_number z.cols x.row x.col) x.dir) lent.weights

-- Each stage gives 8 for a line that breaks the file's rules for it. One with a byte 10 breaks those of every stage
-- that takes lines (proofs/BadLines.antt); an ended intake gives 13 for it, and a state with a fault that fault's
-- number, as for any line.
unfoldable pub on_size_names : NamesLine → Taken
on_size_names (Some c) = accepted (WaitingForSizes c)
on_size_names None = refused WaitingForSizeNames 8

-- for a size line 8, then 1, 2, 19, 3
unfoldable pub on_sizes : Columns → ValuesLine → LentSheet → After
unfolding sizes_in sizes_fault unless sizes_written
on_sizes c (Some v) lent =
    let z : Sizes = sizes_in c v in
    unless (sizes_fault z (length lent.dirs) (length lent.weights)) (WaitingForSizes c) lent
    (accept (WaitingForWeightOrCellNames z) (sizes_written z lent))
on_sizes c None lent = refuse (WaitingForSizes c) lent 8

-- cell names, in a stage that takes them
unfoldable pub on_cell_names : Stage → Sizes → NamesLine → Taken
on_cell_names stage z (Some c) = accepted (TakingCells z c)
on_cell_names stage z None = refused stage 8

-- after the sizes: the line is the name of the weights, or cell names
unfoldable pub on_weight_or_cell_names : Sizes → NamesLine → NamesLine → Taken
unfolding on_cell_names
on_weight_or_cell_names z (Some c) cell_names = accepted (WaitingForWeight z 0)
on_weight_or_cell_names z None cell_names = on_cell_names (WaitingForWeightOrCellNames z) z cell_names

-- the stage after the weights of so many rows: it waits for the next row's, and after the last for cell names
unfoldable pub after_weights : Sizes → ℕ → Stage
after_weights z count = cond (ltb count z.rows) (WaitingForWeight z count) (WaitingForCellNames z)

-- for a weight line 8, then 17
unfoldable pub on_weight : Sizes → ℕ → ValuesLine → LentSheet → After
unfolding weight_fault unless after_weights weight_written
on_weight z row (Some v) lent =
    let weight : ℕ = first_value v in
    unless (weight_fault weight) (WaitingForWeight z row) lent
    (accept (after_weights z (row + 1)) (weight_written row weight lent))
on_weight z row None lent = refuse (WaitingForWeight z row) lent 8

-- for a cell line 8, then 9, 4, 10
unfoldable pub on_cells : Sizes → Columns → ValuesLine → LentSheet → After
unfolding cell_in cell_fault unless cell_written
on_cells z c (Some v) lent =
    let x : Cell = cell_in c v in
    unless (cell_fault z x lent.dirs) (TakingCells z c) lent (accept (TakingCells z c) (cell_written z x lent))
on_cells z c None lent = refuse (TakingCells z c) lent 8

-- The sizes, if the state has them, by 1, 2, 19, 3; then 9 if it waits for the weight of a row outside its sheet. An
-- ended state is left to 13, which goes before them.
unfoldable pub state_fault : Stage → ℕ → ℕ → ℕ
unfolding sizes_fault row_fault
state_fault WaitingForSizeNames dirs weights = 0
state_fault (WaitingForSizes c) dirs weights = 0
state_fault (WaitingForWeightOrCellNames z) dirs weights = sizes_fault z dirs weights
state_fault (WaitingForWeight z row) dirs weights = row_fault z row dirs weights
state_fault (WaitingForCellNames z) dirs weights = sizes_fault z dirs weights
state_fault (TakingCells z c) dirs weights = sizes_fault z dirs weights
state_fault (Ended z) dirs weights = 0

-- the line itself
unfoldable pub line_in : Stage → List ℕ → LentSheet → After
unfolding names_line size_names_line values_line on_size_names on_sizes on_weight_or_cell_names on_weight on_cell_names on_cells
line_in WaitingForSizeNames line lent = keep lent (on_size_names (size_names_line line))
line_in (WaitingForSizes c) line lent = on_sizes c (values_line c line) lent
line_in (WaitingForWeightOrCellNames z) line lent =
    keep lent (on_weight_or_cell_names z (names_line weight_columns line) (names_line cell_columns line))
line_in (WaitingForWeight z row) line lent = on_weight z row (values_line weight_columns line) lent
line_in (WaitingForCellNames z) line lent =
    keep lent (on_cell_names (WaitingForCellNames z) z (names_line cell_columns line))
line_in (TakingCells z c) line lent = on_cells z c (values_line c line) lent
line_in (Ended z) line lent = refuse (Ended z) lent 13

-- a line: the state, then the line
unfoldable pub line_after : Intake → List ℕ → LentSheet → After
unfolding state_fault unless line_in
line_after i line lent =
    let next : After = line_in i.stage line lent in
    unless (state_fault i.stage (length lent.dirs) (length lent.weights)) i.stage lent next

-- The end in each stage: 13, then 14. It writes nothing.
unfoldable pub end_in : Stage → Taken
end_in WaitingForSizeNames = refused WaitingForSizeNames 14
end_in (WaitingForSizes c) = refused (WaitingForSizes c) 14
end_in (WaitingForWeightOrCellNames z) = refused (WaitingForWeightOrCellNames z) 14
end_in (WaitingForWeight z row) = refused (WaitingForWeight z row) 14
end_in (WaitingForCellNames z) = refused (WaitingForCellNames z) 14
end_in (TakingCells z c) = accepted (Ended z)
end_in (Ended z) = refused (Ended z) 13

unfoldable pub end_taken : Intake → Taken
unfolding end_in
end_taken i = end_in i.stage

-- the sizes, if the intake has ended
unfoldable pub ended_sizes : Stage → Option Sizes
ended_sizes WaitingForSizeNames = None
ended_sizes (WaitingForSizes c) = None
ended_sizes (WaitingForWeightOrCellNames z) = None
ended_sizes (WaitingForWeight z row) = None
ended_sizes (WaitingForCellNames z) = None
ended_sizes (TakingCells z c) = None
ended_sizes (Ended z) = Some z

abbrev pub new_intake : Intake
new_intake = record { stage = WaitingForSizeNames }
