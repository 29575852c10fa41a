-- A refusal of a line or of the end names no place.
use mathlib.Core.Path.{◌≡◌, refl, ap, ◌∙◌}
use mathlib.Core.Bool.{Bool, true, false, cond}
use mathlib.Core.List.{List}
use Prim.Native.Nat.{ℕ, ◌+◌}
use lib.Dec.{eqb}
use lib.ListN.{length}
use Rattle.std.specs.Prelude.{Err, None, Option, Some}
use Rattle.sheet.specs.declared.Refusal.{Refusal}
use Rattle.sheet.specs.Answer.{Outcome, Accepted, Refused}
use Rattle.faults.specs.declared.Sizes.{Sizes}
use Rattle.faults.specs.declared.Cell.{Cell}
use Rattle.faults.specs.Faults.{sizes_in, sizes_fault, weight_fault, cell_in, cell_fault}
use Rattle.lines.specs.declared.columns.Columns.{Columns}
use Rattle.lines.specs.declared.values.Values.{Values}
use Rattle.lines.specs.Values.{first_value, values_line}
use Rattle.names.specs.Columns.{weight_columns, cell_columns}
use Rattle.names.specs.Names.{names_line, size_names_line}
use Rattle.intake.specs.declared.Stage.{Stage}
use Rattle.intake.specs.declared.Stage.TheVariants.{WaitingForSizeNames, WaitingForSizes}
use Rattle.intake.specs.declared.Stage.TheVariants.{WaitingForWeightOrCellNames, WaitingForWeight}
use Rattle.intake.specs.declared.Stage.TheVariants.{WaitingForCellNames, TakingCells, Ended}
use Rattle.intake.specs.declared.Intake.{Intake}
use Rattle.intake.specs.Intake.{accept, after_weights, sizes_written, weight_written, cell_written, state_fault}
use Rattle.intake.specs.Intake.{LentSheet, After, refuse, unless, on_size_names, on_sizes, on_cell_names}
use Rattle.intake.specs.Intake.{on_weight_or_cell_names, on_weight, on_cells, line_in, line_after, end_in, end_taken}

abbrev pub Unplaced : Outcome → Type 0
Unplaced Accepted = Unit
Unplaced (Err refusal) = refusal.place ≡ 0

-- so its number is all that it tells
pub by_number : {o : Outcome} {refusal : Refusal} → Unplaced o → o ≡ Err refusal → o ≡ Refused refusal.number 0
by_number {o} {refusal} u e =
    let none : refusal.place ≡ 0 = rw e at u in
    e ∙ ap (λ (place : ℕ). Refused refusal.number place) none

unless_unplaced : (fault : ℕ) (s : Stage) (T : LentSheet) (next : After) → Unplaced next.taken.outcome
    → Unplaced (unless fault s T next).taken.outcome
unfolding unless
unless_unplaced fault s T next later = go (eqb fault 0)
  where
    go : (b : Bool) → Unplaced (cond b next (refuse s T fault)).taken.outcome
    go true = later
    go false = refl

size_names : (n : Option Columns) → Unplaced (on_size_names n).outcome
unfolding on_size_names
size_names (Some c) = tt
size_names None = refl

cell_names : (s : Stage) (z : Sizes) (n : Option Columns) → Unplaced (on_cell_names s z n).outcome
unfolding on_cell_names
cell_names s z (Some c) = tt
cell_names s z None = refl

weight_or_cell_names : (z : Sizes) (n m : Option Columns) → Unplaced (on_weight_or_cell_names z n m).outcome
unfolding on_weight_or_cell_names
weight_or_cell_names z (Some c) m = tt
weight_or_cell_names z None m = cell_names (WaitingForWeightOrCellNames z) z m

sizes : (c : Columns) (v : Option Values) (T : LentSheet) → Unplaced (on_sizes c v T).taken.outcome
unfolding on_sizes
sizes c (Some v) T =
    let z : Sizes = sizes_in c v in
    unless_unplaced (sizes_fault z (length T.dirs) (length T.weights)) (WaitingForSizes c) T
    (accept (WaitingForWeightOrCellNames z) (sizes_written z T)) tt
sizes c None T = refl

weight : (z : Sizes) (row : ℕ) (v : Option Values) (T : LentSheet) → Unplaced (on_weight z row v T).taken.outcome
unfolding on_weight
weight z row (Some v) T =
    unless_unplaced (weight_fault (first_value v)) (WaitingForWeight z row) T
    (accept (after_weights z (row + 1)) (weight_written row (first_value v) T)) tt
weight z row None T = refl

cell : (z : Sizes) (c : Columns) (v : Option Values) (T : LentSheet) → Unplaced (on_cells z c v T).taken.outcome
unfolding on_cells
cell z c (Some v) T =
    let x : Cell = cell_in c v in
    unless_unplaced (cell_fault z x T.dirs) (TakingCells z c) T (accept (TakingCells z c) (cell_written z x T)) tt
cell z c None T = refl

line_in_unplaced : (s : Stage) (line : List ℕ) (T : LentSheet) → Unplaced (line_in s line T).taken.outcome
unfolding line_in
line_in_unplaced WaitingForSizeNames line T = size_names (size_names_line line)
line_in_unplaced (WaitingForSizes c) line T = sizes c (values_line c line) T
line_in_unplaced (WaitingForWeightOrCellNames z) line T =
    weight_or_cell_names z (names_line weight_columns line) (names_line cell_columns line)
line_in_unplaced (WaitingForWeight z row) line T = weight z row (values_line weight_columns line) T
line_in_unplaced (WaitingForCellNames z) line T =
    cell_names (WaitingForCellNames z) z (names_line cell_columns line)
line_in_unplaced (TakingCells z c) line T = cell z c (values_line c line) T
line_in_unplaced (Ended z) line T = refl

pub line_unplaced : (i : Intake) (line : List ℕ) (T : LentSheet) → Unplaced (line_after i line T).taken.outcome
unfolding line_after
line_unplaced i line T =
    unless_unplaced (state_fault i.stage (length T.dirs) (length T.weights)) i.stage T (line_in i.stage line T)
    (line_in_unplaced i.stage line T)

end_in_unplaced : (s : Stage) → Unplaced (end_in s).outcome
unfolding end_in
end_in_unplaced WaitingForSizeNames = refl
end_in_unplaced (WaitingForSizes c) = refl
end_in_unplaced (WaitingForWeightOrCellNames z) = refl
end_in_unplaced (WaitingForWeight z row) = refl
end_in_unplaced (WaitingForCellNames z) = refl
end_in_unplaced (TakingCells z c) = tt
end_in_unplaced (Ended z) = refl

pub end_unplaced : (i : Intake) → Unplaced (end_taken i).outcome
unfolding end_taken
end_unplaced i = end_in_unplaced i.stage
