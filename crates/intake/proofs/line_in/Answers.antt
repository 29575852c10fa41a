-- `line_in` meets its contract.
use Rattle.intake.specs.Intake.{line_in}
use Rattle.intake.proofs.StateLaws.{waits_for_row, takes_cells}
use Rattle.intake.proofs.line_in.Goals as goal

pub weight_line-requires : goal.weight_line-requires
weight_line-requires c =
    let row = waits_for_row _ _ _ _ c.in-WaitingForWeight.is c.requires in
    record { row_lt_rows = row.0; rows_in_bounds = row.1 }

pub cell_line-requires : goal.cell_line-requires
cell_line-requires c =
    takes_cells _ _ _ _ c.in-TakingCells.is c.requires

pub returns-in-WaitingForSizeNames : goal.returns-in-WaitingForSizeNames
unfolding line_in
returns-in-WaitingForSizeNames c = simp (c.in-WaitingForSizeNames.is, c.size_names_line.ensures)

pub returns-in-WaitingForSizes : goal.returns-in-WaitingForSizes
unfolding line_in
returns-in-WaitingForSizes c =
    simp (c.in-WaitingForSizes.is, c.sizes_line.ensures)

pub returns-in-WaitingForWeightOrCellNames : goal.returns-in-WaitingForWeightOrCellNames
unfolding line_in
returns-in-WaitingForWeightOrCellNames c = simp (c.in-WaitingForWeightOrCellNames.is, c.weight_or_cell_names_line.ensures)

pub returns-in-WaitingForWeight : goal.returns-in-WaitingForWeight
unfolding line_in
returns-in-WaitingForWeight c =
    let dirs = c.args.dirs.now in
    simp (c.in-WaitingForWeight.is, c.weight_line.ensures dirs)

pub returns-in-WaitingForCellNames : goal.returns-in-WaitingForCellNames
unfolding line_in
returns-in-WaitingForCellNames c = simp (c.in-WaitingForCellNames.is, c.cell_names_line.ensures)

pub returns-in-TakingCells : goal.returns-in-TakingCells
unfolding line_in
returns-in-TakingCells c =
    let weights = c.args.weights.now in
    simp (c.in-TakingCells.is, c.cell_line.ensures weights)

pub returns-in-Ended : goal.returns-in-Ended
unfolding line_in
returns-in-Ended c = simp (c.in-Ended.is, c.refused.ensures)
