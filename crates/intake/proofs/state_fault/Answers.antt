-- `state_fault` meets its contract.
use Rattle.intake.specs.Intake.{state_fault}
use Rattle.intake.proofs.state_fault.Goals as goal

pub returns-in-WaitingForSizeNames : goal.returns-in-WaitingForSizeNames
unfolding state_fault
returns-in-WaitingForSizeNames c = simp c.in-WaitingForSizeNames.is

pub returns-in-WaitingForSizes : goal.returns-in-WaitingForSizes
unfolding state_fault
returns-in-WaitingForSizes c = simp c.in-WaitingForSizes.is

pub returns-in-WaitingForWeightOrCellNames : goal.returns-in-WaitingForWeightOrCellNames
unfolding state_fault
returns-in-WaitingForWeightOrCellNames c = simp (c.in-WaitingForWeightOrCellNames.is, c.sizes_fault.ensures)

pub returns-in-WaitingForWeight : goal.returns-in-WaitingForWeight
unfolding state_fault
returns-in-WaitingForWeight c = simp (c.in-WaitingForWeight.is, c.row_fault.ensures)

pub returns-in-WaitingForCellNames : goal.returns-in-WaitingForCellNames
unfolding state_fault
returns-in-WaitingForCellNames c = simp (c.in-WaitingForCellNames.is, c.sizes_fault-in-WaitingForCellNames.ensures)

pub returns-in-TakingCells : goal.returns-in-TakingCells
unfolding state_fault
returns-in-TakingCells c = simp (c.in-TakingCells.is, c.sizes_fault-in-TakingCells.ensures)

pub returns-in-Ended : goal.returns-in-Ended
unfolding state_fault
returns-in-Ended c = simp c.in-Ended.is
