-- Laws of states without a fault.
use mathlib.Core.Path.{◌≡◌}
use mathlib.Core.List.{List}
use Prim.Native.Nat.{ℕ, ◌<◌, ◌≤◌}
use lib.ListN.{length}
use Rattle.lines.specs.declared.columns.Columns.{Columns}
use Rattle.directions.specs.Sizes.{Sized}
use Rattle.faults.specs.declared.Sizes.{Sizes}
use Rattle.faults.proofs.FaultLaws.{sizes_fit_lem, row_good, fits_sized}
use Rattle.intake.specs.declared.Stage.{Stage}
use Rattle.intake.specs.declared.Stage.TheVariants.{WaitingForWeight, TakingCells}
use Rattle.intake.specs.Intake.{state_fault}

-- a state without a fault that waits for the weight of a row: a row of its sheet, whose weight is lent
pub waits_for_row : {stage : Stage} (z : Sizes) (row dirs weights : ℕ) → stage ≡ WaitingForWeight z row
    → state_fault stage dirs weights ≡ 0 → (row < z.rows) × (z.rows ≤ weights)
unfolding state_fault
waits_for_row z row dirs weights is e =
    let good = row_good z dirs weights row (rw is at e) in
    (good.1, (sizes_fit_lem z dirs weights good.0).weights_enough)

-- one that takes cells: a sheet whose direction bytes are lent
pub takes_cells : {stage : Stage} (z : Sizes) (c : Columns) (dirs : List ℕ) (weights : ℕ) → stage ≡ TakingCells z c
    → state_fault stage (length dirs) weights ≡ 0 → Sized z.rows z.cols dirs
unfolding state_fault
takes_cells z c dirs weights is e = fits_sized (sizes_fit_lem z (length dirs) weights (rw is at e))
