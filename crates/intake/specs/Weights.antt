-- What lines do to the weights: statements about line_after.
use Rattle.std.specs.Prelude.{Some}
use Rattle.std.specs.Prelude.{◌≡◌, Bool, true, false, List, ℕ, length, get_or}
use Rattle.lines.specs.declared.columns.Columns.{Columns}
use Rattle.lines.specs.declared.values.Values.{Values}
use Rattle.names.specs.Columns.{weight_columns}
use Rattle.lines.specs.Values.{first_value, values_line}
use Rattle.sheet.specs.Refusal.{weight_fits}
use Rattle.faults.specs.declared.Sizes.{Sizes}
use Rattle.intake.specs.declared.Stage.{Stage}
use Rattle.intake.specs.declared.Stage.TheVariants.{WaitingForSizeNames, WaitingForSizes}
use Rattle.intake.specs.declared.Stage.TheVariants.{WaitingForWeightOrCellNames, WaitingForWeight}
use Rattle.intake.specs.declared.Stage.TheVariants.{WaitingForCellNames, TakingCells, Ended}
use Rattle.intake.specs.declared.Intake.{Intake}
use Rattle.intake.specs.Intake.{LentSheet, After, first_set, line_after}
use Rattle.sheet.specs.Answer.{Accepted}

-- what an accepted weight line leaves: its row's weight is its value, from 1 to 1000, and all else is as it was
pub record OwnWeight (row : ℕ) (line : List ℕ) (lent new : LentSheet) : Type 0 where
  pub values : Values
  pub line_is : values_line weight_columns line ≡ Some values
  pub fits : weight_fits (first_value values) ≡ true
  pub own : get_or new.weights row 0 ≡ first_value values
  pub others : (other : ℕ) → (other ≡ row → ⊥) → get_or new.weights other 0 ≡ get_or lent.weights other 0
  pub as_long : length new.weights ≡ length lent.weights
  pub dirs_kept : new.dirs ≡ lent.dirs

-- what accepted sizes leave: the weights of the sheet's rows are 1, and the others as they were
pub record OnesSet (lent : LentSheet) (a : After) : Type 0 where
  pub sizes : Sizes
  pub stage_is : a.taken.intake.stage ≡ WaitingForWeightOrCellNames sizes
  pub weights_are : a.lent.weights ≡ first_set sizes.rows 1 lent.weights

-- the stages that take sizes, or a weight
abbrev pub writes_weights : Stage → Bool
writes_weights WaitingForSizeNames = false
writes_weights (WaitingForSizes c) = true
writes_weights (WaitingForWeightOrCellNames z) = false
writes_weights (WaitingForWeight z row) = true
writes_weights (WaitingForCellNames z) = false
writes_weights (TakingCells z c) = false
writes_weights (Ended z) = false

pub record WeightsAfter : Type 0 where
  pub sizes_one : (c : Columns) (line : List ℕ) (lent : LentSheet)
      → (line_after (record { stage = WaitingForSizes c }) line lent).taken.outcome ≡ Accepted
      → OnesSet lent (line_after (record { stage = WaitingForSizes c }) line lent)
  -- an accepted weight line sets its own row's weight and nothing else
  pub own_row : (z : Sizes) (row : ℕ) (line : List ℕ) (lent : LentSheet)
      → (line_after (record { stage = WaitingForWeight z row }) line lent).taken.outcome ≡ Accepted
      → OwnWeight row line lent (line_after (record { stage = WaitingForWeight z row }) line lent).lent
  -- no line but those of sizes and of weights touches a weight
  pub no_other : (i : Intake) (line : List ℕ) (lent : LentSheet) → writes_weights i.stage ≡ false
      → (line_after i line lent).lent.weights ≡ lent.weights
