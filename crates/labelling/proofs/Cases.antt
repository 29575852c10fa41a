-- Refusal 15 by a direct call, in each stage that is not the end; and an ended intake of the 1 by 1 sheet with code 1
-- and weight 5; refused by 17 with weight 0.
use mathlib.Core.Path.{◌≡◌, refl}
use mathlib.Core.List.{[], ◌∷◌}
use lib.ListN.{replicate}
use Rattle.sheet.specs.Refusal.{Lent}
use Rattle.faults.specs.declared.Sizes.{Sizes}
use Rattle.intake.specs.declared.Stage.TheVariants.{WaitingForSizeNames, WaitingForSizes}
use Rattle.intake.specs.declared.Stage.TheVariants.{WaitingForWeightOrCellNames, WaitingForWeight, WaitingForCellNames}
use Rattle.intake.specs.declared.Stage.TheVariants.{TakingCells, Ended}
use Rattle.intake.specs.Intake.{LentSheet, lent_sheet}
use Rattle.names.specs.Columns.{size_columns, cell_columns}
use Rattle.labelling.specs.Labelling.{lent}
use Rattle.labelling.specs.FromIntake.{intake_outcome, intake_lent}
use Rattle.sheet.specs.Answer.{Accepted, Refused}

abbrev one : Lent
one = lent (7 ∷ 7 ∷ []) (7 ∷ 7 ∷ 7 ∷ []) (7 ∷ 7 ∷ []) (replicate 9 7)

abbrev sheet_one : LentSheet
sheet_one = lent_sheet (1 ∷ []) (5 ∷ [])

abbrev sizes : Sizes
sizes = record { rows = 1; cols = 1; depth = 1; least = 1; split = 4 }

pub at_start : intake_outcome (record { stage = WaitingForSizeNames }) sheet_one one ≡ Refused 15 0
unfolding intake_outcome
at_start = refl

pub before_sizes : intake_outcome (record { stage = WaitingForSizes size_columns }) sheet_one one ≡ Refused 15 0
unfolding intake_outcome
before_sizes = refl

pub before_weight_name : intake_outcome (record { stage = WaitingForWeightOrCellNames sizes }) sheet_one one
    ≡ Refused 15 0
unfolding intake_outcome
before_weight_name = refl

pub before_weight : intake_outcome (record { stage = WaitingForWeight sizes 0 }) sheet_one one ≡ Refused 15 0
unfolding intake_outcome
before_weight = refl

pub before_cell_names : intake_outcome (record { stage = WaitingForCellNames sizes }) sheet_one one ≡ Refused 15 0
unfolding intake_outcome
before_cell_names = refl

pub before_end : intake_outcome (record { stage = TakingCells sizes cell_columns }) sheet_one one ≡ Refused 15 0
unfolding intake_outcome
before_end = refl

pub ended : intake_outcome (record { stage = Ended sizes }) sheet_one one ≡ Accepted
unfolding intake_outcome
ended = refl

-- one area, one label and one basin are written, eight work places are cleared, and what is beyond keeps its values; of the labels
-- that is an odd number at the end
pub ended_lent : intake_lent (record { stage = Ended sizes }) sheet_one one ≡ lent (5 ∷ 7 ∷ []) (0 ∷ 0 ∷ 7 ∷ []) (1 ∷ 7 ∷ [])
    (0 ∷ 0 ∷ 0 ∷ 0 ∷ 0 ∷ 0 ∷ 0 ∷ 0 ∷ 7 ∷ [])
unfolding intake_lent
ended_lent = refl

-- refused by 17: the eight work places are cleared, and nothing else is written
pub ended_17 : intake_outcome (record { stage = Ended sizes }) (lent_sheet (1 ∷ []) (0 ∷ [])) one ≡ Refused 17 0
unfolding intake_outcome
ended_17 = refl

pub ended_17_lent : intake_lent (record { stage = Ended sizes }) (lent_sheet (1 ∷ []) (0 ∷ [])) one ≡ lent (7 ∷ 7 ∷ [])
    (7 ∷ 7 ∷ 7 ∷ []) (7 ∷ 7 ∷ []) (0 ∷ 0 ∷ 0 ∷ 0 ∷ 0 ∷ 0 ∷ 0 ∷ 0 ∷ 7 ∷ [])
unfolding intake_lent
ended_17_lent = refl
