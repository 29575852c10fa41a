-- Refusal 15 by an index call, in each stage that is not the end; and an ended intake of the 1 by 1 sheet with code 1,
-- by its weight.
use mathlib.Core.Path.{◌≡◌, refl}
use mathlib.Core.List.{[], ◌∷◌}
use Prim.Native.Nat.{ℕ}
use lib.ListN.{replicate}
use Rattle.sheet.specs.Refusal.{Lent}
use Rattle.faults.specs.declared.Sizes.{Sizes}
use Rattle.intake.specs.declared.Stage.TheVariants.{WaitingForSizeNames, WaitingForSizes}
use Rattle.intake.specs.declared.Stage.TheVariants.{WaitingForWeightOrCellNames, WaitingForWeight}
use Rattle.intake.specs.declared.Stage.TheVariants.{WaitingForCellNames, TakingCells, Ended}
use Rattle.intake.specs.Intake.{LentSheet, lent_sheet}
use Rattle.names.specs.Columns.{size_columns, cell_columns}
use Rattle.labelling.specs.Labelling.{lent}
use Rattle.index.specs.Index.{LentIndex, lent_index}
use Rattle.index.specs.FromIntake.{intake_indexed, intake_index_after}
use Rattle.sheet.specs.Answer.{Refused}
use Rattle.std.specs.Prelude.{Ok}

abbrev pub one : Lent
one = lent (7 ∷ 7 ∷ []) (7 ∷ 7 ∷ 7 ∷ []) (7 ∷ 7 ∷ []) (replicate 9 7)

abbrev pub two : LentIndex
two = lent_index (7 ∷ 7 ∷ 7 ∷ 7 ∷ []) (7 ∷ 7 ∷ []) (7 ∷ 7 ∷ []) (7 ∷ 7 ∷ [])

abbrev pub sizes : Sizes
sizes = record { rows = 1; cols = 1; depth = 1; least = 1; split = 4 }

-- the direction byte and the weight of the row
abbrev pub with_weight : ℕ → LentSheet
with_weight weight = lent_sheet (1 ∷ []) (weight ∷ [])

pub at_start : intake_indexed (record { stage = WaitingForSizeNames }) (with_weight 1) one two ≡ Refused 15 0
unfolding intake_indexed
at_start = refl

pub before_sizes : intake_indexed (record { stage = WaitingForSizes size_columns }) (with_weight 1) one two ≡ Refused 15 0
unfolding intake_indexed
before_sizes = refl

pub before_weight_name : intake_indexed (record { stage = WaitingForWeightOrCellNames sizes }) (with_weight 1) one two
    ≡ Refused 15 0
unfolding intake_indexed
before_weight_name = refl

pub before_weight : intake_indexed (record { stage = WaitingForWeight sizes 0 }) (with_weight 1) one two ≡ Refused 15 0
unfolding intake_indexed
before_weight = refl

pub before_cell_names : intake_indexed (record { stage = WaitingForCellNames sizes }) (with_weight 1) one two
    ≡ Refused 15 0
unfolding intake_indexed
before_cell_names = refl

pub before_end : intake_indexed (record { stage = TakingCells sizes cell_columns }) (with_weight 1) one two ≡ Refused 15 0
unfolding intake_indexed
before_end = refl

-- refused, no place is written
pub before_end_kept : intake_index_after (record { stage = TakingCells sizes cell_columns }) (with_weight 1) one two ≡ two
unfolding intake_index_after
before_end_kept = refl

pub ended : intake_indexed (record { stage = Ended sizes }) (with_weight 1) one two ≡ Ok 1
unfolding intake_indexed
ended = refl

-- one unit is written: label 0, outlet cell 0, one cell, basin 1
pub ended_index : intake_index_after (record { stage = Ended sizes }) (with_weight 1) one two
    ≡ lent_index (0 ∷ 0 ∷ 7 ∷ 7 ∷ []) (0 ∷ 7 ∷ []) (1 ∷ 7 ∷ []) (1 ∷ 7 ∷ [])
unfolding intake_index_after
ended_index = refl

-- a weight changes no count of cells; 17 for one outside 1 to 1000, and no place is written
pub ended_weighted : intake_index_after (record { stage = Ended sizes }) (with_weight 1000) one two
    ≡ lent_index (0 ∷ 0 ∷ 7 ∷ 7 ∷ []) (0 ∷ 7 ∷ []) (1 ∷ 7 ∷ []) (1 ∷ 7 ∷ [])
unfolding intake_index_after
ended_weighted = refl

pub weight_refused : intake_indexed (record { stage = Ended sizes }) (with_weight 1001) one two ≡ Refused 17 0
unfolding intake_indexed
weight_refused = refl

pub weight_refused_kept : intake_index_after (record { stage = Ended sizes }) (with_weight 1001) one two ≡ two
unfolding intake_index_after
weight_refused_kept = refl
