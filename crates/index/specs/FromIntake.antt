-- The index call from an intake: 15 if it has not ended, then as a direct call with its sizes.
use Rattle.sheet.specs.Refusal.{Lent}
use Rattle.faults.specs.declared.Sizes.{Sizes}
use Rattle.intake.specs.declared.Intake.{Intake}
use Rattle.intake.specs.Intake.{LentSheet, ended_sizes}
use Rattle.labelling.specs.FromIntake.{sheet_of}
use Rattle.index.specs.Index.{LentIndex, indexed, index_after}
use Rattle.sheet.specs.Answer.{Counted, Refused}
use Rattle.std.specs.Prelude.{None, Option, Some}

unfoldable pub indexed_with : Option Sizes → LentSheet → Lent → LentIndex → Counted
unfolding indexed
indexed_with None T L I = Refused 15 0
indexed_with (Some z) T L I = indexed (sheet_of z T) L I

unfoldable pub index_with : Option Sizes → LentSheet → Lent → LentIndex → LentIndex
unfolding index_after
index_with None T L I = I
index_with (Some z) T L I = index_after (sheet_of z T) L I

-- the answer of the index call from an intake
unfoldable pub intake_indexed : Intake → LentSheet → Lent → LentIndex → Counted
unfolding ended_sizes indexed_with
intake_indexed i T L I = indexed_with (ended_sizes i.stage) T L I

-- what the four slices of the index hold afterwards; areas, labels, basins and work places are those after labelling
-- from the intake (intake_lent)
unfoldable pub intake_index_after : Intake → LentSheet → Lent → LentIndex → LentIndex
unfolding ended_sizes index_with
intake_index_after i T L I = index_with (ended_sizes i.stage) T L I
