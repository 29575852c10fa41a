-- Labelling from an intake: 15 if it has not ended, then as a direct call with its sizes.
use Rattle.sheet.specs.Sheet.{Sheet}
use Rattle.sheet.specs.Refusal.{Lent, outcome, lent_after}
use Rattle.faults.specs.declared.Sizes.{Sizes}
use Rattle.intake.specs.declared.Intake.{Intake}
use Rattle.intake.specs.Intake.{LentSheet, ended_sizes}
use Rattle.labelling.specs.Labelling.{sheet}
use Rattle.sheet.specs.Answer.{Outcome, Refused}
use Rattle.std.specs.Prelude.{None, Option, Some}

-- the sheet of an intake's sizes z, with the direction bytes and weights T that were lent to it
abbrev pub sheet_of : Sizes → LentSheet → Sheet
sheet_of z T = sheet z.rows z.cols z.depth z.least z.split T.dirs T.weights

unfoldable pub outcome_with : Option Sizes → LentSheet → Lent → Outcome
unfolding outcome
outcome_with None T L = Refused 15 0
outcome_with (Some z) T L = outcome (sheet_of z T) L

unfoldable pub lent_with : Option Sizes → LentSheet → Lent → Lent
unfolding lent_after
lent_with None T L = L
lent_with (Some z) T L = lent_after (sheet_of z T) L

-- the outcome of labelling from an intake
unfoldable pub intake_outcome : Intake → LentSheet → Lent → Outcome
unfolding ended_sizes outcome_with
intake_outcome i T L = outcome_with (ended_sizes i.stage) T L

-- what the lent slices hold afterwards
unfoldable pub intake_lent : Intake → LentSheet → Lent → Lent
unfolding ended_sizes lent_with
intake_lent i T L = lent_with (ended_sizes i.stage) T L
