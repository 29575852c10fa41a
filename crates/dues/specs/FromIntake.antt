-- The levy's call from an intake: 18, then 15 if it has not ended, then as a direct call with its sizes.
use Rattle.std.specs.Prelude.{cond, List, ℕ, None, Option, Some}
use Rattle.sheet.specs.Refusal.{Lent}
use Rattle.faults.specs.declared.Sizes.{Sizes}
use Rattle.intake.specs.declared.Intake.{Intake}
use Rattle.intake.specs.Intake.{LentSheet, ended_sizes}
use Rattle.labelling.specs.FromIntake.{sheet_of, intake_lent}
use Rattle.index.specs.Index.{LentIndex}
use Rattle.dues.specs.Levy.{total_fits, levied, index_after_levy, dues_after}
use Rattle.sheet.specs.Answer.{Counted, Refused}

-- with the sizes of an intake that has ended, or none: the answer
unfoldable pub levied_with : Option Sizes → LentSheet → Lent → LentIndex → ℕ → ℕ → List ℕ → Counted
unfolding total_fits levied
levied_with None T L I basin total dues = cond (total_fits total) (Refused 15 0) (Refused 18 0)
levied_with (Some z) T L I basin total dues = levied (sheet_of z T) L I basin total dues

-- the four slices of the index
unfoldable pub index_levied_with : Option Sizes → LentSheet → Lent → LentIndex → ℕ → ℕ → List ℕ → LentIndex
unfolding index_after_levy
index_levied_with None T L I basin total dues = I
index_levied_with (Some z) T L I basin total dues = index_after_levy (sheet_of z T) L I basin total dues

-- the dues
unfoldable pub dues_with : Option Sizes → LentSheet → Lent → LentIndex → ℕ → ℕ → List ℕ → List ℕ
unfolding dues_after
dues_with None T L I basin total dues = dues
dues_with (Some z) T L I basin total dues = dues_after (sheet_of z T) L I basin total dues

-- the answer of the levy's call from an intake
unfoldable pub intake_levied : Intake → LentSheet → Lent → LentIndex → ℕ → ℕ → List ℕ → Counted
unfolding ended_sizes levied_with
intake_levied i T L I basin total dues = levied_with (ended_sizes i.stage) T L I basin total dues

-- ---- what the slices hold afterwards

-- areas, labels, basins and work places: untouched if refused by 18, else as after labelling from the intake
unfoldable pub intake_lent_after_levy : Intake → LentSheet → Lent → ℕ → Lent
unfolding total_fits intake_lent
intake_lent_after_levy i T L total = let labelled : Lent = intake_lent i T L in cond (total_fits total) labelled L

-- the four slices of the index
unfoldable pub intake_index_after_levy : Intake → LentSheet → Lent → LentIndex → ℕ → ℕ → List ℕ → LentIndex
unfolding ended_sizes index_levied_with
intake_index_after_levy i T L I basin total dues = index_levied_with (ended_sizes i.stage) T L I basin total dues

-- and the dues
unfoldable pub intake_dues_after : Intake → LentSheet → Lent → LentIndex → ℕ → ℕ → List ℕ → List ℕ
unfolding ended_sizes dues_with
intake_dues_after i T L I basin total dues = dues_with (ended_sizes i.stage) T L I basin total dues
