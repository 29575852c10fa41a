-- The answer of the levy's call from an intake and the lent slices afterwards, by the total and the intake's stage.
use mathlib.Core.Path.{◌≡◌, refl, ap}
use mathlib.Core.List.{List}
use Prim.Native.Nat.{ℕ, ◌≤◌, ◌<◌}
use borrow.Author.Tests.{le-leb, lt-leb}
use Rattle.sheet.specs.Refusal.{Lent}
use Rattle.faults.specs.declared.Sizes.{Sizes}
use Rattle.intake.specs.declared.Intake.{Intake}
use Rattle.intake.specs.Intake.{LentSheet, ended_sizes}
use Rattle.labelling.specs.FromIntake.{sheet_of}
use Rattle.index.specs.Index.{LentIndex, indexed_values}
use Rattle.dues.specs.Levy.{greatest_total, total_fits, lent_after_levy}
use Rattle.dues.specs.FromIntake.{intake_levied, intake_lent_after_levy, levied_with, index_levied_with, dues_with}
use Rattle.dues.specs.FromIntake.{intake_index_after_levy, intake_dues_after}
use Rattle.levy.proofs.Calls.{Answered as DirectlyAnswered, too_large as directly-too-large}
use Rattle.sheet.specs.Answer.{Counted, Refused}
use Rattle.std.specs.Prelude.{None, Option, Some}

module _ (i : Intake) (T : LentSheet) (L : Lent) (I : LentIndex) (basin total : ℕ) (D : List ℕ) where
  -- what a call promises
  abbrev Answered : Counted → Lent → LentIndex → List ℕ → Type 0
  Answered r L' I' D' =
      (r ≡ intake_levied i T L I basin total D) ×
      ((indexed_values r ≡ indexed_values (intake_levied i T L I basin total D)) ×
      ((L' ≡ intake_lent_after_levy i T L total) ×
      ((I' ≡ intake_index_after_levy i T L I basin total D) × (D' ≡ intake_dues_after i T L I basin total D))))

  -- 18
  index_kept : greatest_total < total → (sizes : Option Sizes) → I ≡ index_levied_with sizes T L I basin total D
  unfolding index_levied_with
  index_kept l None = refl
  index_kept l (Some z) = (directly-too-large (sheet_of z T) L I basin total D l).1.1.1.0

  dues_kept : greatest_total < total → (sizes : Option Sizes) → D ≡ dues_with sizes T L I basin total D
  unfolding dues_with
  dues_kept l None = refl
  dues_kept l (Some z) = (directly-too-large (sheet_of z T) L I basin total D l).1.1.1.1

  answer_eighteen : greatest_total < total → (sizes : Option Sizes) → Refused 18 0 ≡ levied_with sizes T L I basin total D
  unfolding levied_with total_fits
  answer_eighteen l None = rw (lt-leb total greatest_total l) refl
  answer_eighteen l (Some z) = (directly-too-large (sheet_of z T) L I basin total D l).0

  pub too_large : greatest_total < total → Answered (Refused 18 0) L I D
  unfolding intake_levied total_fits intake_lent_after_levy intake_index_after_levy intake_dues_after
  too_large l =
      let e = lt-leb total greatest_total l in
      let a = answer_eighteen l (ended_sizes i.stage) in (
        a,
        (
          ap indexed_values a,
          (rw e refl, (index_kept l (ended_sizes i.stage), dues_kept l (ended_sizes i.stage))),
        ),
      )

  -- 15
  pub not_ended : total ≤ greatest_total → ended_sizes i.stage ≡ None → Answered (Refused 15 0) L I D
  unfolding intake_levied levied_with total_fits intake_lent_after_levy intake_index_after_levy intake_dues_after
  not_ended l n = let e = le-leb total greatest_total l in rw (n, e) (refl, (refl, (refl, (refl, refl))))

  -- as a direct call
  pub ended : {z : Sizes} {r : Counted} {L' : Lent} {I' : LentIndex} {D' : List ℕ} → ended_sizes i.stage ≡ Some z
      → DirectlyAnswered (sheet_of z T) L I basin total D r L' I' D' → Answered r L' I' D'
  unfolding intake_levied intake_lent_after_levy lent_after_levy intake_index_after_levy intake_dues_after
  ended e a = rw e a
