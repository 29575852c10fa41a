-- When a file is refused, by whom and with which number and place, and when its sheet is labelled.
use Rattle.std.specs.Prelude.{◌≡◌, Bool, true, false, cond, List, [], ◌∷◌, ◌++◌, ℕ, suc, eqb, length, Ok}
use Rattle.sheet.specs.Refusal.{Lent, outcome}
use Rattle.faults.specs.declared.Sizes.{Sizes}
use Rattle.intake.specs.declared.Stage.TheVariants.{Ended}
use Rattle.intake.specs.declared.Intake.{Intake}
use Rattle.intake.specs.Intake.{LentSheet, line_after, end_taken, new_intake, accepted}
use Rattle.intake.specs.Takes.{Takes}
use Rattle.labelling.specs.FromIntake.{sheet_of}
use Rattle.reading.specs.Lines.{lines_of}
use Rattle.report.specs.Answer.{Verdict}
use Rattle.sheet.specs.Answer.{Accepted, Refused}

-- ---- the numbers of refusals

abbrev pub one_of : List ℕ → ℕ → Bool
one_of [] number = false
one_of (n ∷ numbers) number = cond (eqb number n) true (one_of numbers number)

-- those that a line of a file can get, the end, and the sheet, at most (the sheet not 1, 2, 19 or 17: the sizes and the
-- weights that accepted lines leave fit)
abbrev pub line_numbers : List ℕ
line_numbers = 8 ∷ 1 ∷ 2 ∷ 19 ∷ 3 ∷ 17 ∷ 9 ∷ 4 ∷ 10 ∷ []

abbrev pub end_numbers : List ℕ
end_numbers = 14 ∷ []

abbrev pub sheet_numbers : List ℕ
sheet_numbers = 3 ∷ 4 ∷ 5 ∷ 6 ∷ []

-- those that a file can get: all but 11, 12, 13, 15, 16 and 18; 7 is unused
abbrev pub file_numbers : List ℕ
file_numbers = 1 ∷ 2 ∷ 3 ∷ 4 ∷ 5 ∷ 6 ∷ 8 ∷ 9 ∷ 10 ∷ 14 ∷ 17 ∷ 19 ∷ []

-- ---- the ways in which a file can end

-- the first line that the intake refuses; "place is the line number, from 1"
pub record LineRefused (T : LentSheet) (bytes : List ℕ) (number place : ℕ) : Type 0 where
  pub before : List (List ℕ)
  pub line : List ℕ
  pub after : List (List ℕ)
  pub intake : Intake
  pub held : LentSheet
  pub lines : lines_of bytes ≡ before ++ line ∷ after
  pub takes : Takes new_intake T before intake held
  pub refused : (line_after intake line held).taken.outcome ≡ Refused number 0
  pub number_is : one_of line_numbers number ≡ true
  pub place_is : place ≡ suc (length before)

-- all lines are accepted
pub record LinesTaken (T : LentSheet) (bytes : List ℕ) : Type 0 where
  pub intake : Intake
  pub held : LentSheet
  pub takes : Takes new_intake T (lines_of bytes) intake held

-- the intake refuses the end; "lines read plus 1"
pub record EndRefused (T : LentSheet) (bytes : List ℕ) (number place : ℕ) : Type 0 where
  pub lines : LinesTaken T bytes
  pub refused : (end_taken lines.intake).outcome ≡ Refused number 0
  pub number_is : one_of end_numbers number ≡ true
  pub place_is : place ≡ suc (length (lines_of bytes))

-- all lines and the end are accepted, and these are the sizes
pub record FileEnded (T : LentSheet) (bytes : List ℕ) (z : Sizes) : Type 0 where
  pub lines : LinesTaken T bytes
  pub ended : end_taken lines.intake ≡ accepted (Ended z)

-- labelling refuses the sheet; "the place that labelling gave"
pub record SheetRefused (T : LentSheet) (L : Lent) (bytes : List ℕ) (number place : ℕ) : Type 0 where
  pub sizes : Sizes
  pub file : FileEnded T bytes sizes
  pub refused : outcome (sheet_of sizes file.lines.held) L ≡ Refused number place
  pub number_is : one_of sheet_numbers number ≡ true

-- labelling accepts the sheet
pub record SheetLabelled (T : LentSheet) (L : Lent) (bytes : List ℕ) (z : Sizes) : Type 0 where
  pub file : FileEnded T bytes z
  pub accepted : outcome (sheet_of z file.lines.held) L ≡ Accepted

-- A file is refused by the first line that the intake refuses, else by the end, else by labelling; and if none of them
-- refuses it, its sheet is labelled.
pub data Ending (T : LentSheet) (L : Lent) (bytes : List ℕ) : Verdict → Type 0 where
  line_refused : {number place : ℕ} → LineRefused T bytes number place → Ending T L bytes (Refused number place)
  end_refused : {number place : ℕ} → EndRefused T bytes number place → Ending T L bytes (Refused number place)
  sheet_refused : {number place : ℕ} → SheetRefused T L bytes number place
      → Ending T L bytes (Refused number place)
  labelled : {z : Sizes} → SheetLabelled T L bytes z → Ending T L bytes (Ok z)
