-- Lines that are accepted one after the other.
use Rattle.std.specs.Prelude.{◌≡◌, List, [], ◌∷◌, ℕ}
use Rattle.intake.specs.declared.Intake.{Intake}
use Rattle.intake.specs.Intake.{LentSheet, line_after}
use Rattle.sheet.specs.Answer.{Accepted}

-- the intake i accepts the lines one after the other; it is then j, and what is lent to it is then U
pub data Takes : Intake → LentSheet → List (List ℕ) → Intake → LentSheet → Type 0 where
  takes_none : {i : Intake} {T : LentSheet} → Takes i T [] i T
  takes_line : {i j : Intake} {T U : LentSheet} {lines : List (List ℕ)} (line : List ℕ)
      → (line_after i line T).taken.outcome ≡ Accepted
      → Takes (line_after i line T).taken.intake (line_after i line T).lent lines j U
      → Takes i T (line ∷ lines) j U
