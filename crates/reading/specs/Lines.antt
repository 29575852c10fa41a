-- A file's lines, and what the intake makes of them.
use Rattle.std.specs.Prelude.{cond, List, [], ◌∷◌, ℕ, suc, eqb, Err, Ok}
use Rattle.intake.specs.declared.Intake.{Intake}
use Rattle.intake.specs.Intake.{LentSheet, After, line_after, end_taken, new_intake}
use Rattle.decimal.specs.Ascii.{line_feed}
use Rattle.lines.specs.Fields.{longer}
use Rattle.sheet.specs.Answer.{Outcome, Accepted, Refused}
use Rattle.reading.specs.Answer.{Read}

-- The bytes of a file parted at each line feed. The last line may lack its line feed: "a" and "a" with a line feed are
-- one line, a line feed alone is an empty line, and no bytes are no line.
unfoldable pub lines_of : List ℕ → List (List ℕ)
lines_of [] = []
lines_of (b ∷ s) =
    let later : List (List ℕ) = lines_of s in
    cond (eqb b line_feed) ([] ∷ later) (longer b later)

-- document 01's number and place of a file that was refused, both 0 where it was not, and the intake that it then left
pub record ReadValues : Type 0 where
  pub number : ℕ
  pub place : ℕ
  pub intake : Intake

abbrev pub read_values : Read → ReadValues
read_values (Err refusal) = record { number = refusal.number; place = refusal.place; intake = new_intake }
read_values (Ok i) = record { number = 0; place = 0; intake = i }

-- what reading a file leaves: how it ended, and what was lent to the intake
pub record FileRead : Type 0 where
  pub read : Read
  pub lent : LentSheet

abbrev pub refused_read : ℕ → ℕ → LentSheet → FileRead
refused_read number place lent = record { read = Refused number place; lent = lent }

-- go on where a line or an end was accepted; else it was refused with a number
unfoldable pub on_outcome : {A : Type 0} → Outcome → A → (ℕ → A) → A
on_outcome Accepted next refused = next
on_outcome (Err refusal) next refused = refused refusal.number

-- the end of the file; if it is refused, then at the place
unfoldable pub end_after : Intake → ℕ → Read
unfolding on_outcome
end_after i place = on_outcome (end_taken i).outcome (Ok (end_taken i).intake) (λ number. Refused number place)

-- The lines after n lines, and the end: "Place is the line number, from 1, if the intake refused a line; lines read
-- plus 1 if it refused the end".
unfoldable pub read_from : Intake → ℕ → LentSheet → List (List ℕ) → FileRead
unfolding on_outcome
read_from i n lent [] = record { read = end_after i (suc n); lent = lent }
read_from i n lent (line ∷ lines) =
    let a : After = line_after i line lent in
    let later : FileRead = read_from a.taken.intake (suc n) a.lent lines in
    on_outcome a.taken.outcome later (λ number. refused_read number (suc n) a.lent)

-- a whole file, where this is lent
unfoldable pub read_file : LentSheet → List ℕ → FileRead
read_file lent bytes = read_from new_intake 0 lent (lines_of bytes)
