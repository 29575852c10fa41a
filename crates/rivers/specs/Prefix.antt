-- A prefix: the digits gathered so far, held as a label is.
use Rattle.std.specs.Prelude.{◌≡◌, List, ℕ, ◌+◌, ◌≤◌, length}
use Rattle.sheet.specs.declared.Label.{Label}
use Rattle.sheet.specs.Record.{Digits, record_of}

-- a label of at most 36 digits may have `more` digits after those gathered
pub record Prefix (prefix : Label) (more : ℕ) : Type 0 where
  pub gathered : List ℕ
  pub held : prefix ≡ record_of gathered
  pub one_to_nine : Digits 9 gathered
  pub room : length gathered + more ≤ 36
