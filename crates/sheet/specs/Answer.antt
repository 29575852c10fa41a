-- The answers of calls: a cell or none; accepted, or refused by document 01's number with its place; a count, or refused.
use Rattle.std.specs.Prelude.{ℕ, cond, eqb, Option, Result, Ok, Err}
use Rattle.sheet.specs.declared.Refusal.{Refusal}
use Rattle.sheet.specs.declared.Label.{Label}

-- where a step ends: on a cell, or off the sheet
abbrev pub End : Type 0
End = Option ℕ

-- where a cell's water goes: to the cell that its step ends on, or nowhere on the sheet
abbrev pub Next : Type 0
Next = Option ℕ

-- what a search in reading order found
abbrev pub Found : Type 0
Found = Option ℕ

abbrev pub Outcome : Type 0
Outcome = Result Unit Refusal

pattern abbrev pub Accepted : Outcome
Accepted = Ok tt

abbrev pub Refused : {T : Type 0} → ℕ → ℕ → Result T Refusal
Refused number place = Err (record { number = number; place = place })

-- the outcome of checks from the number of the first that fails, 0 if none does
abbrev pub outcome_of_fault : ℕ → Outcome
outcome_of_fault fault = cond (eqb fault 0) Accepted (Refused fault 0)

abbrev pub Counted : Type 0
Counted = Result ℕ Refusal

abbrev pub LabelAnswer : Type 0
LabelAnswer = Result Label Refusal
