-- The answer of a lookup: the part of the list that is handed back, or the refusal.
use Rattle.std.specs.Prelude.{ℕ, Result, Ok}
use Rattle.sheet.specs.declared.Refusal.{Refusal}
use Rattle.lookup.specs.declared.Part.{Part}

abbrev pub LookupAnswer : Type 0
LookupAnswer = Result Part Refusal

-- the part that starts at an entry and has so many
abbrev pub PartFrom : ℕ → ℕ → LookupAnswer
PartFrom start length = Ok (record { start = start; length = length })
