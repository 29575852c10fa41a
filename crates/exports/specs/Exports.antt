-- The numbers that a host gets for the outcome of labelling and for the answers of the index call, of the levy's, of
-- the call for many pairs and of the check of a plan.
use Rattle.std.specs.Prelude.{ℕ, ◌+◌, ◌*◌, ◌%◌, ◌^◌, ◌<◌, ◌≤◌, Err, Ok}
use Rattle.sheet.specs.Refusal.{outcome_values}
use Rattle.sheet.specs.Answer.{Outcome, Counted, Accepted}

-- the refusal's number + 256 × its place; 0 if accepted
abbrev pub outcome_code : Outcome → ℕ
outcome_code o = (outcome_values o).number + 256 * (outcome_values o).place

-- 256 × the number of units; else the refusal's number + 256 × its place
abbrev pub indexed_code : Counted → ℕ
indexed_code (Ok units) = 256 * units
indexed_code (Err refusal) = refusal.number + 256 * refusal.place

-- an answer that its code tells: at most 65,536 units, or a refusal with a number from 1 to 255 and a place below
-- 65,536
abbrev pub CodeTells : Counted → Type 0
CodeTells (Ok units) = units ≤ 65536
CodeTells (Err refusal) = (1 ≤ refusal.number) × (refusal.number < 256) × (refusal.place < 65536)

-- 256 × the count of pairs, in 64 bits, which is exact below 2 ^ 56 pairs; else the refusal's number
abbrev pub pairs_code : Counted → ℕ
pairs_code (Ok count) = count * 256 % 2 ^ 64
pairs_code (Err refusal) = refusal.number

-- the refusal's number + 256 × its place, in 64 bits, which is exact for places below 2 ^ 56; 0 if accepted
abbrev pub plan_code : Outcome → ℕ
plan_code Accepted = 0
plan_code (Err refusal) = refusal.number + refusal.place * 256 % 2 ^ 64
