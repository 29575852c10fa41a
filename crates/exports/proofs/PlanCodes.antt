-- The code of an answer of the plan's check tells the answer: its lowest byte the refusal's number, or 0, and the rest
-- its place, where index and plan have fewer than 2 ^ 56 labels; so many would take 2 ^ 60 bytes.
use mathlib.Core.Path.{◌≡◌, refl}
use mathlib.Core.List.{List}
use Prim.Native.Nat.{ℕ, ◌/◌, ◌%◌, ◌^◌, ◌<◌}
use native.Mathlib.Omega.{arith}
use mathlib.Core.Logic.{inl, inr}
use lib.ListN.{length}
use Rattle.sheet.specs.declared.Label.{Label}
use Rattle.plan.specs.Plan.{plan_answer, plan_values}
use Rattle.plan.specs.Meaning.{Numbered, of_index, of_plan, of_missing}
use Rattle.plan.proofs.Meaning.{plan_meaning}
use Rattle.exports.specs.Exports.{plan_code}
use Rattle.sheet.specs.Answer.{Outcome, Accepted, Refused}
use Rattle.std.specs.Prelude.{Err}

-- every refusal's number is below 256
small : {index plan : List Label} {number place : ℕ} → Numbered index plan number place → number < 256
small (of_index (inl e) h) = omega arith
small (of_index (inr (inl e)) h) = omega arith
small (of_index (inr (inr (inl e))) h) = omega arith
small (of_index (inr (inr (inr e))) h) = omega arith
small (of_plan (inl e) h g) = omega arith
small (of_plan (inr e) h g) = omega arith
small (of_missing e h g) = omega arith

-- and its place no more than the plan or the index has labels
near : {index plan : List Label} {number place : ℕ} → Numbered index plan number place → length index < 2 ^ 56
    → length plan < 2 ^ 56 → place < 2 ^ 56
near (of_index e h) i p = omega arith
near (of_plan e h g) i p = omega arith
near (of_missing e h g) i p = omega arith

module _ (index plan : List Label) (places : ℕ) where
  told : (P : Outcome → Type 0) → P Accepted
      → ((number place : ℕ) → Numbered index plan number place → P (Refused number place))
      → P (plan_answer index plan places)
  told P accepted refused = go (plan_answer index plan places) refl
    where
      go : (a : Outcome) → plan_answer index plan places ≡ a → P a
      go Accepted e = accepted
      go (Err refusal) e = refused refusal.number refusal.place ((plan_meaning index plan places).no_other refusal.number refusal.place e)

  -- the lowest byte: 0, or the refusal's number
  pub plan_byte : plan_code (plan_answer index plan places) % 256 ≡ (plan_values (plan_answer index plan places)).number
  plan_byte =
      told (λ a. plan_code a % 256 ≡ (plan_values a).number) refl (λ number place n. omega (arith, small n))

  -- the rest: the place
  pub plan_rest : length index < 2 ^ 56 → length plan < 2 ^ 56
      → plan_code (plan_answer index plan places) / 256 ≡ (plan_values (plan_answer index plan places)).place
  plan_rest i p =
      told (λ a. plan_code a / 256 ≡ (plan_values a).place) refl
      (λ number place n. omega (arith, small n, near n i p))
