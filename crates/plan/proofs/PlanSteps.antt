-- The answer from a place of the plan on, and after the last place from a unit of the index on.
use mathlib.Core.Path.{◌≡◌, refl, ◌∙◌}
use mathlib.Core.Bool.{cond}
use mathlib.Core.List.{List}
use Prim.Native.Nat.{ℕ, zero, suc, ◌≤◌, ◌<◌}
use native.Mathlib.Omega.{arith}
use lib.Dec.{eqb}
use lib.ListN.{length, drop, drop_of_length-le}
use lib.Seq.{drop-cons}
use Rattle.sheet.specs.declared.Label.{Label}
use Rattle.sheet.specs.Record.{no_digits}
use Rattle.plan.specs.Plan.{is_one_of, missing_from, plan_from}
use Rattle.plan.specs.Meaning.{label_in, Stands, GoodIndex, UnknownOrUsed, Awaits, FitsUpTo}
use Rattle.plan.proofs.PlanPlaces.{before, before_agrees, test_false, fault_at, fault_at_lem}
use Rattle.plan.proofs.PlanPlaces.{FaultAt, fault_unknown, fault_awaits, fault_none}
use Rattle.sheet.specs.Answer.{Outcome, Accepted, Refused}

-- the refusal at a place, by what holds there
fault_twenty : {index plan : List Label} {k f : ℕ} → FaultAt index plan k f → UnknownOrUsed index plan k → f ≡ 20
fault_twenty (fault_unknown u) v = refl
fault_twenty (fault_awaits n a) v = absurd (n v)
fault_twenty (fault_none n a) v = absurd (n v)

fault_twenty_one : {index plan : List Label} {k f : ℕ} → FaultAt index plan k f → ¬ UnknownOrUsed index plan k
    → Awaits index plan k → f ≡ 21
fault_twenty_one (fault_unknown u) n a = absurd (n u)
fault_twenty_one (fault_awaits m b) n a = refl
fault_twenty_one (fault_none m b) n a = absurd (b a)

fault_zero : {index plan : List Label} {k f : ℕ} → FaultAt index plan k f → ¬ UnknownOrUsed index plan k
    → ¬ Awaits index plan k → f ≡ 0
fault_zero (fault_unknown u) n a = absurd (n u)
fault_zero (fault_awaits m b) n a = absurd (a b)
fault_zero (fault_none m b) n a = refl

module _ (index plan : List Label) where
  -- from a place of the plan on
  abbrev pub answer_from : ℕ → Outcome
  answer_from k = plan_from index (before plan k) k (drop k plan)

  -- after its last place, from a unit of the index on
  abbrev pub missing : ℕ → Outcome
  missing i = missing_from i (before plan (length plan)) (drop i index)

  pub answer_step : (k : ℕ) → k < length plan
      → answer_from k ≡ cond (eqb (fault_at index plan k) 0) (answer_from (suc k)) (Refused (fault_at index plan k) (suc k))
  unfolding plan_from
  answer_step k l = rw (drop-cons plan k no_digits l)

  pub answer_end : answer_from (length plan) ≡ missing 0
  unfolding plan_from
  answer_end = rw (drop_of_length-le plan {i = length plan} (omega arith))

  pub missing_step : (i : ℕ) → i < length index
      → missing i
      ≡ cond (is_one_of (before plan (length plan)) (label_in index i)) (missing (suc i)) (Refused 22 (suc i))
  unfolding missing_from
  missing_step i l = rw (drop-cons index i no_digits l)

  -- past the last unit none is missing
  pub none_missing : missing (length index) ≡ Accepted
  unfolding missing_from
  none_missing = rw (drop_of_length-le index {i = length index} (omega arith))

  -- units that stand in the plan are passed over
  pub missing_reach : (i : ℕ) → i ≤ length index
      → ((m : ℕ) → m < i → Stands plan (length plan) (label_in index m)) → missing 0 ≡ missing i
  missing_reach zero l stands = refl
  missing_reach (suc i) l stands =
      missing_reach i (omega arith) (λ m h. stands m (omega arith)) ∙ missing_step i (omega arith)
      ∙ rw ((before_agrees plan (length plan) (label_in index i)).1 (stands i (omega arith)))

  pub missing_first : (i : ℕ) → i < length index → ¬ Stands plan (length plan) (label_in index i)
      → missing i ≡ Refused 22 (suc i)
  missing_first i l n =
      missing_step i l ∙ rw (test_false _ (before_agrees plan (length plan) (label_in index i)) n)

-- the same for places of the plan, where the index is good
module _ (index plan : List Label) (good : GoodIndex index) where
  pub answer_reach : (k : ℕ) → k ≤ length plan → FitsUpTo index plan k
      → answer_from index plan 0 ≡ answer_from index plan k
  answer_reach zero l fits = refl
  answer_reach (suc k) l fits =
      let none : fault_at index plan k ≡ 0 = fault_zero (fault_at_lem index plan good k) (fits.fits k (omega arith)).0
      (fits.fits k (omega arith)).1 in
      answer_reach k (omega arith) (record { fits = λ j h. fits.fits j (omega arith) })
      ∙ answer_step index plan k (omega arith) ∙ rw none

  pub answer_twenty : (k : ℕ) → k < length plan → UnknownOrUsed index plan k
      → answer_from index plan k ≡ Refused 20 (suc k)
  answer_twenty k l u = answer_step index plan k l ∙ rw (fault_twenty (fault_at_lem index plan good k) u)

  pub answer_twenty_one : (k : ℕ) → k < length plan → ¬ UnknownOrUsed index plan k → Awaits index plan k
      → answer_from index plan k ≡ Refused 21 (suc k)
  answer_twenty_one k l n a = answer_step index plan k l ∙ rw (fault_twenty_one (fault_at_lem index plan good k) n a)
