-- The answer and the work places of the plan's check, in each of its returns.
use mathlib.Core.Path.{◌≡◌, refl, ap, ◌∙◌}
use mathlib.Core.Bool.{Bool, true, false, cond}
use mathlib.Core.List.{List, [], ◌++◌}
use Prim.Native.Nat.{ℕ, ◌≤◌, ◌<◌}
use native.Mathlib.Omega.{arith}
use borrow.Author.Tests.{eq-eqb, ne_eqb, le-leb, lt-leb}
use lib.ListN.{length, drop, replicate, length-replicate}
use lib.Seq.{drop_at}
use Rattle.sheet.specs.declared.Label.{Label}
use Rattle.sheet.specs.Flow.{every, is_label}
use Rattle.sheet.specs.Refusal.{written}
use Rattle.lookup.specs.Lookup.{greatest_depth, is_rising}
use Rattle.plan.specs.Plan.{units_of_one, all_part, index_fault, plan_from, plan_answer}
use Rattle.plan.specs.Plan.{plan_values, work_after}
use Rattle.plan.specs.Steps.{Judged}
use Rattle.sheet.specs.Answer.{Outcome, Refused}

-- an index that is not refused
pub index_judged : (index : List Label) → index_fault index ≡ 0 → Judged index
unfolding index_fault
index_judged index e =
    go (every (is_label greatest_depth) index) (is_rising (units_of_one index)) (all_part index) refl refl refl e
  where
    go : (a b c : Bool) → every (is_label greatest_depth) index ≡ a → is_rising (units_of_one index) ≡ b
        → all_part index ≡ c → ◌≡◌ {A = ℕ} (cond a (cond b (cond c 0 12) 16) 11) 0 → Judged index
    go true true true f g h e = record { rising = record { labels = f; rises = g }; part = h }
    go true true false f g h e = absurd (omega arith)
    go true false c f g h e = absurd (omega arith)
    go false b c f g h e = absurd (omega arith)

-- what is handed back, and the work places then
abbrev Answered : List Label → List Label → List ℕ → Outcome → List ℕ → Type 0
Answered index plan work answer after =
    (answer ≡ plan_answer index plan (length work))
    × ((plan_values answer ≡ plan_values (plan_answer index plan (length work))) × (after ≡ work_after index work))

module _ (index plan : List Label) (work : List ℕ) where
  answered : (answer : Outcome) (after : List ℕ) → answer ≡ plan_answer index plan (length work)
      → after ≡ work_after index work → Answered index plan work answer after
  answered answer after e f = (e, (ap plan_values e, f))

  pub answer_fault : (index_fault index ≡ 0 → ⊥) → Answered index plan work (Refused (index_fault index) 0) work
  unfolding plan_answer work_after
  answer_fault some =
      let f = ne_eqb (index_fault index) 0 some in answered (Refused (index_fault index) 0) work (rw f) (rw f)

  module _ (none : index_fault index ≡ 0) where
    pub answer_3 : length work < length index → Answered index plan work (Refused 3 0) work
    unfolding plan_answer work_after
    answer_3 few =
        let e = eq-eqb (index_fault index) 0 none in
        let f = lt-leb (length index) (length work) few in
        answered (Refused 3 0) work (rw (e, f)) (rw (e, f))

    module _ (enough : length index ≤ length work) where
      answer_of_plan : plan_from index [] 0 plan ≡ plan_answer index plan (length work)
      unfolding plan_answer
      answer_of_plan =
          rw (eq-eqb (index_fault index) 0 none, le-leb (length index) (length work) enough)

      -- the first work places, as many as it has labels, were lent on, and then set to 0
      pub answer_plan : (answer : Outcome) → answer ≡ plan_from index [] 0 plan → (count : ℕ) → count ≡ length index
          → (lent : List ℕ) → length lent ≡ count
          → Answered index plan work answer (written (replicate count 0) (lent ++ drop count work))
      unfolding work_after
      answer_plan answer e count f lent g =
          answered answer (written (replicate count 0) (lent ++ drop count work)) (e ∙ answer_of_plan)
          (rw (
            eq-eqb (index_fault index) 0 none,
            le-leb (length index) (length work) enough,
            length-replicate {A = ℕ} count 0,
            drop_at lent (drop count work) count g,
            f,
            length-replicate {A = ℕ} (length index) 0,
          ))
