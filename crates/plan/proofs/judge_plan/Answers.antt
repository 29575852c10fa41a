-- `judge_plan` meets its contract. The invariant: the places from k on, judged with the present work places, give what
-- the whole plan gives; and these are work places of the index. The measure: the places left.
use native.Mathlib.Omega.{arith}
use mathlib.Core.Path.{◌≡◌, sym, ap, ◌∙◌}
use Prim.Native.Nat.{ℕ, ◌+◌, ◌≤◌, ◌<◌}
use lib.ListN.{length}
use Rattle.sheet.specs.declared.Label.{Label}
use Rattle.sheet.specs.Record.{labels_in, label_at, label_places}
use Rattle.sheet.specs.Answer.{Outcome, Refused, outcome_of_fault}
use Rattle.std.proofs.Common.{rules, tests}
use mathlib.Core.Bool.{true, false, true≢false}
use mathlib.Core.Logic.{◌≢◌}
use native.Mathlib.Decide.{ℕ_discrete}
use Rattle.std.specs.Prelude.{Err, is_ok}
use Rattle.std.proofs.lemmas.Result.{err_from_is_err_and}
use Rattle.sheet.proofs.Answer.{fault_refused, no_fault_accepted}
use Rattle.lookup.proofs.Counted.{labels_counted}
use Rattle.plan.specs.Steps.{PlaceJudged, PlanJudged, place_judged}
use Rattle.plan.proofs.Judging.{place_work_for, plan_end, plan_refused, plan_turn}
use Rattle.plan.proofs.judge_plan.Goals as goal
use Rattle.plan.proofs.judge_plan.Goals.{After-judge_place}

pub label_at-requires : goal.label_at-requires
unfolding label_places
label_at-requires c = omega (arith, c.label_count-k-end.ensures)

ok_no_fault : (fault : ℕ) → is_ok (outcome_of_fault fault) ≡ true → fault ≡ 0
ok_no_fault fault e = elim (ℕ_discrete fault 0) [
  | yes z ↦ z
  | no n ↦ absurd (true≢false (sym e ∙ ap is_ok (fault_refused fault n)))
]

err_fault : (fault : ℕ) → is_ok (outcome_of_fault fault) ≡ false → fault ≢ 0
err_fault fault e z = true≢false (ap is_ok (sym (no_fault_accepted fault z)) ∙ e)

-- the place as it is judged
abbrev step : After-judge_place → PlaceJudged
step c = place_judged (labels_in c.args.index.now) (label_at c.args.plan.now c.loop-k.k) c.loop-k.work

outcome : (c : After-judge_place) → c.judge_place.result ≡ outcome_of_fault (step c).number
outcome c =
    c.judge_place.ensures.answer
    ∙ ap (λ (p : Label). outcome_of_fault (place_judged (labels_in c.args.index.now) p c.loop-k.work).number) c.label_at.ensures

work_then : (c : After-judge_place) → c.judge_place.new.work ≡ (step c).work
work_then c =
    c.judge_place.ensures.work
    ∙ ap (λ (p : Label). (place_judged (labels_in c.args.index.now) p c.loop-k.work).work) c.label_at.ensures

-- it is a place of the plan
inside : (c : After-judge_place) → c.loop-k.k < length (labels_in c.args.plan.now)
inside c = omega (arith, labels_counted c.args.plan.now, c.label_count-k-end.ensures)

pub returns-in_err-map_err : goal.returns-in_err-map_err
returns-in_err-map_err c =
    let here = (goal.at.returns-in_err-map_err c).After-judge_place in
    let err = ap is_ok (sym (outcome here)) ∙ sym c.map_err.ensures.variant ∙ ap is_ok c.in_err-map_err.was in
    let some : (step here).number ≢ 0 = err_fault _ err in
    let p = err_from_is_err_and c.map_err.result
    (rw (outcome here ∙ fault_refused (step here).number some) at c.map_err.ensures.cases) in
    let q = err_from_is_err_and c.from_residual.result c.from_residual.ensures.1 in
    let placed : p.0 ≡ record { number = (step here).number; place = c.loop-k.k + 1 } = search (rules, tests) in
    let answer : c.from_residual.result ≡ Refused (step here).number (c.loop-k.k + 1) =
    q.1 ∙ ap Err q.2 ∙ sym c.in_err-map_err.was ∙ p.1 ∙ ap Err placed in
    rw (answer, work_then here)
    (sym (plan_refused (labels_in c.args.index.now) (labels_in c.args.plan.now) c.loop-k.k c.loop-k.work (inside here) some)
    ∙ c.loop-k.invariant.0)

pub loop-k-preserved : goal.loop-k-preserved
loop-k-preserved c =
    let here = (goal.at.loop-k-preserved c).After-judge_place in
    let ok = ap is_ok (sym (outcome here)) ∙ sym c.map_err.ensures.variant ∙ ap is_ok c.in_ok-map_err.was in
    rw (work_then here) (
      plan_turn (labels_in c.args.index.now) (labels_in c.args.plan.now) c.loop-k.k c.loop-k.work (inside here)
          (ok_no_fault _ ok) ∙ c.loop-k.invariant.0,
      place_work_for (labels_in c.args.index.now) c.requires.judged _ c.loop-k.work c.loop-k.invariant.1,
    )

pub returns : goal.returns
returns c =
    let plan = c.args.plan.now in
    let end : length (labels_in plan) ≤ c.loop-k.k =
    omega (arith, labels_counted plan, c.label_count-k-end.ensures, c.loop-k-test.false) in
    ap (λ (a : Outcome). let r : PlanJudged = record { answer = a; work = c.loop-k.work } in r)
    c.first_missing.ensures ∙ sym (plan_end _ _ _ _ end) ∙ c.loop-k.invariant.0
