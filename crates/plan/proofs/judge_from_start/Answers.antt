-- `judge_from_start` meets its contract: the plan is judged with work places that are all 0.
use mathlib.Core.Path.{◌≡◌, ap, ◌∙◌}
use mathlib.Core.List.{List}
use Prim.Native.Nat.{ℕ}
use lib.ListN.{length, replicate}
use Rattle.sheet.specs.declared.Label.{Label}
use Rattle.sheet.specs.Record.{labels_in}
use Rattle.plan.specs.Steps.{PlanJudged, plan_judged}
use Rattle.plan.proofs.Judging.{WorkFor, cleared_work_for, judged_answer}
use Rattle.plan.proofs.judge_from_start.Goals as goal
use Rattle.plan.proofs.judge_from_start.Goals.{After-clear_places, Start}

abbrev labels_at : Start → List Label
labels_at c = labels_in c.args.index.now

abbrev labels_at-After-clear_places : After-clear_places → List Label
labels_at-After-clear_places c = labels_in c.args.index.now

-- all are 0
cleared : (c : After-clear_places) → c.clear_places.new.places ≡ replicate (length (labels_at-After-clear_places c)) 0
cleared c = c.clear_places.ensures ∙ ap (λ (n : ℕ). replicate n 0) c.requires.work_len

work_for : (c : After-clear_places) → WorkFor (labels_at-After-clear_places c) c.clear_places.new.places
work_for c = cleared_work_for (labels_at-After-clear_places c) c.clear_places.new.places (cleared c)

pub judge_plan-requires : goal.judge_plan-requires
judge_plan-requires c = record {
  judged = c.requires.judged;
  work_len = (work_for (goal.at.judge_plan-requires c).After-clear_places).size;
  spans = (work_for (goal.at.judge_plan-requires c).After-clear_places).spans;
}

pub returns : goal.returns
returns c =
    let plan = labels_in c.args.plan.now in record {
      answer = ap (λ (r : PlanJudged). r.answer) c.judge_plan.ensures
          ∙ judged_answer (labels_at (goal.at.returns c).Start) c.requires.judged plan _ (cleared (goal.at.returns c).After-clear_places);
      work = ap (λ (r : PlanJudged). r.work) c.judge_plan.ensures
          ∙ ap (λ (work : List ℕ). (plan_judged (labels_at (goal.at.returns c).Start) 0 plan work).work) c.clear_places.ensures;
    }
