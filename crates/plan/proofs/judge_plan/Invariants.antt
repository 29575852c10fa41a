use mathlib.Core.Path.{◌≡◌}
use lib.ListN.{drop}
use Rattle.sheet.specs.Record.{labels_in}
use Rattle.plan.specs.Steps.{plan_judged}
use Rattle.plan.proofs.Judging.{WorkFor}
use Rattle.plan.proofs.judge_plan.Given as goal

abbrev pub invariant-loop-k : goal.invariant-loop-k
invariant-loop-k l =
    (plan_judged (labels_in l.index) l.k (drop l.k (labels_in l.plan)) l.work ≡ plan_judged (labels_in l.index) 0 (labels_in l.plan) l.initial.work)
    × WorkFor (labels_in l.index) l.work
