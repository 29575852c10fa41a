-- `judge_place` meets its contract: as `judge_unit` for the place of the unit in the index, 20 where it has none.
use mathlib.Core.Path.{sym, ap, ◌∙◌}
use Rattle.std.specs.Prelude.{Err}
use Rattle.sheet.specs.Record.{labels_in}
use Rattle.plan.proofs.Judging.{outcome_then, work_then, judged_by, judged_unknown}
use Rattle.plan.proofs.judge_place.Goals as goal

pub returns-in_default : goal.returns-in_default
returns-in_default c =
    let a = c.args in
    let unknown = judged_by (labels_in a.index.now) a.p a.work.now _ (sym c.place_of.ensures ∙ c.in_default.is)
    ∙ judged_unknown (labels_in a.index.now) a.p a.work.now in record {
      answer = ap Err c.numbered.ensures ∙ outcome_then unknown;
      work = work_then unknown;
    }

pub returns : goal.returns
returns c =
    let a = c.args in
    let known = judged_by (labels_in a.index.now) a.p a.work.now _ (sym c.place_of.ensures ∙ c.in-Some.is) in record {
      answer = c.judge_unit.ensures.answer ∙ outcome_then known;
      work = c.judge_unit.ensures.work ∙ work_then known;
    }
