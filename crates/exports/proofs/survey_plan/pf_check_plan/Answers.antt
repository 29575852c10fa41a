-- `pf_check_plan` meets its contract.
use mathlib.Core.Path.{ap, ◌∙◌}
use Rattle.exports.specs.Exports.{plan_code}
use Rattle.exports.proofs.survey_plan.pf_check_plan.Goals as goal

pub returns : goal.returns
returns c = record {
  answer = c.plan_code.ensures ∙ ap plan_code c.check_plan.ensures.answer;
  work = c.check_plan.ensures.work;
}
