-- `plan_code` meets its contract.
use Rattle.exports.proofs.survey_plan.plan_code.Goals as goal

pub returns-in-Err : goal.returns-in-Err
returns-in-Err c = rw c.in-Err.is
