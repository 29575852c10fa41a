-- `pf_outlet_flow` meets its contract.
use mathlib.Core.Path.{◌∙◌}
use Rattle.exports.proofs.pf_outlet_flow.Goals as goal

pub returns : goal.returns
returns c =
    c.outlet_answer_number.ensures ∙ (rw (c.unit-p.ensures, c.unit-q.ensures) at c.outlet_flow_of.ensures.number)
