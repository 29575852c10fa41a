-- `pf_flow` meets its contract.
use mathlib.Core.Path.{◌∙◌}
use Rattle.exports.proofs.pf_flow.Goals as goal

pub returns : goal.returns
returns c =
    c.answer_number.ensures ∙ (rw (c.unit-p.ensures, c.unit-q.ensures) at c.flow_of.ensures.number)
