-- `pf_flow_pairs` meets its contract.
use mathlib.Core.Path.{ap, ◌∙◌}
use Rattle.exports.specs.Exports.{pairs_code}
use Rattle.exports.proofs.pf_flow_pairs.Goals as goal

pub returns : goal.returns
returns c = record {
  answer = c.pairs_code.ensures ∙ ap pairs_code c.flow_pairs.ensures.answer;
  places = c.flow_pairs.ensures.places;
}
