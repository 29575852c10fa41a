-- `pf_label` meets its contract.
use mathlib.Core.Path.{ap, ◌∙◌}
use Rattle.exports.specs.Exports.{outcome_code}
use Rattle.exports.proofs.Places.{place_small}
use Rattle.exports.proofs.pf_label.Goals as goal

pub outcome_code-requires : goal.outcome_code-requires
outcome_code-requires c = rw c.label.ensures.outcome (place_small _ _)

pub returns : goal.returns
returns c = record {
  outcome = c.outcome_code.ensures ∙ ap outcome_code c.label.ensures.outcome;
  lent = c.label.ensures.lent;
}
