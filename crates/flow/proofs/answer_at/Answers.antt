-- The labels part where both have a digit.
use mathlib.Core.Path.{sym, ◌∙◌}
use Rattle.flow.proofs.Places.{part_left, part_right}
use Rattle.flow.proofs.answer_at.Goals as goal

pub rule_at-requires : goal.rule_at-requires
rule_at-requires c = record {
  i_in_bounds = part_left _ _ _ (sym c.part_at.ensures ∙ c.in-Some.is);
  i_in_bounds_2 = part_right _ _ _ (sym c.part_at.ensures ∙ c.in-Some.is);
}
