-- `stands_before` meets its contract: units stand by basin and then label as their padded labels do.
use mathlib.Core.Path.{sym, ap, ◌∙◌}
use Prim.Native.Nat.{ℕ}
use Rattle.lookup.specs.Padded.{is_below}
use Rattle.lookup.proofs.PaddedOrder.{unit_before_padded}
use Rattle.lookup.proofs.stands_before.Goals as goal

pub unit_is_below-requires : goal.unit_is_below-requires
unit_is_below-requires c = record {
  label_value = c.requires.label_value;
  rest_bound = c.padded.ensures.most;
}

pub returns : goal.returns
returns c =
    let limit = c.padded.ensures.whole in
    c.unit_is_below.ensures
    ∙ ap (λ (n : ℕ). is_below c.args.k.basin n c.args.m) limit
    ∙ sym (unit_before_padded c.args.m c.args.k c.requires.label_value c.requires.label_value_2)
