-- `is_below` meets its contract: the first halves are compared, and then the second.
use Rattle.std.proofs.Common.{arith, sym, ◌∙◌}
use borrow.Author.Tests.{eq-eqb, ne_eqb, le-ltb}
use Rattle.lookup.specs.PaddedHalves.{joined}
use Rattle.lookup.proofs.PaddedHalves.{first_short, rest_short, below_halves}
use Rattle.lookup.proofs.is_below.Goals as goal

pub padded_number-first-requires : goal.padded_number-first-requires
padded_number-first-requires c = first_short c.args.label c.requires.label_value

pub padded_number-requires : goal.padded_number-requires
padded_number-requires c = rest_short c.args.label c.requires.label_value

pub returns-then-first-limit : goal.returns-then-first-limit
unfolding joined
returns-then-first-limit c =
    rw (
      below_halves c.args.label c.requires.label_value c.args.limit.first c.args.limit.rest c.requires.rest_bound,
      ← c.padded_number-first.ensures,
      ne_eqb c.padded_number-first.result c.args.limit.first (λ e. omega arith),
    )

pub returns-then-first-limit-2 : goal.returns-then-first-limit-2
unfolding joined
returns-then-first-limit-2 c =
    let equal = sym c.padded_number-first.ensures ∙ c.if-first-limit-2.true in
    rw (
      below_halves c.args.label c.requires.label_value c.args.limit.first c.args.limit.rest c.requires.rest_bound,
      eq-eqb _ _ equal,
      c.padded_number.ensures,
    )

pub returns-else-first-limit-2 : goal.returns-else-first-limit-2
unfolding joined
returns-else-first-limit-2 c =
    rw (
      below_halves c.args.label c.requires.label_value c.args.limit.first c.args.limit.rest c.requires.rest_bound,
      ← c.padded_number-first.ensures,
      ne_eqb _ _ c.if-first-limit-2.false,
      le-ltb _ _ c.if-first-limit.false,
    )
