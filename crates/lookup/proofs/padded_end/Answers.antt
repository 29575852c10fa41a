-- `padded_end` meets its contract: one more at the last digit of the number that holds it.
use native.Mathlib.Omega.{arith}
use Prim.Native.Nat.{◌+◌}
use lib.ListN.{length}
use Rattle.sheet.specs.Record.{decimal_digits}
use Rattle.lookup.specs.PaddedHalves.{joined}
use Rattle.lookup.proofs.PaddedHalves.{short_below, first_short, rest_short, first_small}
use Rattle.lookup.proofs.PaddedHalves.{rest_small, zeros_most, end_first, end_rest}
use Rattle.lookup.proofs.padded_end.Goals as goal

pub overflow_add-leading : goal.overflow_add-leading
overflow_add-leading c =
    omega (arith, first_small c.args.leading c.requires)

pub with_zeros-requires : goal.with_zeros-requires
with_zeros-requires c =
    let short = first_short c.args.leading c.requires in
    let below = short_below c.args.leading.first short in record {
      number_bound = rw c.count_decimal_digits.ensures (omega arith);
      count_le_number_digits = omega (arith, c.count_decimal_digits.ensures);
    }

pub returns-then-leading-eq0 : goal.returns-then-leading-eq0
unfolding joined
returns-then-leading-eq0 c =
    let count = c.count_decimal_digits.ensures in
    record {
      whole =
          rw (c.with_zeros.ensures, count)
          (end_first c.args.leading c.requires c.if-leading-eq0.true);
      most = omega arith;
    }

pub overflow_add-leading-2 : goal.overflow_add-leading-2
overflow_add-leading-2 c =
    omega (arith, rest_small c.args.leading c.requires)

pub with_zeros-requires-2 : goal.with_zeros-requires-2
with_zeros-requires-2 c =
    let short = rest_short c.args.leading c.requires in
    let below = short_below c.args.leading.rest short in record {
      number_bound = rw c.count_decimal_digits-2.ensures (omega arith);
      count_le_number_digits = omega (arith, c.count_decimal_digits-2.ensures);
    }

pub returns : goal.returns
unfolding joined
returns c =
    let count = c.count_decimal_digits-2.ensures in
    let short = rest_short c.args.leading c.requires in
    let below = short_below c.args.leading.rest short in
    record {
      whole =
          rw (c.with_zeros-2.ensures, count)
          (end_rest c.args.leading c.requires c.if-leading-eq0.false);
      most =
          rw (c.with_zeros-2.ensures, count)
          (zeros_most (c.args.leading.rest + 1) (length (decimal_digits c.args.leading.rest)) (omega arith)
          short);
    }
