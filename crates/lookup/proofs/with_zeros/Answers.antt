-- `with_zeros` meets its contract.
use Rattle.std.proofs.Common.{◌*◌, arith, ap}
use Rattle.lookup.specs.PaddedHalves.{number_with_zeros}
use Rattle.lookup.proofs.PaddedHalves.{zeros_most}
use Rattle.lookup.proofs.with_zeros.Goals as goal

pub overflow_mul-result : goal.overflow_mul-result
unfolding number_with_zeros
overflow_mul-result c =
    rw c.pow.ensures (omega (arith, zeros_most c.args.number c.args.count c.requires.number_bound c.requires.count_le_number_digits))

pub returns : goal.returns
unfolding number_with_zeros
returns c = ap (λ power. c.args.number * power) c.pow.ensures
