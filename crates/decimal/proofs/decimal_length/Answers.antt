-- `decimal::decimal_length` meets its contract. The invariant: the digits counted and those of the rest, less one, are
-- the digits of n.
use mathlib.Core.Path.{ap}
use native.Mathlib.Omega.{arith}
use lib.ListN.{length}
use Rattle.decimal.proofs.TextLaws.{text_small, text_longer, text_64_bit}
use Rattle.decimal.proofs.decimal_length.Goals as goal

pub loop-rest-init : goal.loop-rest-init
loop-rest-init c = omega arith

pub overflow_add-count : goal.overflow_add-count
overflow_add-count c = omega (arith, text_64_bit c.args.n c.ranges.n.fits)

pub loop-rest-smaller : goal.loop-rest-smaller
loop-rest-smaller c = omega arith

pub loop-rest-preserved : goal.loop-rest-preserved
loop-rest-preserved c = omega (arith, text_longer c.loop-rest.rest c.loop-rest-test.true)

pub returns : goal.returns
returns c = omega (arith, ap length (text_small c.loop-rest.rest c.loop-rest-test.false))
