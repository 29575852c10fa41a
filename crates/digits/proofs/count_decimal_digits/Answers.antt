-- `count_decimal_digits` meets its contract: what is counted and what is left are all the digits.
use native.Mathlib.Omega.{arith}
use Rattle.sheet.proofs.Digits.{digits_at_most_20}
use Rattle.digits.proofs.LastDigit.{digits_none, digits_longer}
use Rattle.digits.proofs.count_decimal_digits.Goals as goal

pub overflow_add-count : goal.overflow_add-count
overflow_add-count c = omega (arith, digits_at_most_20 c.args.number)

pub loop-m-preserved : goal.loop-m-preserved
loop-m-preserved c = (omega (arith, digits_longer c.loop-m.m (omega arith) (omega arith)), omega arith)

pub returns : goal.returns
returns c = omega (arith, digits_none c.loop-m.m c.loop-m-test.false)
