-- `count_digits` meets its contract.
use native.Mathlib.Omega.{arith}
use Rattle.sheet.proofs.Digits.{digits_at_most_20}
use Rattle.digits.proofs.Numbers.{digits_counted}
use Rattle.digits.proofs.count_digits.Goals as goal

pub overflow_add-result : goal.overflow_add-result
overflow_add-result c =
    let label = c.args.label in
    omega (arith, digits_at_most_20 label.first, digits_at_most_20 label.rest)

pub returns : goal.returns
returns c = omega (arith, digits_counted c.args.label)
