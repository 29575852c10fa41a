-- `put_digits` meets its contract: the digits left, written to the present places, give what the whole gives.
use Rattle.std.proofs.Common.{arith, length-set, ◌∙◌}
use Rattle.digits.proofs.LastDigit.{digits_some, digits_longer, write_turn}
use Rattle.digits.proofs.put_digits.Goals as goal

pub loop-i-preserved : goal.loop-i-preserved
loop-i-preserved c =
    let l = c.loop-i in
    let some = digits_some l.left (omega arith) in
    let longer = digits_longer l.left (omega arith) some in (
      write_turn l.left l.out _ (omega arith) some (omega arith) (omega (arith, c.requires.count_in_bounds)) ∙ l.invariant.0,
      omega arith,
      simp length-set l.invariant.2,
      omega arith,
    )
