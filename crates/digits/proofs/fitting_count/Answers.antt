-- `fitting_count` meets its contract: the digits left, judged by the room left, have the whole number's answer.
use native.Mathlib.Omega.{arith}
use mathlib.Core.Path.{sym, ap, ◌∙◌}
use Rattle.digits.specs.Counts.{fitting_count}
use Rattle.digits.proofs.LastDigit.{judged_none, judged_long, judged_zero, judged_turn}
use Rattle.digits.proofs.LastDigit.{digits_none, digits_longer}
use Rattle.digits.proofs.fitting_count.Goals as goal
use Rattle.digits.proofs.fitting_count.Goals.{then-left-eq0-via-then-left-eq0, then-left-eq0-via-else-left-eq0+then-m-eq0}
use Rattle.std.specs.Prelude.{Some}

pub returns-then-left-eq0 : goal.returns-then-left-eq0
unfolding fitting_count
returns-then-left-eq0 c =
    let l = c.loop-m in
    let some = c.loop-m-test.true in
    elim c.then-left-eq0.branch [
      | then-left-eq0-via-then-left-eq0 w ↦ rw (sym l.invariant.3 ∙ judged_long l.m (omega arith) some l.left (omega arith))
      | then-left-eq0-via-else-left-eq0+then-m-eq0 w ↦
          rw (sym l.invariant.3 ∙ judged_zero l.m (omega arith) some l.left (omega arith))
    ]

pub loop-m-preserved : goal.loop-m-preserved
loop-m-preserved c =
    let l = c.loop-m in
    let some = c.loop-m-test.true in (
      omega (arith, digits_longer l.m (omega arith) some),
      omega arith,
      omega arith,
      judged_turn l.m (omega arith) some l.left (omega arith) (omega arith) ∙ l.invariant.3,
    )

pub returns : goal.returns
unfolding fitting_count
returns c =
    let l = c.loop-m in
    let none = digits_none l.m c.loop-m-test.false in
    rw (sym l.invariant.3 ∙ judged_none l.left l.m c.loop-m-test.false) (ap Some (omega arith))
