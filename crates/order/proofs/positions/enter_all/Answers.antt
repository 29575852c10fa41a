-- `enter_all` meets its contract. The invariant: the first i queued cells stand at their positions. The measure: the
-- cells that are left.
use mathlib.Core.Path.{◌∙◌}
use native.Mathlib.Omega.{arith}
use Rattle.order.proofs.Entering.{entered_more}
use Rattle.order.proofs.positions.enter_all.Goals as goal

pub loop-i-preserved : goal.loop-i-preserved
loop-i-preserved c =
    let l = c.loop-i in (
      omega arith,
      c.enter.auto.work ∙ l.invariant.1,
      rw c.enter.ensures
          (entered_more c.requires l.invariant.1 l.invariant.2
          c.loop-i-test.true),
    )
