-- `weight_of` meets its contract. The loop's invariant: so much do the cells before the turn's weigh.
use Rattle.dues.proofs.Sharing.{weighed_more, weighed_all}
use Rattle.dues.proofs.weight_of.Goals as goal

pub loop-cell-preserved : goal.loop-cell-preserved
loop-cell-preserved c = weighed_more _ _ _ _ c.loop-cell.invariant c.loop-cell-test.true

pub returns : goal.returns
returns c = weighed_all _ _ _ _ c.loop-cell.invariant c.loop-cell-test.false
