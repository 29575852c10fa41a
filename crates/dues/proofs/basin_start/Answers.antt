-- `basin_start` meets its contract. The loop's invariant: `number - 1` basins are passed, and end at `start`. The
-- measure is what is left of the cells.
use Rattle.dues.proofs.BasinParts.{passed_none, passed_more, passed_here, passed_all}
use Rattle.dues.proofs.basin_start.Goals as goal

pub loop-start-init : goal.loop-start-init
loop-start-init c = passed_none _ _

pub returns-then-number-basin : goal.returns-then-number-basin
returns-then-number-basin c = passed_here _ c.loop-start.invariant c.if-number-basin.true

pub loop-start-preserved : goal.loop-start-preserved
loop-start-preserved c =
    passed_more _ c.requires c.loop-start.invariant c.loop-start-test.true c.if-number-basin.false

pub returns : goal.returns
returns c = passed_all _ c.loop-start.invariant c.loop-start-test.false
