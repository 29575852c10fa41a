-- `count_units` meets its contract. The loop's invariant: the groups counted and those from `first` on are all groups.
-- The measure is what is left of the cells.
use mathlib.Core.Path.{ap}
use native.Mathlib.Omega.{arith}
use lib.ListN.{length}
use Rattle.index.proofs.Groups.{groups_past}
use Rattle.index.proofs.units.count_units.Goals as goal

pub returns : goal.returns
returns c =
    let a = c.args in
    let none =
    ap length
    (groups_past a.cells.now a.labels.now a.basins.now c.loop-first.first c.loop-first-test.false) in
    omega (arith, c.loop-first.invariant.2)
