-- `write_dues` meets its contract. The loop's invariant: the dues of the units before `at` are written, whose cells are
-- those before `first`. The measure is what is left of the cells.
use Prim.Native.Nat.{◌+◌, ◌-◌}
use native.Mathlib.Omega.{arith}
use Rattle.index.specs.Steps.{Group}
use Rattle.dues.proofs.Sharing.{weight_most, product_fits}
use Rattle.dues.proofs.Sharing.{part_weighed, sharing_goes_on, sharing_ends}
use Rattle.dues.proofs.write_dues.Goals as goal
use Rattle.dues.proofs.write_dues.Goals.{After-last_of_group-end}

-- the group that begins at `first`
group : (c : After-last_of_group-end)
    → let a = c.args in
    Group a.cells.now a.labels.now a.basins.now c.loop-first.first c.last_of_group-end.result
group c = c.last_of_group-end.ensures

pub weight_of-weight-requires : goal.weight_of-weight-requires
weight_of-weight-requires c =
    let g = group (goal.at.weight_of-weight-requires c).After-last_of_group-end in
    let k = c.loop-first.first in
    part_weighed k (c.last_of_group-end.result + 1 - k) c.requires.weighed (omega (arith, g.from, g.to))

pub overflow_add-weight : goal.overflow_add-weight
overflow_add-weight c =
    let m = weight_most _ _ _ _ _ _ _ _ c.requires c.loop-first.invariant (group (goal.at.overflow_add-weight c).After-last_of_group-end) in
    omega (arith, c.weight_of-weight.ensures, m)

pub overflow_mul-together : goal.overflow_mul-together
overflow_mul-together c =
    let m = product_fits _ _ _ _ _ _ _ _ c.requires c.loop-first.invariant (group (goal.at.overflow_mul-together c).After-last_of_group-end) in
    rw c.weight_of-weight.ensures (omega (arith, m))

pub loop-first-preserved : goal.loop-first-preserved
loop-first-preserved c =
    rw c.weight_of-weight.ensures
    (sharing_goes_on _ _ _ _ _ _ _ _ c.requires c.loop-first.invariant (group (goal.at.loop-first-preserved c).After-last_of_group-end))

pub returns : goal.returns
returns c =
    sharing_ends _ _ _ _ _ _ _ _ c.requires
    c.loop-first.invariant c.loop-first-test.false
