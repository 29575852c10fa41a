-- `label_basins` meets its contract. Invariant: a basin begins at position j, with the number under way, and the cells
-- before j have their labels and basins.
use Prim.Native.Nat.{◌+◌, ◌≤◌, ◌<◌}
use native.Mathlib.Numerals.{add-one}
use native.Mathlib.Omega.{arith}
use lib.ListN.{length, get_or}
use Rattle.labelling.proofs.InOrder.{network_of, labels_none, basins_none, labels_onward, basins_onward}
use Rattle.labelling.proofs.basins.label_basins.Goals as goal
use Rattle.labelling.proofs.basins.label_basins.Goals.{After-shared_slice_known-in-loop-j-1}

pub loop-j-init : goal.loop-j-init
loop-j-init c = (omega arith, omega arith, λ b. (b.first, labels_none b _, basins_none b _))

pub label_basin-requires-clause-network_of : goal.label_basin-requires-clause-network_of
label_basin-requires-clause-network_of c = network_of c.requires.basins_of

-- a basin lies within the order
within : (c : After-shared_slice_known-in-loop-j-1)
    → let l = c.loop-j in
    (l.j < length c.args.cell.now) × (l.j + get_or c.args.size.now l.j 0 ≤ length c.args.cell.now)
    × (1 ≤ get_or c.args.size.now l.j 0)
within c =
    let on = c.loop-j-test.true in
    (on, c.requires.layout.within _ on, c.requires.layout.some _ on)

pub loop-j-preserved : goal.loop-j-preserved
loop-j-preserved c =
    let l = c.loop-j in
    let w = within c in (
      w.1,
      omega (arith, l.invariant.1, w.2),
      λ b.
          let i = l.invariant.2 b in
          let at = i.0 w.0 in (
            λ h. rw (add-one l.number) (b.onward l.j l.number at h),
            labels_onward b l.j l.number w.0 w.1 at _ i.1 c.label_basin.ensures.labels,
            basins_onward b l.j l.number w.0 w.1 at _ i.2 c.label_basin.ensures.basins,
          ),
    )
