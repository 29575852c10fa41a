use Prim.Native.Nat.{◌-◌, ◌/◌, ◌≤◌}
use lib.ListN.{length}
use Rattle.sheet.specs.Record.{labels_in}
use Rattle.lookup.specs.Padded.{count_below}
use Rattle.lookup.specs.PaddedHalves.{joined}
use Rattle.plan.specs.Plan.{units_of_one}
use Rattle.plan.proofs.count_below.Given as goal

abbrev pub invariant-loop-from : goal.invariant-loop-from
invariant-loop-from l =
    let count = count_below 1 (joined l.limit) (units_of_one (labels_in l.index)) in
    (l.from ≤ count) × (count ≤ l.to) × (l.to ≤ length l.index / 2)

abbrev pub decreases-loop-from : goal.decreases-loop-from
decreases-loop-from l = l.to - l.from
