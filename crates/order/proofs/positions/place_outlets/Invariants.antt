use Prim.Native.Nat.{◌≤◌}
use Rattle.order.proofs.Placing.{OutletsPlaced}
use Rattle.order.proofs.positions.place_outlets.Given as goal

abbrev pub invariant-loop-i : goal.invariant-loop-i
invariant-loop-i l = (l.i ≤ l.queued) × OutletsPlaced l.n l.queued l.initial.work l.work l.at l.i
