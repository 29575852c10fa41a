use mathlib.Core.Path.{◌≡◌}
use Prim.Native.Nat.{◌≤◌}
use lib.ListN.{length}
use Rattle.order.specs.Places.{Entered}
use Rattle.order.proofs.positions.enter_all.Given as goal

abbrev pub invariant-loop-i : goal.invariant-loop-i
invariant-loop-i l = (l.i ≤ l.queued) × (length l.work ≡ length l.initial.work) × Entered l.n l.initial.work l.work l.i
