use Prim.Native.Nat.{◌-◌}
use lib.ListN.{length}
use Rattle.dues.proofs.Sharing.{Sharing}
use Rattle.dues.proofs.write_dues.Given as goal

abbrev pub invariant-loop-first : goal.invariant-loop-first
invariant-loop-first l =
    Sharing l.total l.whole l.cols l.weights l.cells l.labels l.basins l.initial.dues l.dues l.at l.first l.weight l.owed

abbrev pub decreases-loop-first : goal.decreases-loop-first
decreases-loop-first l =
    length l.cells - l.first
