use Prim.Native.Nat.{◌-◌}
use lib.ListN.{length}
use Rattle.dues.proofs.BasinParts.{Passed}
use Rattle.dues.proofs.basin_start.Given as goal

abbrev pub invariant-loop-start : goal.invariant-loop-start
invariant-loop-start l = Passed l.sizes l.basin l.start l.number

abbrev pub decreases-loop-start : goal.decreases-loop-start
decreases-loop-start l = length l.sizes - l.start
