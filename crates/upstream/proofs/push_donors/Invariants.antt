use mathlib.Core.Path.{◌≡◌}
use Prim.Native.Nat.{◌-◌, ◌≤◌}
use lib.ListN.{length}
use Rattle.sheet.specs.Sheet.{grid}
use Rattle.upstream.specs.Growth.{DonorsPushed}
use Rattle.directions.specs.Sizes.{grid_of}
use Rattle.upstream.proofs.push_donors.Given as goal

abbrev pub invariant-loop-k : goal.invariant-loop-k
invariant-loop-k l =
    (l.k ≤ 8) × (length l.work ≡ length l.initial.work) × DonorsPushed (grid_of l.grid) l.initial.work l.end l.work l.last l.row l.col 0 l.k

abbrev pub decreases-loop-k : goal.decreases-loop-k
decreases-loop-k l = 8 - l.k
