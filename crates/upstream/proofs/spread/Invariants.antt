use mathlib.Core.Path.{◌≡◌}
use Prim.Native.Nat.{◌*◌, ◌-◌, ◌≤◌}
use lib.ListN.{length}
use Rattle.sheet.specs.Sheet.{grid}
use Rattle.upstream.specs.Work.{sizes_part, KeptFrom}
use Rattle.upstream.specs.Growth.{Spread}
use Rattle.directions.specs.Sizes.{grid_of}
use Rattle.upstream.proofs.spread.Given as goal

abbrev pub invariant-loop-head : goal.invariant-loop-head
invariant-loop-head l =
    (l.head ≤ l.end) × (length l.work ≡ length l.initial.work) × Spread (grid_of l.grid) l.work l.end l.head × KeptFrom
    (sizes_part * (l.grid.rows * l.grid.cols)) l.initial.work l.work

abbrev pub decreases-loop-head : goal.decreases-loop-head
decreases-loop-head l = l.grid.rows * l.grid.cols - l.head
