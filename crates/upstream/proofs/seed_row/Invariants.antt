use mathlib.Core.Path.{◌≡◌}
use Prim.Native.Nat.{◌+◌, ◌*◌, ◌-◌, ◌≤◌}
use lib.ListN.{length}
use Rattle.sheet.specs.Sheet.{grid}
use Rattle.upstream.specs.Work.{sizes_part, KeptFrom}
use Rattle.upstream.specs.Growth.{Seeded}
use Rattle.directions.specs.Sizes.{grid_of}
use Rattle.upstream.proofs.seed_row.Given as goal

abbrev pub invariant-loop-col : goal.invariant-loop-col
invariant-loop-col l =
    (l.col ≤ l.grid.cols) × (length l.work ≡ length l.initial.work) × Seeded (grid_of l.grid) l.work l.last (l.row * l.grid.cols + l.col) × KeptFrom
    (sizes_part * (l.grid.rows * l.grid.cols)) l.initial.work l.work

abbrev pub decreases-loop-col : goal.decreases-loop-col
decreases-loop-col l = l.grid.cols - l.col
