use mathlib.Core.Path.{◌≡◌}
use Prim.Native.Nat.{◌*◌, ◌-◌, ◌≤◌}
use lib.ListN.{length}
use Rattle.sheet.specs.Sheet.{grid}
use Rattle.upstream.specs.Work.{sizes_part, KeptFrom}
use Rattle.upstream.specs.Growth.{Seeded}
use Rattle.directions.specs.Sizes.{grid_of}
use Rattle.upstream.proofs.seed.Given as goal

abbrev pub invariant-loop-row : goal.invariant-loop-row
invariant-loop-row l =
    (l.row ≤ l.grid.rows) × (length l.work ≡ length l.initial.work) × Seeded (grid_of l.grid) l.work l.end (l.row * l.grid.cols) × KeptFrom
    (sizes_part * (l.grid.rows * l.grid.cols)) l.initial.work l.work

abbrev pub decreases-loop-row : goal.decreases-loop-row
decreases-loop-row l = l.grid.rows - l.row
