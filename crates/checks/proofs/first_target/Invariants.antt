use mathlib.Core.Path.{◌≡◌}
use Prim.Native.Nat.{◌+◌, ◌*◌, ◌-◌, ◌≤◌}
use Rattle.directions.specs.Sizes.{grid_of}
use Rattle.checks.specs.Search.{is_target}
use Rattle.sheet.proofs.First.{NoneBelow}
use Rattle.checks.proofs.first_target.Given as goal
use Rattle.std.specs.Prelude.{None}

abbrev pub invariant-loop-col : goal.invariant-loop-col
invariant-loop-col l =
    (l.col ≤ l.grid.cols) × (l.found ≡ None) × NoneBelow (is_target (grid_of l.grid) l.reached l.target) (l.row * l.grid.cols + l.col)

abbrev pub invariant-rows : goal.invariant-rows
invariant-rows l =
    (l.row ≤ l.grid.rows) × (l.found ≡ None) × NoneBelow (is_target (grid_of l.grid) l.reached l.target) (l.row * l.grid.cols)

abbrev pub decreases-rows : goal.decreases-rows
decreases-rows l = l.grid.rows - l.row
