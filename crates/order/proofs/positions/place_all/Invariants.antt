use mathlib.Core.Path.{◌≡◌}
use mathlib.Core.List.{List}
use Prim.Native.Nat.{ℕ, ◌≤◌, ◌*◌}
use lib.ListN.{length}
use Rattle.sheet.specs.Sheet.{grid}
use Rattle.order.specs.Places.{outlets_in, Surveyed, positioned, Placed}
use Rattle.directions.specs.Sizes.{grid_of}
use Rattle.order.proofs.positions.place_all.Given as goal

abbrev pub invariant-loop-i : goal.invariant-loop-i
invariant-loop-i l =
    (l.i ≤ l.queued) × (length l.work ≡ length l.initial.work)
    × ((entry : List ℕ) → Surveyed (grid_of l.grid) l.areas entry l.queued → l.initial.work ≡ positioned
    (l.grid.rows * l.grid.cols) 0 (outlets_in (grid_of l.grid) entry) entry
    → Placed (grid_of l.grid) l.areas entry l.work l.queued l.i)
