use Prim.Native.Nat.{◌-◌, ◌*◌, ◌≤◌}
use mathlib.Core.Path.{◌≡◌}
use lib.ListN.{length}
use Rattle.listing.specs.Labelled.{grid_of, line_at}
use Rattle.listing.specs.Listing.{lines_below}
use Rattle.listing.proofs.lines_length.Given as goal

abbrev pub invariant-loop-cell : goal.invariant-loop-cell
invariant-loop-cell l =
    (l.cell ≤ l.n) × (l.count ≡ length (lines_below (grid_of l.sheet) (line_at l.sheet) l.cell))
    × (l.count ≤ 105 * l.cell)

abbrev pub decreases-loop-cell : goal.decreases-loop-cell
decreases-loop-cell l = l.n - l.cell
