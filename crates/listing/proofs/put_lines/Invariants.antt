use Prim.Native.Nat.{◌-◌, ◌≤◌}
use Rattle.listing.specs.Labelled.{grid_of, line_at}
use Rattle.listing.specs.Listing.{lines_below}
use Rattle.listing.specs.Steps.{Put}
use Rattle.listing.proofs.put_lines.Given as goal

abbrev pub invariant-loop-cell : goal.invariant-loop-cell
invariant-loop-cell l =
    (l.cell ≤ l.n) × Put l.initial.out l.out l.at l.next (lines_below (grid_of l.sheet) (line_at l.sheet) l.cell)

abbrev pub decreases-loop-cell : goal.decreases-loop-cell
decreases-loop-cell l = l.n - l.cell
