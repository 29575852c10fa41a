-- The invariant: the lines of the cells before this one stand in the buffer from the position on.
use Prim.Native.Nat.{ℕ, ◌+◌, ◌*◌, ◌≤◌}
use mathlib.Core.Path.{◌≡◌, refl}
use native.Mathlib.Omega.{arith}
use lib.ListN.{length}
use Rattle.sheet.proofs.Cells.{cells_most}
use Rattle.listing.specs.Labelled.{grid_of, line_at, values_line}
use Rattle.listing.specs.Listing.{lines_below}
use Rattle.listing.proofs.Lengths.{line_of_lem, lines_grow}
use Rattle.listing.proofs.Putting.{put_nothing, put_length, put_outside, line_room, put_inside}
use Rattle.listing.proofs.put_lines.Goals as goal
use Rattle.listing.proofs.put_lines.Goals.{After-values_at, At-loop-cell}

pub overflow_mul-n : goal.overflow_mul-n
overflow_mul-n c =
    let p = c.requires.0 in
    omega (arith, cells_most p.rows_most p.cols_most)

-- the lines of the cells up to any one have room
room : (c : At-loop-cell) (k : ℕ) → let a = c.args in
    k ≤ a.sheet.rows * a.sheet.cols
    → a.at + length (lines_below (grid_of a.sheet) (line_at a.sheet) k) ≤ length a.out.now
room c k h =
    let a = c.args.sheet in
    omega (arith, lines_grow (grid_of a) (line_at a) k (a.rows * a.cols) h, c.requires.1)

pub loop-cell-init : goal.loop-cell-init
unfolding lines_below
loop-cell-init c = (omega arith, put_nothing _ _)

pub loop-cell-preserved-then-code-eq0 : goal.loop-cell-preserved-then-code-eq0
loop-cell-preserved-then-code-eq0 c =
    let l = c.loop-cell in (omega arith, put_outside _ _ l.cell c.if-code-eq0.true l.invariant.1)

-- the line of this cell
this-line : (c : After-values_at) → values_line c.values_at.result ≡ line_at c.args.sheet c.loop-cell.cell
this-line c =
    let a = c.args.sheet in
    rw c.values_at.ensures (line_of_lem (grid_of a) a.areas.now a.labels.now a.basins.now c.loop-cell.cell _ refl)

pub put_cell-next-requires : goal.put_cell-next-requires
put_cell-next-requires c =
    rw (this-line (goal.at.put_cell-next-requires c).After-values_at)
    (line_room _ _ c.loop-cell.cell (omega arith) c.if-code-eq0.false
    (room (goal.at.put_cell-next-requires c).At-loop-cell (c.loop-cell.cell + 1) (omega arith)) c.loop-cell.invariant.1)

pub loop-cell-preserved : goal.loop-cell-preserved
loop-cell-preserved c = (
  omega arith,
  put_inside _ _ c.loop-cell.cell c.loop-cell-test.true c.if-code-eq0.false
      (room (goal.at.loop-cell-preserved c).At-loop-cell (c.loop-cell.cell + 1) (omega arith)) c.loop-cell.invariant.1
      (rw (this-line (goal.at.loop-cell-preserved c).After-values_at) at c.put_cell-next.ensures),
)

pub shape_of-out : goal.shape_of-out
shape_of-out c =
    put_length c.loop-cell.invariant.1 (room (goal.at.shape_of-out c).At-loop-cell c.loop-cell.cell c.loop-cell.invariant.0)

pub returns : goal.returns
returns c =
    let e : c.loop-cell.cell ≡ c.args.sheet.rows * c.args.sheet.cols = omega arith in
    rw e at c.loop-cell.invariant.1
