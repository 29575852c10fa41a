-- The invariant: the bytes counted are those of the lines of the cells before this one.
use Prim.Native.Nat.{ℕ, ◌+◌, ◌*◌}
use mathlib.Core.Path.{◌≡◌, refl, sym, ap, ◌∙◌}
use native.Mathlib.Omega.{arith}
use lib.ListN.{length}
use Rattle.sheet.proofs.Cells.{cells_most}
use Rattle.listing.specs.Labelled.{grid_of, line_at}
use Rattle.listing.specs.Listing.{lines_below}
use Rattle.listing.proofs.Lengths.{line_of_lem, lines_outside, lines_inside_length}
use Rattle.listing.proofs.lines_length.Goals as goal
use Rattle.listing.proofs.lines_length.Goals.{After-cell_length-count}

pub overflow_mul-n : goal.overflow_mul-n
overflow_mul-n c = omega (arith, cells_most c.requires.rows_most c.requires.cols_most)

pub loop-cell-init : goal.loop-cell-init
unfolding lines_below
loop-cell-init c = (omega arith, refl, omega arith)

pub loop-cell-preserved-then-sheet-cell-eq0 : goal.loop-cell-preserved-then-sheet-cell-eq0
loop-cell-preserved-then-sheet-cell-eq0 c =
    let l = c.loop-cell in
    (omega arith, l.invariant.1 ∙ ap length (sym (lines_outside _ _ l.cell c.if-sheet-cell-eq0.true)), omega arith)

-- the bytes with those of this cell's line
counted : (c : After-cell_length-count)
    → c.loop-cell.count + c.cell_length-count.result
    ≡ length (lines_below (grid_of c.args.sheet) (line_at c.args.sheet) (c.loop-cell.cell + 1))
counted c =
    let a = c.args.sheet in
    let line = line_of_lem (grid_of a) a.areas.now a.labels.now a.basins.now c.loop-cell.cell _ refl in
    let this-line = (rw c.values_at.ensures at c.cell_length-count.ensures.bytes) ∙ ap length line in
    omega (
      arith,
      this-line,
      lines_inside_length (grid_of a) (line_at a) c.loop-cell.cell (omega arith) c.if-sheet-cell-eq0.false,
    )

pub overflow_add-count : goal.overflow_add-count
overflow_add-count c =
    omega (
      arith,
      cells_most c.requires.rows_most c.requires.cols_most,
      c.loop-cell.invariant.2,
      c.cell_length-count.ensures.few,
    )

pub loop-cell-preserved : goal.loop-cell-preserved
loop-cell-preserved c = (omega arith, counted c, omega arith)

pub returns : goal.returns
returns c =
    let e : c.loop-cell.cell ≡ c.args.sheet.rows * c.args.sheet.cols = omega arith in record {
      bytes =
          c.loop-cell.invariant.1
          ∙ ap (λ (k : ℕ). length (lines_below (grid_of c.args.sheet) (line_at c.args.sheet) k)) e;
      few = omega arith;
    }
