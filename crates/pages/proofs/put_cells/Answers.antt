-- The invariant: the inside cells before this one are counted, and the lines of those of them on the page stand in the
-- buffer from the position on.
use mathlib.Core.Path.{◌≡◌, refl, ap, ◌∙◌}
use Prim.Native.Nat.{◌*◌}
use native.Mathlib.Omega.{arith}
use Rattle.listing.specs.Labelled.{grid_of}
use Rattle.sheet.proofs.Cells.{cells_most}
use Rattle.listing.proofs.Putting.{put_nothing}
use Rattle.pages.specs.Line.{texts_fit}
use Rattle.pages.specs.Page.{inside_below, inside_cells, cell_lines, atlas_line}
use Rattle.pages.proofs.PageLaws.{below_few, none_before, seen_outside, seen_inside, page_outside, page_off, page_on}
use Rattle.pages.proofs.Putting.{columns_at, cell_fits, cell_room, put_here}
use Rattle.pages.proofs.put_cells.Goals as goal
use Rattle.pages.proofs.put_cells.Goals.{then-seen-page, else-seen-page}

pub loop-cell-init : goal.loop-cell-init
unfolding inside_below cell_lines
loop-cell-init c = (refl, rw (none_before c.args.page) (put_nothing _ _))

pub loop-cell-preserved-then-code-eq0 : goal.loop-cell-preserved-then-code-eq0
loop-cell-preserved-then-code-eq0 c =
    let G = grid_of c.args.sheet in (
      c.loop-cell.invariant.0 ∙ seen_outside G c.args.page c.loop-cell.cell c.if-code-eq0.true,
      rw (page_outside G c.args.page c.loop-cell.cell c.if-code-eq0.true) c.loop-cell.invariant.1,
    )

pub put_cell-next-requires : goal.put_cell-next-requires
put_cell-next-requires c =
    let a = c.args in
    let G = grid_of a.sheet in
    let cell = c.loop-cell.cell in
    let on = c.loop-cell-test.true in
    let here = page_on G a.page cell on c.if-code-eq0.false c.loop-cell.invariant.0 c.if-seen-page.true in
    let this = columns_at a.sheet cell c.values_at.ensures in (
      ap texts_fit this ∙ cell_fits G a.sheet.areas.now a.sheet.labels.now a.sheet.basins.now a.page cell on here c.requires.1,
      cell_room G a.sheet.areas.now a.sheet.labels.now a.sheet.basins.now a.page cell on here c.requires.1 c.requires.2 c.loop-cell.invariant.1,
    )

pub overflow_add-seen-in-loop-cell : goal.overflow_add-seen-in-loop-cell
overflow_add-seen-in-loop-cell c =
    let G = grid_of c.args.sheet in
    omega (
      arith,
      c.loop-cell.invariant.0,
      below_few G c.loop-cell.cell,
      cells_most c.requires.0.rows_most c.requires.0.cols_most,
    )

pub loop-cell-preserved : goal.loop-cell-preserved
unfolding atlas_line
loop-cell-preserved c =
    let a = c.args in
    let G = grid_of a.sheet in
    let cell = c.loop-cell.cell in
    let on = c.loop-cell-test.true in
    let ne = c.if-code-eq0.false in
    let seen = c.loop-cell.invariant.0 in (
      seen_inside G a.page cell on ne seen,
      elim c.if-seen-page.branch [
        | then-seen-page w ↦
            let here = page_on G a.page cell on ne seen w.if-seen-page.true in
            let this = columns_at a.sheet cell w.values_at.ensures in
            rw (w.out-is, w.next-is)
            (put_here G a.sheet.areas.now a.sheet.labels.now a.sheet.basins.now a.page cell on here c.requires.1 c.requires.2 c.loop-cell.invariant.1
            (rw this at w.put_cell-next.ensures))
        | else-seen-page w ↦
            rw (w.out-is, w.next-is, page_off G a.page cell on ne seen w.if-seen-page.false) c.loop-cell.invariant.1
      ],
    )

pub returns : goal.returns
unfolding inside_cells
returns c =
    let a = c.args in
    let e : c.loop-cell.cell ≡ a.sheet.rows * a.sheet.cols = omega arith in
    rw e at c.loop-cell.invariant.1
