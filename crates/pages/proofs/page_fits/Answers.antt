-- The invariant: the inside cells before this one are counted, and those of them on the page fit.
use mathlib.Core.Path.{◌≡◌, refl, sym, ap, ◌∙◌}
use Prim.Native.Nat.{ℕ, ◌*◌}
use native.Mathlib.Omega.{arith}
use Rattle.listing.specs.Labelled.{grid_of}
use Rattle.sheet.proofs.Cells.{cells_most}
use Rattle.pages.specs.Line.{texts_fit, cell_texts}
use Rattle.pages.specs.Page.{inside_below, inside_cells, page_cells}
use Rattle.pages.specs.Writing.{all_fit, page_fits}
use Rattle.pages.proofs.PageLaws.{below_few, none_before, seen_outside, seen_inside, page_outside, page_off, page_on}
use Rattle.pages.proofs.Putting.{columns_at, cell_too_wide, cell_fits_too}
use Rattle.pages.proofs.page_fits.Goals as goal
use Rattle.pages.proofs.page_fits.Goals.{then-seen-page+else-not-values_fit, else-seen-page}

pub loop-cell-init : goal.loop-cell-init
unfolding inside_below all_fit
loop-cell-init c =
    let a = c.args in
    (refl, ap (all_fit (cell_texts (grid_of a.sheet) a.sheet.areas.now a.sheet.labels.now a.sheet.basins.now)) (none_before a.page))

pub loop-cell-preserved-then-sheet-cell-eq0 : goal.loop-cell-preserved-then-sheet-cell-eq0
loop-cell-preserved-then-sheet-cell-eq0 c =
    let a = c.args in
    let G = grid_of a.sheet in (
      c.loop-cell.invariant.0 ∙ seen_outside G a.page c.loop-cell.cell c.if-sheet-cell-eq0.true,
      ap (all_fit (cell_texts G a.sheet.areas.now a.sheet.labels.now a.sheet.basins.now)) (page_outside G a.page c.loop-cell.cell c.if-sheet-cell-eq0.true)
          ∙ c.loop-cell.invariant.1,
    )

pub returns-then-not-values_fit : goal.returns-then-not-values_fit
returns-then-not-values_fit c =
    let a = c.args in
    let G = grid_of a.sheet in
    let cell = c.loop-cell.cell in
    let on = c.loop-cell-test.true in
    let here = page_on G a.page cell on c.if-sheet-cell-eq0.false c.loop-cell.invariant.0 c.if-seen-page.true in
    let this = c.values_fit.ensures ∙ ap texts_fit (columns_at a.sheet cell c.values_at.ensures) in
    sym (cell_too_wide G a.sheet.areas.now a.sheet.labels.now a.sheet.basins.now a.page cell on here (sym this ∙ c.if-not-values_fit.true))

pub overflow_add-seen-in-loop-cell : goal.overflow_add-seen-in-loop-cell
overflow_add-seen-in-loop-cell c =
    let G = grid_of c.args.sheet in
    omega (arith, c.loop-cell.invariant.0, below_few G c.loop-cell.cell, cells_most c.requires.rows_most c.requires.cols_most)

pub loop-cell-preserved : goal.loop-cell-preserved
loop-cell-preserved c =
    let a = c.args in
    let G = grid_of a.sheet in
    let cell = c.loop-cell.cell in
    let on = c.loop-cell-test.true in
    let ne = c.if-sheet-cell-eq0.false in
    let seen = c.loop-cell.invariant.0 in (
      seen_inside G a.page cell on ne seen,
      elim c.if-seen-page.branch [
        | then-seen-page+else-not-values_fit w ↦
            let this = w.values_fit.ensures ∙ ap texts_fit (columns_at a.sheet cell w.values_at.ensures) in
            cell_fits_too G a.sheet.areas.now a.sheet.labels.now a.sheet.basins.now a.page cell on
            (page_on G a.page cell on ne seen w.if-seen-page.true) c.loop-cell.invariant.1 (sym this ∙ w.if-not-values_fit.false)
        | else-seen-page w ↦
            ap (all_fit (cell_texts G a.sheet.areas.now a.sheet.labels.now a.sheet.basins.now)) (page_off G a.page cell on ne seen w.if-seen-page.false)
            ∙ c.loop-cell.invariant.1
      ],
    )

pub returns : goal.returns
unfolding page_fits inside_cells
returns c =
    let a = c.args in
    let G = grid_of a.sheet in
    let e : c.loop-cell.cell ≡ a.sheet.rows * a.sheet.cols = omega arith in
    sym c.loop-cell.invariant.1
    ∙ ap (λ (k : ℕ). all_fit (cell_texts G a.sheet.areas.now a.sheet.labels.now a.sheet.basins.now) (page_cells a.page (inside_below G k))) e
