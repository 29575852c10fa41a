-- The invariant: the inside cells before this one are counted, and those of them on the page.
use mathlib.Core.List.{◌∷◌, []}
use mathlib.Core.Path.{◌≡◌, refl, sym, ap, ◌∙◌}
use Prim.Native.Nat.{ℕ, ◌+◌, ◌*◌}
use native.Mathlib.Omega.{arith}
use lib.ListN.{length, length-append}
use Rattle.listing.specs.Labelled.{grid_of}
use Rattle.sheet.proofs.Cells.{cells_most}
use Rattle.pages.specs.Page.{inside_below, inside_cells, page_cells}
use Rattle.pages.proofs.PageLaws.{below_few, seen_outside, seen_inside, page_outside, page_off, page_on}
use Rattle.pages.proofs.PageLaws.{page_few, none_before}
use Rattle.pages.proofs.count_on_page.Goals as goal
use Rattle.pages.proofs.count_on_page.Goals.{then-seen-page, else-seen-page}

pub loop-cell-init : goal.loop-cell-init
unfolding inside_below
loop-cell-init c = (refl, sym (ap length (none_before c.args.page)))

pub loop-cell-preserved-then-sheet-cell-eq0 : goal.loop-cell-preserved-then-sheet-cell-eq0
loop-cell-preserved-then-sheet-cell-eq0 c =
    let G = grid_of c.args.sheet in (
      c.loop-cell.invariant.0 ∙ seen_outside G c.args.page c.loop-cell.cell c.if-sheet-cell-eq0.true,
      c.loop-cell.invariant.1 ∙ ap length (sym (page_outside G c.args.page c.loop-cell.cell c.if-sheet-cell-eq0.true)),
    )

-- few cells are counted
pub overflow_add-count : goal.overflow_add-count
overflow_add-count c =
    let G = grid_of c.args.sheet in
    omega (
      arith,
      c.loop-cell.invariant.1,
      page_few c.args.page (inside_below G c.loop-cell.cell),
      below_few G c.loop-cell.cell,
      cells_most c.requires.rows_most c.requires.cols_most,
    )

pub overflow_add-seen-in-loop-cell : goal.overflow_add-seen-in-loop-cell
overflow_add-seen-in-loop-cell c =
    let G = grid_of c.args.sheet in
    omega (arith, c.loop-cell.invariant.0, below_few G c.loop-cell.cell, cells_most c.requires.rows_most c.requires.cols_most)

pub loop-cell-preserved : goal.loop-cell-preserved
loop-cell-preserved c =
    let G = grid_of c.args.sheet in
    let page = c.args.page in
    let cell = c.loop-cell.cell in
    let on = c.loop-cell-test.true in
    let ne = c.if-sheet-cell-eq0.false in
    let seen = c.loop-cell.invariant.0 in (
      seen_inside G page cell on ne seen,
      elim c.if-seen-page.branch [
        | then-seen-page w ↦ w.count-is
            ∙ ap (λ (k : ℕ). k + 1) c.loop-cell.invariant.1
            ∙ sym (length-append (page_cells page (inside_below G cell)) (cell ∷ []))
            ∙ ap length (sym (page_on G page cell on ne seen w.if-seen-page.true))
        | else-seen-page w ↦ w.count-is
            ∙ c.loop-cell.invariant.1
            ∙ ap length (sym (page_off G page cell on ne seen w.if-seen-page.false))
      ],
    )

pub returns : goal.returns
unfolding inside_cells
returns c =
    let a = c.args in
    let G = grid_of a.sheet in
    let e : c.loop-cell.cell ≡ a.sheet.rows * a.sheet.cols = omega arith in
    c.loop-cell.invariant.1 ∙ ap (λ (k : ℕ). length (page_cells a.page (inside_below G k))) e
