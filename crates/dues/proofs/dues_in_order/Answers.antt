-- `dues_in_order` meets its contract: where there are cells and the index was filled, the first is the outlet.
use native.Mathlib.Omega.{arith}
use mathlib.Core.Path.{◌≡◌, sym, ◌∙◌}
use lib.ListN.{get_or, length}
use borrow.Author.Tests.{eqb-true, eqb-false}
use Rattle.sheet.specs.Area.{row_weight}
use Rattle.claims.specs.Bounds.{sum}
use Rattle.dues.specs.Steps.{OutletFirst}
use Rattle.dues.proofs.Sharing.{no_cells}
use Rattle.dues.proofs.dues_in_order.Goals as goal
use Rattle.dues.proofs.dues_in_order.Goals.{After-shared_slice_known-in-Ok-1}

-- what stands in the slices where there are cells
stands : (c : After-shared_slice_known-in-Ok-1)
    → let a = c.args in
    OutletFirst a.total a.cols a.weights.now a.areas.now a.cells.now a.labels.now
    a.basins.now a.dues.now
stands c =
    let some : length c.args.cells.now ≡ 0 → ⊥ = eqb-false _ _ (sym c.is_empty.ensures ∙ c.if-is_empty.false) in
    c.requires (omega arith)

pub returns-then-is_empty : goal.returns-then-is_empty
returns-then-is_empty c =
    let a = c.args in
    no_cells a.total (sum (row_weight a.cols a.weights.now) a.cells.now) a.cols a.weights.now
    a.cells.now a.labels.now a.basins.now a.dues.now a.answer (eqb-true _ _ (sym c.is_empty.ensures ∙ c.if-is_empty.true))

pub overflow_cast-outlet : goal.overflow_cast-outlet
overflow_cast-outlet c = omega (arith, c.type_inv.cells 0)

pub offset_bounds-areas-outlet : goal.offset_bounds-areas-outlet
offset_bounds-areas-outlet c = omega (arith, (stands c).outlet_on)

pub bounds-areas-outlet : goal.bounds-areas-outlet
bounds-areas-outlet c = (stands (goal.at.bounds-areas-outlet c).After-shared_slice_known-in-Ok-1).outlet_on

pub overflow_cast-areas : goal.overflow_cast-areas
overflow_cast-areas c =
    omega (arith, c.type_inv.areas (get_or c.args.cells.now 0 0))

pub write_dues-requires : goal.write_dues-requires
write_dues-requires c =
    rw (stands (goal.at.write_dues-requires c).After-shared_slice_known-in-Ok-1).outlet_area (stands (goal.at.write_dues-requires c).After-shared_slice_known-in-Ok-1).shared

pub returns-in-Ok : goal.returns-in-Ok
returns-in-Ok c =
    rw c.in-Ok.is (rw (stands (goal.at.returns-in-Ok c).After-shared_slice_known-in-Ok-1).outlet_area at c.write_dues.ensures)
