-- `levy_accepted` meets its contract: the basin's cells stand in a part of the work places, and where its dues have
-- places, the index and the dues are filled.
use mathlib.Core.Path.{◌≡◌, sym, ◌∙◌}
use mathlib.Core.Bool.{Bool}
use mathlib.Core.List.{List}
use Prim.Native.Nat.{ℕ}
use lib.Dec.{leb}
use lib.ListN.{length}
use borrow.Author.Tests.{leb-true}
use Rattle.order.specs.Places.{cells_in, sizes_in}
use Rattle.index.specs.Steps.{groups_of}
use Rattle.dues.specs.Steps.{basin_cells, HoldsBasin}
use Rattle.levy.proofs.Steps.{too_short, filled}
use Rattle.levy.proofs.levy_accepted.Goals as goal
use Rattle.levy.proofs.levy_accepted.Goals.{After-basin_part-part, After-dues_fit}

-- all cells in order, and those of the basin
abbrev all : After-basin_part-part → List ℕ
all c = let a = c.args in cells_in a.n a.work.now a.found.queued

-- all cells in order, and those of the basin
abbrev all-After-dues_fit : After-dues_fit → List ℕ
all-After-dues_fit c = let a = c.args in cells_in a.n a.work.now a.found.queued

abbrev those : After-basin_part-part → List ℕ
those c =
    let a = c.args in
    basin_cells (all c) (sizes_in a.n a.work.now a.found.queued) a.basin

abbrev those-After-dues_fit : After-dues_fit → List ℕ
those-After-dues_fit c =
    let a = c.args in
    basin_cells (all-After-dues_fit c) (sizes_in a.n a.work.now a.found.queued) a.basin

holds : (c : After-basin_part-part)
    → let a = c.args in
    HoldsBasin a.n a.work.now a.found.queued a.basin c.basin_part-part.result
holds c = c.basin_part-part.ensures

holds-After-dues_fit : (c : After-dues_fit)
    → let a = c.args in
    HoldsBasin a.n a.work.now a.found.queued a.basin c.basin_part-part.result
holds-After-dues_fit c = c.basin_part-part.ensures

-- the test of the places of the dues
tested : (c : After-dues_fit) {b : Bool} → c.dues_fit.result ≡ b
    → let a = c.args in
    leb (length (groups_of (those-After-dues_fit c) a.labels.now a.basins.now)) (length a.dues.now) ≡ b
tested c e = rw (holds-After-dues_fit c).is at (sym c.dues_fit.ensures ∙ e)

pub dues_fit-requires : goal.dues_fit-requires
dues_fit-requires c = rw (holds (goal.at.dues_fit-requires c).After-basin_part-part).is c.requires.levy_in_order.labelled

pub dues_in_order-requires : goal.dues_in_order-requires
dues_in_order-requires c =
    rw (holds (goal.at.dues_in_order-requires c).After-basin_part-part).is
    (λ l. c.requires.levy_in_order.outlet_first l (leb-true _ _ (tested (goal.at.dues_in_order-requires c).After-dues_fit c.if-dues_fit.true)))

pub returns-then-dues_fit : goal.returns-then-dues_fit
returns-then-dues_fit c =
    filled _ _ _ _ _ (all (goal.at.returns-then-dues_fit c).After-basin_part-part) (those (goal.at.returns-then-dues_fit c).After-basin_part-part) _ _ c.requires.outcome_value (tested (goal.at.returns-then-dues_fit c).After-dues_fit c.if-dues_fit.true)
    c.index_in_order-answer.ensures.answer c.index_in_order-answer.ensures.index (rw (holds (goal.at.returns-then-dues_fit c).After-basin_part-part).is at c.dues_in_order.ensures)

pub returns : goal.returns
returns c =
    rw c.numbered.ensures
    (too_short _ _ _ _ _ (all (goal.at.returns c).After-basin_part-part) (those (goal.at.returns c).After-basin_part-part) _ _ c.requires.outcome_value (tested (goal.at.returns c).After-dues_fit c.if-dues_fit.false))
