use mathlib.Core.Path.{◌≡◌}
use lib.ListN.{length}
use Rattle.listing.specs.Labelled.{grid_of}
use Rattle.pages.specs.Page.{inside_below, page_cells}
use Rattle.pages.proofs.count_on_page.Given as goal

abbrev pub invariant-loop-cell : goal.invariant-loop-cell
invariant-loop-cell l =
    let G = grid_of l.sheet in
    (l.seen ≡ length (inside_below G l.cell)) × (l.count ≡ length (page_cells l.page (inside_below G l.cell)))
