use mathlib.Core.Path.{◌≡◌}
use mathlib.Core.Bool.{true}
use lib.ListN.{length}
use Rattle.listing.specs.Labelled.{grid_of}
use Rattle.pages.specs.Line.{cell_texts}
use Rattle.pages.specs.Page.{inside_below, page_cells}
use Rattle.pages.specs.Writing.{all_fit}
use Rattle.pages.proofs.page_fits.Given as goal

abbrev pub invariant-loop-cell : goal.invariant-loop-cell
invariant-loop-cell l =
    let G = grid_of l.sheet in
    (l.seen ≡ length (inside_below G l.cell))
    × (all_fit (cell_texts G l.sheet.areas.now l.sheet.labels.now l.sheet.basins.now) (page_cells l.page (inside_below G l.cell)) ≡ true)
