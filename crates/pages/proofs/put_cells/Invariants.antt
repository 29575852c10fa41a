use mathlib.Core.Path.{◌≡◌}
use lib.ListN.{length}
use Rattle.listing.specs.Labelled.{grid_of}
use Rattle.listing.specs.Steps.{Put}
use Rattle.pages.specs.Page.{inside_below, page_cells, cell_lines, atlas_line}
use Rattle.pages.proofs.put_cells.Given as goal

abbrev pub invariant-loop-cell : goal.invariant-loop-cell
invariant-loop-cell l =
    let G = grid_of l.sheet in
    (l.seen ≡ length (inside_below G l.cell))
    × Put l.initial.out l.out l.at l.next (cell_lines (atlas_line G l.sheet.areas.now l.sheet.labels.now l.sheet.basins.now) (page_cells l.page (inside_below G l.cell)))
