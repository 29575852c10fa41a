-- `put_cell` meets its contract: the line of the cell, and a line feed.
use Rattle.listing.specs.Listing.{field}
use Rattle.pages.specs.Line.{page_line}
use Rattle.pages.proofs.put_cell.Goals as goal

pub cell_line-line-requires : goal.cell_line-line-requires
cell_line-line-requires c = c.requires.0

pub returns : goal.returns
unfolding page_line field
returns c =
    rw c.cell_line-line.ensures at c.put_line.ensures
