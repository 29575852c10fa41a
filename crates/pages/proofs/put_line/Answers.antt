-- `put_line` meets its contract: the line, and the byte after it.
use Rattle.decimal.specs.Ascii.{line_feed}
use Rattle.listing.proofs.Putting.{put_field_lem}
use Rattle.pages.proofs.put_line.Goals as goal

pub returns : goal.returns
returns c =
    put_field_lem c.args.line.now line_feed c.requires c.put_text-end.ensures
