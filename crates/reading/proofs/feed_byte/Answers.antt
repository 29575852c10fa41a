-- `feed_byte` meets its contract: a byte for which the line has no room ends the line.
use borrow.Author.Tests.{ne_eqb, le-ltb}
use Rattle.reading.specs.Feed.{keep_byte, byte_after}
use Rattle.reading.proofs.feed_byte.Goals as goal

pub returns : goal.returns
unfolding byte_after keep_byte
returns c =
    rw (c.in-Ok.is, ne_eqb _ _ c.if-byte-eq-LINE_FEED.false, le-ltb _ _ c.if-at-lt-LINE_BYTES.false)
    (c.long_line.ensures _)
