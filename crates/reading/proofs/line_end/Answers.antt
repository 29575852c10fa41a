-- `line_end` meets its contract.
use borrow.Author.Tests.{le-leb, lt-leb}
use Rattle.reading.specs.Feed.{line_end}
use Rattle.reading.proofs.line_end.Goals as goal

pub returns-then-held-le-LINE_BYTES : goal.returns-then-held-le-LINE_BYTES
unfolding line_end
returns-then-held-le-LINE_BYTES c = rw (le-leb _ _ c.if-held-le-LINE_BYTES.true) (c.hand_line.ensures _)

pub returns : goal.returns
unfolding line_end
returns c = rw (lt-leb _ _ c.if-held-le-LINE_BYTES.false) (c.long_line.ensures _)
