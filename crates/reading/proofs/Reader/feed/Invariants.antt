use mathlib.Core.Path.{◌≡◌}
use lib.ListN.{length, drop}
use Rattle.intake.specs.Intake.{lent_sheet}
use Rattle.reading.specs.Feed.{reading, feed_all}
use Rattle.reading.proofs.Reader.feed.Given as goal

-- what is still to be fed gives what the whole chunk gives
abbrev pub invariant-loop-byte : goal.invariant-loop-byte
invariant-loop-byte l =
    (feed_all (reading l.reader l.line (lent_sheet l.dirs l.weights)) (drop l.byte-index l.chunk)
    ≡ feed_all
    (reading l.initial.reader l.initial.line (lent_sheet l.initial.dirs l.initial.weights)) l.chunk) ×
    (length l.dirs ≡ length l.initial.dirs) ×
    (length l.weights ≡ length l.initial.weights)
