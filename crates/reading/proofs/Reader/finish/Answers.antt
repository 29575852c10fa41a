-- `finish` meets its contract.
use mathlib.Core.Path.{◌≡◌}
use Rattle.intake.specs.Intake.{lent_sheet}
use Rattle.reading.specs.Feed.{reading, finished}
use Rattle.reading.proofs.FeedLaws.{promises}
use Rattle.reading.proofs.Reader.finish.Goals as goal

pub returns : goal.returns
unfolding finished
returns c =
    let a = c.args in
    let e : record { read = c.end_read.result; lent = lent_sheet c.last_line-reader.new.dirs c.last_line-reader.new.weights }
    ≡ finished (reading a.self a.line.now (lent_sheet a.dirs.now a.weights.now)) =
    rw (← c.last_line-reader.ensures, c.end_read.ensures) in
    let both = promises e in
    record { file = both.0; values = both.1 }
