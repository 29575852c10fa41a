-- `feed` meets its contract.
use mathlib.Core.Path.{refl, sym, ◌∙◌}
use mathlib.Core.List.{List}
use Prim.Native.Nat.{ℕ}
use Rattle.intake.specs.Intake.{lent_sheet}
use Rattle.reading.specs.declared.Reader.{Reader}
use Rattle.reading.specs.Feed.{Reading, reading}
use Rattle.reading.proofs.FeedLaws.{feed_end, feed_turn}
use Rattle.reading.proofs.Reader.feed.Goals as goal

abbrev at : Reader → List ℕ → List ℕ → List ℕ → Reading
at reader line dirs weights = reading reader line (lent_sheet dirs weights)

pub loop-byte-init : goal.loop-byte-init
loop-byte-init c = (refl, refl, refl)

pub loop-byte-preserved : goal.loop-byte-preserved
loop-byte-preserved c =
    let l = c.loop-byte in (
      feed_turn (at l.reader l.line l.dirs l.weights) _ l.byte-index
          c.loop-byte-test.true
          c.feed_byte.ensures ∙ l.invariant.0,
      c.feed_byte.auto.dirs ∙ l.invariant.1,
      c.feed_byte.auto.weights ∙ l.invariant.2,
    )

pub returns : goal.returns
returns c =
    let l = c.loop-byte in
    sym (feed_end (at l.reader l.line l.dirs l.weights) _ l.byte-index c.loop-byte-test.false) ∙ l.invariant.0
