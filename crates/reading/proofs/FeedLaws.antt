-- Feeding bytes in parts.
use mathlib.Core.Path.{◌≡◌, refl, sym, ap, ◌∙◌}
use mathlib.Core.Bool.{true, false, true≢false}
use mathlib.Core.List.{List, [], ◌∷◌, ◌++◌}
use Prim.Native.Nat.{ℕ, ◌+◌, ◌<◌, ◌≤◌}
use native.Mathlib.Numerals.{add-one}
use lib.ListN.{length, drop, get_or, drop_of_length-le}
use lib.Seq.{drop-cons}
use Rattle.intake.specs.Intake.{LentSheet}
use Rattle.reading.specs.Lines.{FileRead, read_values, on_outcome}
use Rattle.reading.specs.Feed.{Reading, byte_after, is_refused, feed_all}
use Rattle.sheet.specs.Answer.{Outcome, Accepted}
use Rattle.reading.specs.Answer.{Read}
use Rattle.std.specs.Prelude.{Err}

pub feed_append : (s : Reading) (first second : List ℕ) → feed_all s (first ++ second) ≡ feed_all (feed_all s first) second
unfolding feed_all
feed_append s [] second = refl
feed_append s (b ∷ first) second = feed_append (byte_after s b) first second

-- the bytes from a position on: none are left, or one is fed
pub feed_end : (s : Reading) (bytes : List ℕ) (i : ℕ) → length bytes ≤ i → feed_all s (drop i bytes) ≡ s
unfolding feed_all
feed_end s bytes i h = rw drop_of_length-le

pub feed_turn : (s : Reading) {t : Reading} (bytes : List ℕ) (i : ℕ) → i < length bytes
    → t ≡ byte_after s (get_or bytes i 0) → feed_all t (drop (i + 1) bytes) ≡ feed_all s (drop i bytes)
unfolding feed_all
feed_turn s bytes i h e = rw (e, add-one i, drop-cons bytes i 0)

-- after a refusal nothing changes
byte_refused : (s : Reading) (b : ℕ) → is_refused s.reader ≡ true → byte_after s b ≡ s
unfolding is_refused byte_after on_outcome
byte_refused s b r = go s.reader.outcome refl
  where
    go : (o : Outcome) → s.reader.outcome ≡ o → byte_after s b ≡ s
    go Accepted e = absurd (true≢false (sym r ∙ ap (λ (o : Outcome). on_outcome o false (λ number. true)) e))
    go (Err refusal) e = rw e

pub fed_refused : (s : Reading) (bytes : List ℕ) → is_refused s.reader ≡ true → feed_all s bytes ≡ s
unfolding feed_all
fed_refused s [] r = refl
fed_refused s (b ∷ bytes) r = rw (byte_refused s b r) (fed_refused s bytes r)

-- a file that was read as the definition says has its number and values
pub promises : {read : Read} {lent : LentSheet} {f : FileRead} → record { read = read; lent = lent } ≡ f
    → (record { read = read; lent = lent } ≡ f) × (read_values read ≡ read_values f.read)
promises e = (e, ap (λ (f : FileRead). read_values f.read) e)
