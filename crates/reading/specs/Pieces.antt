-- The statements that a file is read as its lines are, however its bytes are cut into chunks, and that a refusal ends
-- it.
use Rattle.std.specs.Prelude.{◌≡◌, true, List, [], ◌∷◌, ◌++◌, ℕ, ◌<◌, length}
use Rattle.decimal.specs.Ascii.{line_feed}
use Rattle.lines.specs.Fields.{line_bytes}
use Rattle.intake.specs.Intake.{LentSheet}
use Rattle.reading.specs.Lines.{FileRead, read_file}
use Rattle.reading.specs.Feed.{Reading, reading, new_reader, largest_count, is_refused, feed_all, finished}

-- a reader that no byte went to, with what is lent to it
abbrev pub started : List ℕ → LentSheet → Reading
started line lent = reading new_reader line lent

-- the chunks of a file, fed one after the other
abbrev pub feed_pieces : Reading → List (List ℕ) → Reading
feed_pieces s [] = s
feed_pieces s (p ∷ ps) = feed_pieces (feed_all s p) ps

-- the file that the chunks make
abbrev pub joined : List (List ℕ) → List ℕ
joined [] = []
joined (p ∷ ps) = p ++ joined ps

-- what `new`, a `feed` for each chunk and `finish` leave, by their contracts
abbrev pub read_pieces : List ℕ → LentSheet → List (List ℕ) → FileRead
read_pieces line lent pieces = finished (feed_pieces (started line lent) pieces)

-- Files of fewer than 2^64 - 1 bytes: line numbers are then below 2^64.
pub record ReadInPieces : Type 0 where
  pub as_lines : (pieces : List (List ℕ)) (line : List ℕ) (lent : LentSheet) → length line ≡ line_bytes
      → length (joined pieces) < largest_count
      → read_pieces line lent pieces ≡ read_file lent (joined pieces)

-- no byte is a line feed
abbrev pub NoFeed : List ℕ → Type 0
NoFeed [] = Unit
NoFeed (b ∷ s) = (b ≡ line_feed → ⊥) × NoFeed s

-- Once a line is refused, more bytes change nothing. A line of more than 80 bytes is refused before its line feed
-- comes.
pub record StopsAtRefusal : Type 0 where
  pub no_change : (s : Reading) (bytes : List ℕ) → is_refused s.reader ≡ true
      → finished (feed_all s bytes) ≡ finished s
  pub long_line_lem : (s : Reading) (bytes : List ℕ) → NoFeed bytes → line_bytes < length bytes
      → is_refused (feed_all s bytes).reader ≡ true
