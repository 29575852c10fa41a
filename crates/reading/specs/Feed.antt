-- What the reader of chunks does, from any state. That it reads a file as Lines.antt says is stated in Pieces.antt.
use Rattle.std.specs.Prelude.{Bool, true, false, cond, List, [], ◌∷◌, ℕ, ◌+◌, eqb, leb, ltb, take, set}
use Rattle.decimal.specs.Ascii.{line_feed}
use Rattle.lines.specs.Fields.{line_bytes}
use Rattle.intake.specs.Intake.{LentSheet, After, line_after, new_intake}
use Rattle.reading.specs.declared.Reader.{Reader}
use Rattle.reading.specs.Lines.{FileRead, on_outcome, end_after}
use Rattle.reading.specs.Answer.{Read}
use Rattle.sheet.specs.Answer.{Accepted, Refused}

-- the reader with what is lent to it: the buffer for the present line, and what goes to the intake
pub record Reading : Type 0 where
  pub reader : Reader
  pub line : List ℕ
  pub lent : LentSheet

abbrev pub reading : Reader → List ℕ → LentSheet → Reading
reading reader line lent = record { reader = reader; line = line; lent = lent }

abbrev pub new_reader : Reader
new_reader = record { intake = new_intake; lines = 0; held = 0; outcome = Accepted }

-- 2^64 - 1
abbrev pub largest_count : ℕ
largest_count = 18446744073709551615

-- line numbers stop at the largest number
unfoldable pub next_line : ℕ → ℕ
next_line lines = cond (ltb lines largest_count) (lines + 1) lines

abbrev pub after_line : Reading → After → Reading
after_line s a = record {
  reader = record {
    intake = a.taken.intake;
    lines = next_line s.reader.lines;
    held = 0;
    outcome = a.taken.outcome;
  };
  line = s.line;
  lent = a.lent;
}

-- a line goes to the intake
unfoldable pub hand_line : Reading → List ℕ → Reading
hand_line s text = after_line s (line_after s.reader.intake text s.lent)

-- for a line of more bytes than fit, a line feed goes to it: that line too breaks the rules of every stage
unfoldable pub long_line : Reading → Reading
unfolding hand_line
long_line s = hand_line s (line_feed ∷ [])

-- the end of the present line
unfoldable pub line_end : Reading → Reading
unfolding hand_line long_line
line_end s =
    let held : ℕ = s.reader.held in
    cond (leb held line_bytes) (hand_line s (take held s.line)) (long_line s)

abbrev pub with_held : Reading → ℕ → List ℕ → Reading
with_held s held line = record {
  reader = record { intake = s.reader.intake; lines = s.reader.lines; held = held; outcome = Accepted };
  line = line;
  lent = s.lent;
}

-- a byte of the present line: it is kept if it fits, and else ends the line at once
unfoldable pub keep_byte : Reading → ℕ → Reading
unfolding long_line
keep_byte s b =
    let held : ℕ = s.reader.held in
    cond (ltb held line_bytes) (with_held s (held + 1) (set s.line held b)) (long_line s)

-- after a refusal a byte changes nothing
unfoldable pub byte_after : Reading → ℕ → Reading
unfolding on_outcome
byte_after s b = on_outcome s.reader.outcome (cond (eqb b line_feed) (line_end s) (keep_byte s b)) (λ number. s)

-- whether a line was refused
unfoldable pub is_refused : Reader → Bool
unfolding on_outcome
is_refused r = on_outcome r.outcome false (λ number. true)

unfoldable pub feed_all : Reading → List ℕ → Reading
feed_all s [] = s
feed_all s (b ∷ bytes) = feed_all (byte_after s b) bytes

-- the end of the file: a last line that lacks its line feed, then the intake's end
unfoldable pub last_line : Reading → Reading
unfolding on_outcome
last_line s = on_outcome s.reader.outcome (cond (eqb s.reader.held 0) s (line_end s)) (λ number. s)

unfoldable pub end_read : Reader → Read
unfolding on_outcome
end_read r = on_outcome r.outcome (end_after r.intake (next_line r.lines)) (λ number. Refused number r.lines)

unfoldable pub finished : Reading → FileRead
finished s = record { read = end_read (last_line s).reader; lent = (last_line s).lent }
