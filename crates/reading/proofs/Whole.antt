-- Feeding a file, cut in any way, and finishing reads its lines as they are defined.
use mathlib.Core.Path.{◌≡◌, refl, sym, ap, ◌∙◌}
use mathlib.Core.Bool.{Bool, true, false}
use mathlib.Core.List.{List, [], ◌∷◌, ◌++◌, append-nil, append_assoc}
use Prim.Native.Nat.{ℕ, suc, ◌+◌, ◌<◌, ◌≤◌}
use native.Mathlib.Numerals.{add-one}
use native.Mathlib.Omega.{arith}
use borrow.Author.Tests.{ne_eqb, eqb-true, eqb-false, lt-ltb, ltb-true, ltb-false, le-leb}
use lib.Dec.{eqb, ltb}
use lib.ListN.{length, take, set, length-set, length-append}
use lib.Seq.{take-suc-set}
use Rattle.intake.specs.declared.Intake.{Intake}
use Rattle.intake.specs.Intake.{LentSheet, After, line_after, new_intake}
use Rattle.intake.proofs.BadLines.{line_feed_lem, over_eighty, bad_lines_alike, bad_line_refused}
use Rattle.lines.specs.Fields.{longer}
use Rattle.reading.specs.Lines.{lines_of, FileRead, refused_read, on_outcome, read_from, read_file}
use Rattle.reading.specs.Feed.{Reading, largest_count, next_line, hand_line, long_line, line_end, keep_byte}
use Rattle.reading.specs.Feed.{byte_after, is_refused, feed_all, last_line, end_read, finished}
use Rattle.reading.specs.Pieces.{started, feed_pieces, joined, ReadInPieces, NoFeed, StopsAtRefusal}
use Rattle.reading.proofs.FeedLaws.{feed_append, fed_refused}
use Rattle.sheet.specs.Answer.{Outcome, Accepted}
use Rattle.std.specs.Prelude.{Err}

no_feed_more : (s : List ℕ) (b : ℕ) → NoFeed s → (b ≡ 10 → ⊥) → NoFeed (s ++ (b ∷ []))
no_feed_more [] b f n = (n, tt)
no_feed_more (x ∷ s) b f n = (f.0, no_feed_more s b f.1 n)

-- ---- the lines of a file

pub lines_feed : (s rest : List ℕ) → NoFeed s → lines_of (s ++ 10 ∷ rest) ≡ s ∷ lines_of rest
unfolding lines_of
lines_feed [] rest f = refl
lines_feed (b ∷ s) rest f = rw (ne_eqb b 10 f.0, lines_feed s rest f.1)

pub lines_last : (b : ℕ) (s : List ℕ) → NoFeed (b ∷ s) → lines_of (b ∷ s) ≡ (b ∷ s) ∷ []
unfolding lines_of
lines_last b [] f = rw (ne_eqb b 10 f.0)
lines_last b (x ∷ s) f = rw (ne_eqb b 10 f.0, lines_last x s f.1)

-- how many bytes the first line has, and 0 where there is none
abbrev first_length : List (List ℕ) → ℕ
first_length [] = 0
first_length (first ∷ later) = length first

first_longer : (b : ℕ) (lines : List (List ℕ)) → first_length (longer b lines) ≡ suc (first_length lines)
first_longer b [] = refl
first_longer b (first ∷ later) = refl

-- a file that begins with these bytes has them all in its first line
first_least : (s rest : List ℕ) → NoFeed s → length s ≤ first_length (lines_of (s ++ rest))
unfolding lines_of
first_least [] rest f = omega arith
first_least (b ∷ s) rest f =
    rw (ne_eqb b 10 f.0) (omega (arith, first_longer b (lines_of (s ++ rest)), first_least s rest f.1))

-- ---- the present line

-- the bytes s of the present line, as the reader holds them
pub record Present (s line : List ℕ) (held : ℕ) : Type 0 where
  pub no_feed : NoFeed s
  pub room : length line ≡ 80
  pub count : held ≡ length s
  pub fits : held ≤ 80
  pub bytes : take held line ≡ s

present_none : (line : List ℕ) → length line ≡ 80 → Present [] line 0
present_none line room = record { no_feed = tt; room = room; count = refl; fits = omega arith; bytes = refl }

module _ (s line : List ℕ) (held b : ℕ) (is : Present s line held) (other : b ≡ 10 → ⊥) where
  more : length (s ++ (b ∷ [])) ≡ suc (length s)
  more = simp length-append (omega arith)

  present_kept : held < 80 → Present (s ++ (b ∷ [])) (set line held b) (held + 1)
  present_kept h = record {
    no_feed = no_feed_more s b is.no_feed other;
    room = simp length-set is.room;
    count = omega (arith, more, is.count);
    fits = omega arith;
    bytes =
        rw (add-one held, take-suc-set line held b (omega (arith, is.room)))
        (ap (λ (x : List ℕ). x ++ (b ∷ [])) is.bytes);
  }

  -- with the byte the line has too many, whatever follows
  present_full : 80 ≤ held → (rest : List ℕ) → 80 < first_length (lines_of (s ++ b ∷ rest))
  present_full h rest =
      let least = first_least (s ++ (b ∷ [])) rest (no_feed_more s b is.no_feed other) in
      rw (← append_assoc s (b ∷ []) rest) (omega (arith, least, more, is.count))

-- ---- the reader

-- the reader within a line, and after one
abbrev within : Intake → ℕ → ℕ → List ℕ → LentSheet → Reading
within i n held line lent =
    record { reader = record { intake = i; lines = n; held = held; outcome = Accepted }; line = line; lent = lent }

abbrev ended : Intake → Outcome → ℕ → List ℕ → LentSheet → Reading
ended i o n line lent =
    record { reader = record { intake = i; lines = n; held = 0; outcome = o }; line = line; lent = lent }

abbrev ended_by : After → ℕ → List ℕ → Reading
ended_by a n line = ended a.taken.intake a.taken.outcome n line a.lent

next_line_lem : (n : ℕ) → n < largest_count → next_line n ≡ suc n
unfolding next_line
next_line_lem n h = rw (lt-ltb n largest_count h) (add-one n)

hand_line_lem : (i : Intake) (n held : ℕ) (text line : List ℕ) (lent : LentSheet) → n < largest_count
    → hand_line (within i n held line lent) text ≡ ended_by (line_after i text lent) (suc n) line
unfolding hand_line
hand_line_lem i n held text line lent h = rw (next_line_lem n h)

line_ended : (i : Intake) (n held : ℕ) (s line : List ℕ) (lent : LentSheet) → Present s line held → n < largest_count
    → line_end (within i n held line lent) ≡ ended_by (line_after i s lent) (suc n) line
unfolding line_end
line_ended i n held s line lent is h =
    rw (le-leb held 80 is.fits, is.bytes) (hand_line_lem i n held s line lent h)

-- a file goes on after an accepted line, and is refused at that line else
after_line_lem : (i : Intake) (o : Outcome) (n : ℕ) (line : List ℕ) (lent : LentSheet) (bytes : List ℕ)
    (rest : FileRead)
    → (o ≡ Accepted → finished (feed_all (ended i Accepted n line lent) bytes) ≡ rest)
    → finished (feed_all (ended i o n line lent) bytes) ≡ on_outcome o rest (λ number. refused_read number n lent)
unfolding on_outcome is_refused finished last_line end_read
after_line_lem i Accepted n line lent bytes rest e = e refl
after_line_lem i (Err refusal) n line lent bytes rest e =
    ap finished (fed_refused (ended i (Err refusal) n line lent) bytes refl)

-- a line of more than 80 bytes is refused as soon as it has 81, as it is where it ends
after_long : (i : Intake) (n : ℕ) (line : List ℕ) (lent : LentSheet) (bytes : List ℕ) (lines : List (List ℕ))
    → 80 < first_length lines
    → finished (feed_all (ended_by (line_after i (10 ∷ []) lent) (suc n) line) bytes) ≡ read_from i n lent lines
unfolding read_from
after_long i n line lent bytes [] h = absurd (omega arith)
after_long i n line lent bytes (first ∷ later) h =
    let a : After = line_after i first lent in
    let bad = over_eighty first h in
    ap (λ (x : After). finished (feed_all (ended_by x (suc n) line) bytes))
    (bad_lines_alike i (10 ∷ []) first lent (line_feed_lem (10 ∷ []) 0 (omega arith) refl) bad)
    ∙ after_line_lem a.taken.intake a.taken.outcome (suc n) line a.lent bytes
    (read_from a.taken.intake (suc n) a.lent later)
    (λ e. absurd (bad_line_refused i first lent bad e))

-- the end ends a line that lacks its line feed
finish_ended : (i : Intake) (o : Outcome) (n : ℕ) (line : List ℕ) (lent : LentSheet)
    → last_line (ended i o n line lent) ≡ ended i o n line lent
unfolding last_line
finish_ended i Accepted n line lent = refl
finish_ended i (Err refusal) n line lent = refl

-- what is left of a file after its last line
abbrev closed : Reading → FileRead
closed x = record { read = end_read x.reader; lent = x.lent }

module _ (i : Intake) (n held : ℕ) (s line : List ℕ) (lent : LentSheet) (is : Present s line held)
    (few-lines : n < largest_count) where
  last_is : (held ≡ 0 → ⊥) → last_line (within i n held line lent) ≡ line_end (within i n held line lent)
  unfolding last_line
  last_is some = rw (ne_eqb held 0 some)

  last_line_lem : (held ≡ 0 → ⊥)
      → last_line (within i n held line lent) ≡ last_line (ended_by (line_after i s lent) (suc n) line)
  last_line_lem some =
      last_is some ∙ line_ended i n held s line lent is few-lines ∙ sym
      (finish_ended (line_after i s lent).taken.intake (line_after i s lent).taken.outcome (suc n) line
      (line_after i s lent).lent)

  finish_line : (held ≡ 0 → ⊥)
      → finished (within i n held line lent) ≡ finished (ended_by (line_after i s lent) (suc n) line)
  unfolding finished
  finish_line some = ap closed (last_line_lem some)

at_end_lem : (i : Intake) (n : ℕ) (line : List ℕ) (lent : LentSheet) → n < largest_count
    → finished (within i n 0 line lent) ≡ read_from i n lent []
unfolding finished last_line end_read read_from
at_end_lem i n line lent h = rw (next_line_lem n h)

-- a file of one line, or none, that lacks its line feed
read_last : (i : Intake) (n held : ℕ) (s line : List ℕ) (lent : LentSheet) → Present s line held
    → n + length s < largest_count → finished (within i n held line lent) ≡ read_from i n lent (lines_of s)
unfolding lines_of feed_all read_from
read_last i n held [] line lent is h = rw is.count (at_end_lem i n line lent (omega arith))
read_last i n held (b ∷ s) line lent is h =
    finish_line i n held (b ∷ s) line lent is (omega arith) some ∙ after ∙ sym lines
  where
    some : held ≡ 0 → ⊥
    some z = omega (arith, is.count)

    a : After
    a = line_after i (b ∷ s) lent

    after : finished (ended_by a (suc n) line) ≡ read_from i n lent ((b ∷ s) ∷ [])
    after =
        after_line_lem a.taken.intake a.taken.outcome (suc n) line a.lent []
        (read_from a.taken.intake (suc n) a.lent [])
        (λ e. at_end_lem a.taken.intake (suc n) line a.lent (omega arith))

    lines : read_from i n lent (lines_of (b ∷ s)) ≡ read_from i n lent ((b ∷ s) ∷ [])
    lines = ap (read_from i n lent) (lines_last b s is.no_feed)

-- these bytes, after any part of a line, are read as lines
abbrev ReadOn : List ℕ → Type 0
ReadOn bytes =
    (i : Intake) (n held : ℕ) (s line : List ℕ) (lent : LentSheet) → Present s line held
    → n + length s + length bytes < largest_count
    → finished (feed_all (within i n held line lent) bytes) ≡ read_from i n lent (lines_of (s ++ bytes))

read_feed : (bytes : List ℕ) → ReadOn bytes → ReadOn (10 ∷ bytes)
unfolding feed_all byte_after read_from
read_feed bytes on i n held s line lent is h =
    let a : After = line_after i s lent in
    ap (λ (x : Reading). finished (feed_all x bytes)) (line_ended i n held s line lent is (omega arith))
    ∙ after_line_lem a.taken.intake a.taken.outcome (suc n) line a.lent bytes
    (read_from a.taken.intake (suc n) a.lent (lines_of bytes))
    (λ e. on a.taken.intake (suc n) 0 [] line a.lent (present_none line is.room) (omega arith))
    ∙ sym (ap (read_from i n lent) (lines_feed s bytes is.no_feed))

module _ (b : ℕ) (bytes : List ℕ) (other : b ≡ 10 → ⊥) (on : ReadOn bytes) where
  -- the reader after the byte holds one byte more
  read_more : (i : Intake) (n held held' : ℕ) (s line line' : List ℕ) (lent : LentSheet)
      → byte_after (within i n held line lent) b ≡ within i n held' line' lent → Present
      (s ++ (b ∷ [])) line' held' → n + length s + suc (length bytes) < largest_count → finished
      (feed_all (within i n held line lent) (b ∷ bytes)) ≡ read_from i n lent (lines_of (s ++ b ∷ bytes))
  unfolding feed_all
  read_more i n held held' s line line' lent e is h =
      ap (λ (x : Reading). finished (feed_all x bytes)) e
      ∙ on i n held' (s ++ (b ∷ [])) line' lent is (simp length-append (omega arith))
      ∙ ap (λ (x : List ℕ). read_from i n lent (lines_of x)) (append_assoc s (b ∷ []) bytes)

  read_other : ReadOn (b ∷ bytes)
  unfolding feed_all byte_after keep_byte long_line
  read_other i n held s line lent is h = go (ltb held 80) refl
    where
      go : (t : Bool) → ltb held 80 ≡ t
          → finished (feed_all (within i n held line lent) (b ∷ bytes)) ≡ read_from i n lent (lines_of (s ++ b ∷ bytes))
      go true e =
          read_more i n held (held + 1) s line (set line held b) lent (rw (ne_eqb b 10 other, e))
          (present_kept s line held b is other (ltb-true _ _ e)) h
      go false e =
          rw (ne_eqb b 10 other, e, hand_line_lem i n held (10 ∷ []) line lent (omega arith))
          (after_long i n line lent bytes (lines_of (s ++ b ∷ bytes))
          (present_full s line held b is other (ltb-false _ _ e) bytes))

read_byte : (b : ℕ) (bytes : List ℕ) → ReadOn bytes → ReadOn (b ∷ bytes)
read_byte b bytes on = go (eqb b 10) refl
  where
    go : (t : Bool) → eqb b 10 ≡ t → ReadOn (b ∷ bytes)
    go true e = rw (eqb-true b 10 e) (read_feed bytes on)
    go false e = read_other b bytes (eqb-false b 10 e) on

read_on : (bytes : List ℕ) → ReadOn bytes
unfolding feed_all
read_on [] i n held s line lent is h =
    read_last i n held s line lent is (omega arith) ∙ ap (λ (x : List ℕ). read_from i n lent (lines_of x))
    (sym (append-nil s))
read_on (b ∷ bytes) i n held s line lent is h = read_byte b bytes (read_on bytes) i n held s line lent is h

-- ---- the whole file

-- fewer than 2^64 - 1 bytes: then all line numbers are below 2^64
pub read_whole : (bytes line : List ℕ) (lent : LentSheet) → length line ≡ 80 → length bytes < largest_count
    → finished (feed_all (started line lent) bytes) ≡ read_file lent bytes
unfolding read_file
read_whole bytes line lent room h = read_on bytes new_intake 0 0 [] line lent (present_none line room) (omega arith)

pub feed_pieces_lem : (s : Reading) (pieces : List (List ℕ)) → feed_pieces s pieces ≡ feed_all s (joined pieces)
unfolding feed_all
feed_pieces_lem s [] = refl
feed_pieces_lem s (p ∷ ps) = feed_pieces_lem (feed_all s p) ps ∙ sym (feed_append s p (joined ps))

-- however the file is cut, it is read as its lines are
pub read_in_pieces : ReadInPieces
read_in_pieces = record {
  as_lines =
      λ pieces line lent room h. ap finished (feed_pieces_lem (started line lent) pieces) ∙ read_whole
      (joined pieces) line lent room h;
}

-- ---- the refusal

long_refused : (s : Reading) → is_refused (long_line s).reader ≡ true
unfolding is_refused long_line hand_line
long_refused s = go (line_after s.reader.intake (10 ∷ []) s.lent).taken.outcome refl
  where
    go : (o : Outcome) → (line_after s.reader.intake (10 ∷ []) s.lent).taken.outcome ≡ o
        → is_refused (long_line s).reader ≡ true
    go Accepted e =
        absurd (bad_line_refused s.reader.intake (10 ∷ []) s.lent (line_feed_lem (10 ∷ []) 0 (omega arith) refl) e)
    go (Err refusal) e = rw e

stays_refused : (s : Reading) (bytes : List ℕ) → is_refused s.reader ≡ true
    → is_refused (feed_all s bytes).reader ≡ true
stays_refused s bytes r = rw (fed_refused s bytes r) r

-- a byte that is no line feed: one more is held, or the line is refused
long_byte : (s : Reading) (b : ℕ) (bytes : List ℕ) → (b ≡ 10 → ⊥)
    → (s.reader.held < 80 → (byte_after s b).reader.held ≡ s.reader.held + 1
    → is_refused (feed_all (byte_after s b) bytes).reader ≡ true)
    → is_refused (feed_all (byte_after s b) bytes).reader ≡ true
unfolding is_refused byte_after keep_byte
long_byte s b bytes other on = go s.reader.outcome refl (ltb s.reader.held 80) refl
  where
    go : (o : Outcome) → s.reader.outcome ≡ o → (t : Bool) → ltb s.reader.held 80 ≡ t
        → is_refused (feed_all (byte_after s b) bytes).reader ≡ true
    go (Err refusal) e t u = stays_refused (byte_after s b) bytes (simp e)
    go Accepted e true u = on (ltb-true _ _ u) (simp (e, ne_eqb b 10 other, u))
    go Accepted e false u = stays_refused (byte_after s b) bytes (rw (e, ne_eqb b 10 other, u) (long_refused s))

long_on : (bytes : List ℕ) (s : Reading) → NoFeed bytes → 0 < length bytes → 80 < s.reader.held + length bytes
    → is_refused (feed_all s bytes).reader ≡ true
unfolding feed_all
long_on [] s f some h = absurd (omega arith)
long_on (b ∷ bytes) s f some h =
    long_byte s b bytes f.0 (λ l e. long_on bytes (byte_after s b) f.1 (omega arith) (omega (arith, e)))

pub stops_at_refusal : StopsAtRefusal
stops_at_refusal = record {
  no_change = λ s bytes r. ap finished (fed_refused s bytes r);
  long_line_lem = λ s bytes f h. long_on bytes s f (omega arith) (omega arith);
}
