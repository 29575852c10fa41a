-- Texts written into a buffer, one after the other.
use mathlib.Core.Path.{◌≡◌, refl, sym, ap, ◌∙◌}
use mathlib.Core.List.{List, [], ◌∷◌, ◌++◌, append_assoc}
use Prim.Native.Nat.{ℕ, ◌+◌, ◌<◌, ◌≤◌}
use native.Mathlib.Nat.{add-zero, zero-add}
use native.Mathlib.Omega.{arith}
use borrow.Author.Tests.{le-leb, lt-leb}
use lib.ListN.{length, set, length-append, take-append-drop}
use Rattle.std.proofs.Common.{Option, Some}
use Rattle.decimal.specs.Text.{overwrite, write_text, Writing}
use Rattle.decimal.proofs.TextLaws.{overwrite_then, overwrite_one, overwrite_length}
use Rattle.sheet.specs.Sheet.{Grid, cells, dir_at}
use Rattle.listing.specs.Listing.{field, lines_below}
use Rattle.listing.specs.Writing.{listing_values, Listed, text_into}
use Rattle.listing.specs.Steps.{Put}
use Rattle.listing.proofs.Lengths.{field_length, lines_outside, lines_inside}
use Rattle.sheet.specs.Answer.{Counted, Refused}
use Rattle.std.specs.Prelude.{Ok}

-- ---- one text, and another after it

-- the first of two texts has room where both have
pub front_room : (at n : ℕ) (s t : List ℕ) → at + length (s ++ t) ≤ n → at + length s ≤ n
front_room at n s t h = omega (arith, length-append s t)

module _ {a b : List ℕ} {at mid : ℕ} {s : List ℕ} (p : Put a b at mid s) where
  pub put_length : at + length s ≤ length a → length b ≡ length a
  put_length room = ap length p.after_is ∙ overwrite_length a at s room

  -- the second text has room after the first
  pub put_room : (t : List ℕ) → at + length (s ++ t) ≤ length a → mid + length t ≤ length b
  put_room t room = omega (arith, p.next_is, length-append s t, put_length (front_room at (length a) s t room))

  pub put_then : {c : List ℕ} {next : ℕ} {t : List ℕ} → Put b c mid next t → at + length (s ++ t) ≤ length a
      → Put a c at next (s ++ t)
  put_then {c} {next} {t} q room = record {
    next_is = omega (arith, p.next_is, q.next_is, length-append s t);
    after_is =
        q.after_is ∙ ap (λ (o : List ℕ). overwrite o mid t) p.after_is ∙ ap
        (λ (k : ℕ). overwrite (overwrite a at s) k t) p.next_is ∙ overwrite_then a at s t
        (omega (arith, length-append s t));
  }

pub put_nothing : (buffer : List ℕ) (at : ℕ) → Put buffer buffer at at []
unfolding overwrite
put_nothing buffer at =
    record { next_is = sym (add-zero at); after_is = sym (rw add-zero (take-append-drop at buffer)) }

put_one : (buffer : List ℕ) (at b : ℕ) → at < length buffer → Put buffer (set buffer at b) at (at + 1) (b ∷ [])
put_one buffer at b room = record { next_is = refl; after_is = overwrite_one buffer at b room }

-- ---- a number that fits is written whole

module _ (text buffer : List ℕ) (at : ℕ) {answer : Option ℕ} {after : List ℕ} (room : at + length text ≤ length buffer)
    (wrote : record { answer = answer; buffer = after } ≡ write_text text buffer at) where
  wrote_is : ◌≡◌ {A = Writing} (record { answer = answer; buffer = after })
      (record { answer = Some (at + length text); buffer = overwrite buffer at text })
  unfolding write_text
  wrote_is = wrote ∙ rw (le-leb (at + length text) (length buffer) room)

  pub wrote_answer : answer ≡ Some (at + length text)
  wrote_answer = ap (λ (w : Writing). w.answer) wrote_is

  pub wrote_put : {end : ℕ} → answer ≡ Some end → Put buffer after at end text
  wrote_put {end} e =
      let f = wrote_answer in record { next_is = cc; after_is = ap (λ (w : Writing). w.buffer) wrote_is }

-- a text, and the byte after it
pub put_field_lem : (text : List ℕ) (after : ℕ) {a b : List ℕ} {at end : ℕ} → at + length text < length a
    → Put a b at end text → Put a (set b end after) at (end + 1) (field text after)
unfolding field
put_field_lem text after {a} {b} {at} {end} room p =
    let both : at + length (text ++ (after ∷ [])) ≤ length a = omega (arith, length-append text (after ∷ [])) in
    put_then p (put_one b end after (omega (arith, put_room p (after ∷ []) both))) both

-- the position after it
pub field_end_lem : (text : List ℕ) (after : ℕ) {a b : List ℕ} {at next : ℕ} → Put a b at next (field text after)
    → next ≡ at + length text + 1
field_end_lem text after p = omega (arith, p.next_is, field_length text after)

-- two texts, and the byte after them
pub field_join : (s t : List ℕ) (after : ℕ) → s ++ field t after ≡ field (s ++ t) after
unfolding field
field_join s t after = sym (append_assoc s t (after ∷ []))

-- ---- a text at the start of a buffer

module _ (text buffer : List ℕ) where
  pub put_whole : {after : List ℕ} {next : ℕ} → length text ≤ length buffer → Put buffer after 0 next text
      → record { answer = Ok next; buffer = after } ≡ text_into text buffer
  unfolding text_into overwrite
  put_whole room p = rw (le-leb (length text) (length buffer) room, p.next_is, p.after_is, zero-add)

  pub put_none : length buffer < length text → record { answer = Refused 3 0; buffer = buffer } ≡ text_into text buffer
  unfolding text_into
  put_none short = rw (lt-leb (length text) (length buffer) short)

-- an answer and a buffer that are the definition's have its number and values
pub promises : {answer : Counted} {buffer : List ℕ} {w : Listed} → record { answer = answer; buffer = buffer } ≡ w
    → (record { answer = answer; buffer = buffer } ≡ w) × (listing_values answer ≡ listing_values w.answer)
promises e = (e, ap (λ (x : Listed). listing_values x.answer) e)

-- ---- the lines of cells

module _ (G : Grid) (line : ℕ → List ℕ) (cell : ℕ) where
  -- an outside cell has no line
  pub put_outside : {a b : List ℕ} {at next : ℕ} → dir_at G cell ≡ 0 → Put a b at next (lines_below G line cell)
      → Put a b at next (lines_below G line (cell + 1))
  put_outside e p = rw (lines_outside G line cell e) p

  module _ {a b : List ℕ} {at mid : ℕ} (on : cell < cells G) (inside : dir_at G cell ≡ 0 → ⊥)
      (room : at + length (lines_below G line (cell + 1)) ≤ length a)
      (p : Put a b at mid (lines_below G line cell)) where
    lines_room : at + length (lines_below G line cell ++ line cell) ≤ length a
    lines_room = rw (lines_inside G line cell on inside) at room

    -- the line of an inside cell has room after those before it
    pub line_room : mid + length (line cell) ≤ length b
    line_room = put_room p (line cell) lines_room

    pub put_inside : {c : List ℕ} {next : ℕ} → Put b c mid next (line cell)
        → Put a c at next (lines_below G line (cell + 1))
    put_inside q = rw (lines_inside G line cell on inside) (put_then p q lines_room)
