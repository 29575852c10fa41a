-- Blanks in front of a value.
use Prim.Native.Nat.{ℕ, zero, suc, ◌+◌, ◌<◌, ◌≤◌}
use mathlib.Core.Path.{◌≡◌, refl, sym, ap, ◌∙◌}
use mathlib.Core.List.{List, [], ◌∷◌, ◌++◌}
use mathlib.Core.Bool.{Bool, true, false, false≢true}
use native.Mathlib.Omega.{arith}
use borrow.Author.Tests.{ne_eqb, eqb-true}
use lib.ListN.{length, drop, replicate, length-append, length-replicate}
use lib.Seq.{drop-append_seam, drop-append-add, drop_at}
use lib.Dec.{eqb}
use Rattle.decimal.specs.Ascii.{blank}
use Rattle.std.proofs.Common.{None}
use Rattle.decimal.specs.Value.{Found}
use Rattle.decimal.specs.Value.{is_digit, is_blank, take_while, digit_run, blank_run, blanks_at, most_digits, is_value}
use Rattle.decimal.specs.Value.{found_at, unpadded_at, most_blanks, value_at}
use Rattle.decimal.specs.Blanks.{with_blanks, AfterBlanks, PaddedValues}
use Rattle.decimal.proofs.TakeWhile.{while_stop, while_next, while_take}
use Rattle.decimal.proofs.ValueLaws.{digit_low, unpadded_found, value_over_blanks, value_after_blanks}
use Rattle.decimal.proofs.ValueLaws.{value_no_digit, value_found}
use Rattle.decimal.proofs.ReadBack.{text_back}

-- the blanks with which a list begins that has blanks in front
blanks_before : (n : ℕ) (s : List ℕ) → blank_run (with_blanks n s) ≡ replicate n blank ++ blank_run s
blanks_before zero s = refl
blanks_before (suc n) s =
    while_next is_blank blank (with_blanks n s) refl ∙ ap (λ (r : List ℕ). blank ∷ r) (blanks_before n s)

-- blanks are all the same byte
blanks_are : (s : List ℕ) → blank_run s ≡ replicate (length (blank_run s)) blank
unfolding take_while
blanks_are [] = refl
blanks_are (b ∷ s) = go (eqb b blank) refl (blanks_are s)
  where
    go : (t : Bool) → eqb b blank ≡ t → blank_run s ≡ replicate (length (blank_run s)) blank
        → blank_run (b ∷ s) ≡ replicate (length (blank_run (b ∷ s))) blank
    go false e ih = rw (while_stop is_blank b s e)
    go true e ih = rw (while_next is_blank b s e) (let z : b ≡ blank = eqb-true b blank e in cc)

-- bytes that begin with a digit begin with no blank
digits_no_blanks : (s : List ℕ) → 0 < length (digit_run s) → blank_run s ≡ []
unfolding take_while
digits_no_blanks [] h = refl
digits_no_blanks (b ∷ s) h = go (is_digit b) refl
  where
    go : (t : Bool) → is_digit b ≡ t → blank_run (b ∷ s) ≡ []
    go true e = while_stop is_blank b s (ne_eqb b blank (λ z. omega (arith, digit_low b e)))
    go false e = absurd (omega (arith, ap length (while_stop is_digit b s e)))

-- a value has a digit
value_some : (most : ℕ) (digits : List ℕ) → is_value most digits ≡ true → 0 < length digits
unfolding is_value
value_some most [] e = absurd (false≢true e)
value_some most (b ∷ s) e = omega arith

-- a value without blanks begins with no blank
found_no_blanks : (most : ℕ) (s : List ℕ) (at : ℕ) {v end : ℕ} → unpadded_at most s at ≡ Found v end
    → blank_run (drop at s) ≡ []
found_no_blanks most s at e = digits_no_blanks (drop at s) (value_some most _ (unpadded_found most s at e).good)

-- the same bytes at another position of another list are the same value
pub unpadded_moved : (most : ℕ) (s t : List ℕ) (i j n : ℕ) {v end : ℕ} → drop i s ≡ drop j t → end ≡ i + n
    → unpadded_at most s i ≡ Found v end → unpadded_at most t j ≡ Found v (j + n)
unfolding unpadded_at found_at
unpadded_moved most s t i j n {v} {end} d p e =
    let f = unpadded_found most s i e in
    let m : length (digit_run (drop i s)) ≡ n = omega (arith, f.stops) in
    rw (← d, f.good, m, ← f.number)

as_before : (most : ℕ) (s : List ℕ) (at : ℕ) {v end : ℕ} → most ≤ most_digits
    → unpadded_at most s at ≡ Found v end → value_at most s at ≡ Found v end
as_before most s at few e =
    let n : blanks_at s at ≡ 0 = ap length (found_no_blanks most s at e) in
    let p : at + blanks_at s at ≡ at = omega arith in
    value_after_blanks most s at few (omega arith) ∙ rw p e

module _ (most blanks : ℕ) (front s : List ℕ) where
  -- the blanks at the position
  here : blank_run (drop (length front) (front ++ with_blanks blanks s)) ≡ replicate blanks blank ++ blank_run s
  here = rw drop-append_seam (blanks_before blanks s)

  count : blanks_at (front ++ with_blanks blanks s) (length front) ≡ blanks + length (blank_run s)
  count = ap length here ∙ simp (length-append, length-replicate)

  -- and what follows them
  rest : drop (length front + blanks) (front ++ with_blanks blanks s) ≡ drop 0 s
  rest =
      drop-append-add front (with_blanks blanks s) blanks ∙ drop_at (replicate blanks blank) s blanks
      (length-replicate blanks blank)

  after_blanks : {v end : ℕ} → most ≤ most_digits → blanks ≤ most_blanks → unpadded_at most s 0 ≡ Found v end
      → value_at most (front ++ with_blanks blanks s) (length front) ≡ Found v (length front + blanks + end)
  after_blanks {v} {end} few h e =
      let none : length (blank_run s) ≡ 0 = ap length (found_no_blanks most s 0 e) in
      let n : blanks_at (front ++ with_blanks blanks s) (length front) ≡ blanks = omega (arith, count) in
      value_after_blanks most (front ++ with_blanks blanks s) (length front) few (omega arith)
      ∙ rw n (unpadded_moved most s _ 0 (length front + blanks) end (sym rest) (omega arith) e)

  too_many : most_blanks < blanks → value_at most (front ++ with_blanks blanks s) (length front) ≡ None
  too_many h = value_over_blanks most (front ++ with_blanks blanks s) (length front) (omega (arith, count))

  no_digit : blank_run s ≡ [] → digit_run s ≡ [] → value_at most (front ++ with_blanks blanks s) (length front) ≡ None
  no_digit none e =
      let n : blanks_at (front ++ with_blanks blanks s) (length front) ≡ blanks =
      omega (arith, count, ap length none) in
      value_no_digit most (front ++ with_blanks blanks s) (length front) (rw (n, rest) e)

no_other : (most : ℕ) (s : List ℕ) (at : ℕ) {v end : ℕ} → value_at most s at ≡ Found v end
    → AfterBlanks most s at v end
no_other most s at e =
    let f = value_found most s at e in
    record {
      allowed = f.allowed;
      blanks = blanks_at s at;
      few = f.few;
      blanks_are = while_take is_blank (drop at s) ∙ blanks_are (drop at s);
      value_is = f.value_is;
    }

pub padded_values : PaddedValues
padded_values = record {
  as_before = as_before;
  after_blanks = after_blanks;
  too_many = too_many;
  no_digit = no_digit;
  no_other = no_other;
  reads_back = λ most n few small front blanks h rest e.
      after_blanks most blanks front _ few h (text_back most n small rest e);
}
