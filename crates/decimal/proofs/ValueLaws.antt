-- Laws of values in a line.
use Prim.Native.Nat.{ℕ, zero, suc, ◌+◌, ◌-◌, ◌*◌, ◌^◌, ◌<◌, ◌≤◌}
use mathlib.Core.Path.{◌≡◌, refl, sym, ap, ◌∙◌}
use mathlib.Core.List.{List, [], ◌∷◌}
use mathlib.Core.Bool.{Bool, true, false, cond, ◌&&◌, ◌||◌, and-eq-true_iff, and-false, or-true}
use native.Mathlib.Nat.{pow-suc, pow-le-pow_right, lt_of_lt_of_le}
use native.Mathlib.Omega.{arith}
use borrow.Author.Tests.{leb-true, le-leb, lt-leb, ltb-true, ltb-false, eq-eqb, ne_eqb}
use lib.ListN.{length, drop, get_or}
use lib.Seq.{get_or-drop, drop-cons}
use native.Mathlib.Numerals.{add-one}
use lib.Dec.{leb, ltb, eqb}
use Rattle.decimal.specs.Ascii.{digit_zero, digit_nine}
use Rattle.std.proofs.Common.{None}
use Rattle.std.specs.Option.{unwrap_or}
use Rattle.decimal.specs.Value.{Value, Found}
use Rattle.decimal.specs.Value.{is_digit, is_blank, take_while, digit_run, blanks_at, value_from, most_digits, is_value}
use Rattle.decimal.specs.Value.{found_at, number_at, unpadded_at, most_blanks, value_at}
use Rattle.decimal.proofs.Answers.{either_way}
use Rattle.decimal.proofs.TakeWhile.{while_passes, while_at_next}

pub digit_low : (b : ℕ) → is_digit b ≡ true → digit_zero ≤ b
unfolding is_digit
digit_low b e = leb-true digit_zero b ((and-eq-true_iff (leb digit_zero b) (leb b digit_nine)).0 e).0

pub digit_high : (b : ℕ) → is_digit b ≡ true → b ≤ digit_nine
unfolding is_digit
digit_high b e = leb-true b digit_nine ((and-eq-true_iff (leb digit_zero b) (leb b digit_nine)).0 e).1

pub is_digit_lem : (b : ℕ) → digit_zero ≤ b → b ≤ digit_nine → is_digit b ≡ true
unfolding is_digit
is_digit_lem b l h = rw (le-leb digit_zero b l, le-leb b digit_nine h)

-- A reader has come to place i of some digits, and the digits before it write v: one digit more.
module _ (digits : List ℕ) (i : ℕ) where
  pub next_digit : (v : ℕ) → value_from v (drop i digits) ≡ value_from 0 digits → i < length digits
      → value_from (v * 10 + (get_or digits i 0 - digit_zero)) (drop (i + 1) digits) ≡ value_from 0 digits
  unfolding value_from
  next_digit v e h =
      let here : drop i digits ≡ get_or digits i 0 ∷ drop (i + 1) digits = rw add-one (drop-cons digits i 0 h) in
      sym (ap (value_from v) here) ∙ e

  pub next_small : (v : ℕ) → v < 10 ^ i → is_digit (get_or digits i 0) ≡ true
      → v * 10 + (get_or digits i 0 - digit_zero) < 10 ^ (i + 1)
  next_small v h d =
      rw (add-one, pow-suc) (omega (arith, h, digit_low (get_or digits i 0) d, digit_high (get_or digits i 0) d))

-- A reader has come to place i of a list, and the digits before it write v.
module _ (s : List ℕ) (i : ℕ) where
  -- a digit is there: it is the first of the digits from there on
  pub digit_there : i < length s → is_digit (get_or s i 0) ≡ true
      → ((v : ℕ) → value_from v (digit_run (drop i s))
      ≡ value_from (v * 10 + (get_or s i 0 - digit_zero)) (digit_run (drop (i + 1) s)))
      × (length (digit_run (drop i s)) ≡ 1 + length (digit_run (drop (i + 1) s)))
  unfolding value_from
  digit_there h d =
      let next = while_at_next is_digit s i h d in
      (λ v. ap (value_from v) next, ap length next ∙ omega arith)

  -- no digit is there: those before it are all
  pub digits_written : (v : ℕ) → value_from v (digit_run (drop i s)) ≡ value_from 0 (digit_run s)
      → i + length (digit_run (drop i s)) ≡ length (digit_run s) → digit_run (drop i s) ≡ []
      → (v ≡ value_from 0 (digit_run s)) × (i ≡ length (digit_run s))
  unfolding value_from
  digits_written v number count none =
      (sym (ap (value_from v) none) ∙ number, omega (arith, count, ap length none))

-- a number of at most nine digits fits 32 bits
pub few_fit : (v n : ℕ) → v < 10 ^ n → n ≤ most_digits → v < 1000000000
few_fit v n h few = lt_of_lt_of_le h (pow-le-pow_right {n = 10} (omega arith) {j = most_digits} few)

-- The number that the digits at a position write: none where they are more than allowed.
module _ (most : ℕ) (s : List ℕ) (at : ℕ) where
  pub number_over : most < length (digit_run (drop at s)) → number_at most s at ≡ None
  unfolding found_at
  number_over h = rw (lt-leb (length (digit_run (drop at s))) most h)

  pub number_of : length (digit_run (drop at s)) ≤ most
      → number_at most s at ≡ Found (value_from 0 (digit_run (drop at s))) (at + length (digit_run (drop at s)))
  unfolding found_at
  number_of h = rw (le-leb (length (digit_run (drop at s))) most h)

-- The value whose digits begin at a position, by the byte there.
module _ (most : ℕ) (s : List ℕ) (at : ℕ) where
  pub unpadded_none : digit_run (drop at s) ≡ [] → unpadded_at most s at ≡ None
  unfolding unpadded_at
  unpadded_none e = rw e

  pub unpadded_zero : {b : ℕ} {more : List ℕ} → digit_run (drop at s) ≡ b ∷ more → b ≡ digit_zero
      → unpadded_at most s at ≡ number_at 1 s at
  unfolding unpadded_at
  unpadded_zero {b} {more} e z =
      rw (e, eq-eqb b digit_zero z) (ap (λ (t : Bool). found_at t (b ∷ more) at) (alone (length more)))
    where
      alone : (n : ℕ) → eqb n 0 ≡ leb (suc n) 1
      alone zero = refl
      alone (suc n) = ne_eqb (suc n) 0 (omega arith) ∙ sym (lt-leb (suc (suc n)) 1 (omega arith))

  pub unpadded_more : {b : ℕ} {more : List ℕ} → digit_run (drop at s) ≡ b ∷ more → (b ≡ digit_zero → ⊥)
      → unpadded_at most s at ≡ number_at most s at
  unfolding unpadded_at
  unpadded_more {b} {more} e z = rw (e, ne_eqb b digit_zero z)

-- what was found is one value and one end
pub found_same : {v w i j : ℕ} → Found v i ≡ Found w j → (v ≡ w) × (i ≡ j)
found_same e = (ap (λ (r : Value). (unwrap_or r (0, 0)).0) e, ap (λ (r : Value). (unwrap_or r (0, 0)).1) e)

-- a value without blanks that was found
pub record UnpaddedFound (most : ℕ) (s : List ℕ) (at v end : ℕ) : Type 0 where
  pub good : is_value most (digit_run (drop at s)) ≡ true
  pub number : v ≡ value_from 0 (digit_run (drop at s))
  pub stops : end ≡ at + length (digit_run (drop at s))

pub unpadded_found : (most : ℕ) (s : List ℕ) (at : ℕ) {v end : ℕ} → unpadded_at most s at ≡ Found v end
    → UnpaddedFound most s at v end
unfolding unpadded_at found_at
unpadded_found most s at {v} {end} e = go (is_value most (digit_run (drop at s))) refl e
  where
    go : (t : Bool) → is_value most (digit_run (drop at s)) ≡ t → found_at t (digit_run (drop at s)) at ≡ Found v end
        → UnpaddedFound most s at v end
    go true g e = let (number, stops) = found_same e in record { good = g; number = sym number; stops = sym stops }
    go false g e = let z : ◌≡◌ {A = ℕ} 0 1 = cc in absurd (omega arith)

-- a value that was found, with or without blanks
pub record ValueFound (most : ℕ) (s : List ℕ) (at v end : ℕ) : Type 0 where
  pub allowed : most ≤ most_digits
  pub few : blanks_at s at ≤ most_blanks
  pub value_is : unpadded_at most s (at + blanks_at s at) ≡ Found v end

-- The value at a position, by the blanks there.
module _ (most : ℕ) (s : List ℕ) (at : ℕ) where
  pub value_over : most_digits < most → value_at most s at ≡ None
  unfolding value_at
  value_over h = rw (lt-leb most most_digits h)

  pub value_over_blanks : most_blanks < blanks_at s at → value_at most s at ≡ None
  unfolding value_at
  value_over_blanks h = rw (lt-leb (blanks_at s at) most_blanks h, and-false (leb most most_digits))

  pub value_after_blanks : most ≤ most_digits → blanks_at s at ≤ most_blanks
      → value_at most s at ≡ unpadded_at most s (at + blanks_at s at)
  unfolding value_at
  value_after_blanks few h = rw (le-leb most most_digits few, le-leb (blanks_at s at) most_blanks h)

  -- no digit follows the blanks
  pub value_no_digit : digit_run (drop (at + blanks_at s at) s) ≡ [] → value_at most s at ≡ None
  unfolding value_at
  value_no_digit e =
      rw (unpadded_none most s (at + blanks_at s at) e)
      (either_way (leb most most_digits && leb (blanks_at s at) most_blanks) None)

  -- a value is found only by a reader that allows at most nine digits, and after at most eight blanks
  pub value_found : {v end : ℕ} → value_at most s at ≡ Found v end → ValueFound most s at v end
  unfolding value_at
  value_found {v} {end} e = go (leb most most_digits) (leb (blanks_at s at) most_blanks) refl refl e
    where
      go : (t u : Bool) → leb most most_digits ≡ t → leb (blanks_at s at) most_blanks ≡ u
          → cond (t && u) (unpadded_at most s (at + blanks_at s at)) None ≡ Found v end → ValueFound most s at v end
      go true true g h e = record {
        allowed = leb-true most most_digits g;
        few = leb-true (blanks_at s at) most_blanks h;
        value_is = e;
      }
      go true false g h e = let z : ◌≡◌ {A = ℕ} 0 1 = cc in absurd (omega arith)
      go false u g h e = let z : ◌≡◌ {A = ℕ} 0 1 = cc in absurd (omega arith)

-- Every byte from the position to where a value stops is a blank or a digit.
abbrev pub is_value_byte : ℕ → Bool
is_value_byte b = is_blank b || is_digit b

pub value_bytes : (most : ℕ) (s : List ℕ) (at : ℕ) {v end : ℕ} → value_at most s at ≡ Found v end → (i : ℕ) → at ≤ i
    → i < end → is_value_byte (get_or s i 0) ≡ true
value_bytes most s at {v} {end} e i l h = go (ltb i start) refl
  where
    start : ℕ
    start = at + blanks_at s at

    passes : (test : ℕ → Bool) (k : ℕ) → k ≤ i → i < k + length (take_while test (drop k s)) → test (get_or s i 0) ≡ true
    passes test k l h =
        let p : k + (i - k) ≡ i = omega arith in
        rw (get_or-drop, p) at (while_passes test (drop k s) (i - k) (omega arith))

    go : (t : Bool) → ltb i start ≡ t → is_value_byte (get_or s i 0) ≡ true
    go true b = rw (passes is_blank at l (ltb-true i start b))
    go false b =
        let f = unpadded_found most s start (value_found most s at e).value_is in
        rw (passes is_digit start (ltb-false i start b) (omega (arith, f.stops))) (or-true (is_blank (get_or s i 0)))
