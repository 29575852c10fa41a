-- Laws of a number's digits right before a place of a slice: how they get there, from the last digit on.
use mathlib.Core.Path.{◌≡◌, refl, sym, ap, ◌∙◌}
use mathlib.Core.Bool.{Bool, true, false, cond, true≢false}
use mathlib.Core.List.{List, [], ◌∷◌, ◌++◌}
use Prim.Native.Nat.{ℕ, zero, suc, ◌+◌, ◌/◌, ◌%◌, ◌-◌, ◌^◌, ◌≤◌, ◌<◌}
use native.Mathlib.Numerals.{sub-one}
use native.Mathlib.Omega.{arith}
use borrow.Author.Tests.{eq-eqb, ne_eqb, leb-true, leb-false}
use lib.Dec.{eqb, leb}
use lib.ListN.{length, drop, take, set, length-set, length-append, take-append-drop}
use lib.Seq.{append_snoc, drop_at, length-take-le, set_split, take-set-le}
use Rattle.sheet.specs.Record.{decimal_digits, number_digits}
use Rattle.sheet.specs.Flow.{are_digits}
use Rattle.digits.specs.Counts.{number_fits}
use Rattle.digits.specs.LastPlaces.{end_digits, written_before, number_start}
use Rattle.digits.proofs.LastDigit.{no_digits_lem, digits_none, last_digit, digits_longer}
use Rattle.digits.proofs.LastDigit.{judged_none, judged_zero, judged_long, judged_turn}
use Rattle.std.specs.Prelude.{None, Some}

-- ---- the digits back to a 0

module _ (k m : ℕ) where
  pub ends_full : k < 1 → end_digits k m ≡ []
  unfolding end_digits
  ends_full h = let z : k ≡ 0 = omega arith in rw z

  pub ends_here : m % 10 < 1 → end_digits k m ≡ []
  unfolding end_digits
  ends_here h = go k
    where
      go : (k : ℕ) → end_digits k m ≡ []
      go zero = refl
      go (suc k) = rw (eq-eqb (m % 10) 0 (omega arith))

pub ends_turn : (k m : ℕ) → 1 ≤ k → 1 ≤ m % 10 → end_digits (k - 1) (m / 10) ++ (m % 10 ∷ []) ≡ end_digits k m
unfolding end_digits
ends_turn zero m h g = absurd (omega arith)
ends_turn (suc k) m h g = rw (sub-one (suc k), ne_eqb (m % 10) 0 (λ e. omega arith))

pub ends_length : (k m : ℕ) → length (end_digits k m) ≤ k
unfolding end_digits
ends_length zero m = omega arith
ends_length (suc k) m = go (eqb (m % 10) 0) (ends_length k (m / 10))
  where
    go : (b : Bool) → length (end_digits k (m / 10)) ≤ k
        → length (cond b [] (end_digits k (m / 10) ++ (m % 10 ∷ []))) ≤ suc k
    go true h = omega arith
    go false h = rw length-append (omega arith)

-- of a number with at most k digits, none of them 0, these are all
pub ends_all : (k m : ℕ) → m < 2 ^ 64 → are_digits k (decimal_digits m) ≡ true → end_digits k m ≡ decimal_digits m
unfolding end_digits
ends_all zero m fits l = go (leb m 0) refl
  where
    go : (b : Bool) → leb m 0 ≡ b → end_digits 0 m ≡ decimal_digits m
    go true e = sym (no_digits_lem m (leb-true m 0 e))
    go false e = absurd (true≢false (sym l ∙ judged_long m fits (leb-false m 0 e) 0 (omega arith)))
ends_all (suc k) m fits l = go (leb m 0) refl (leb (m % 10) 0) refl (ends_all k (m / 10) (omega arith))
  where
    go : (b : Bool) → leb m 0 ≡ b → (z : Bool) → leb (m % 10) 0 ≡ z
        → (are_digits k (decimal_digits (m / 10)) ≡ true → end_digits k (m / 10) ≡ decimal_digits (m / 10))
        → end_digits (suc k) m ≡ decimal_digits m
    go true e z f rest = ends_here (suc k) m (omega (arith, leb-true m 0 e)) ∙ sym (no_digits_lem m (leb-true m 0 e))
    go false e true f rest =
        let zero-last = judged_zero m fits (leb-false m 0 e) (suc k) (omega (arith, leb-true (m % 10) 0 f)) in
        absurd (true≢false (sym l ∙ zero-last))
    go false e false f rest =
        let some = leb-false m 0 e in
        let digit : 1 ≤ m % 10 = omega (arith, leb-false (m % 10) 0 f) in
        let turn = rw (sub-one (suc k)) at (judged_turn m fits some (suc k) (omega arith) digit) in
        rw (ne_eqb (m % 10) 0 (λ z. omega arith), rest (turn ∙ l)) (sym (last_digit m fits some))

-- ---- written from the last place to the first

before_turn : (x out : List ℕ) (a at : ℕ) → at ≤ length out → length x < at
    → written_before (at - 1) x (set out (at - 1) a) ≡ written_before at (x ++ (a ∷ [])) out
before_turn x out a zero h g = absurd (omega arith)
before_turn x out a (suc k) h g =
    let after : drop k (set out k a) ≡ a ∷ drop (suc k) out =
    rw (set_split out k a (omega arith)) (drop_at (take k out) (a ∷ drop (suc k) out) k
    (length-take-le k out (omega arith))) in
    let first : suc k - length (x ++ (a ∷ [])) ≡ k - length x = omega (arith, length-append x (a ∷ [])) in
    rw (sub-one (suc k), take-set-le (k - length x) out k a (omega arith), after, first, append_snoc)

before_nothing : (out : List ℕ) (at : ℕ) → written_before at [] out ≡ out
before_nothing out at = let z : at - 0 ≡ at = omega arith in rw z (take-append-drop at out)

-- the digits of `number` that m has lost stand in the places from `at` up to `end`; `before` was lent, and `out` is
-- what the places hold
pub record Putting (number end : ℕ) (before out : List ℕ) (at left m : ℕ) : Type 0 where
  pub to_do : written_before at (end_digits left m) out ≡ written_before end (end_digits number_digits number) before
  pub judged : are_digits left (decimal_digits m) ≡ number_fits number
  pub counted : length (decimal_digits m) + end ≡ at + length (decimal_digits number)
  pub places : at + 18 ≡ end + left
  pub at_most : left ≤ 18
  pub same_length : length out ≡ length before
  pub less : m ≤ number

module _ (number end : ℕ) (before : List ℕ) where
  pub putting_starts : Putting number end before before end number_digits number
  putting_starts = record {
    to_do = refl;
    judged = refl;
    counted = omega arith;
    places = omega arith;
    at_most = omega arith;
    same_length = refl;
    less = omega arith;
  }

  module _ {out : List ℕ} {at left m : ℕ} (p : Putting number end before out at left m) where
    pub putting_goes_on : number < 2 ^ 64 → 18 ≤ end → end ≤ length before → 0 < m → 1 ≤ left → 1 ≤ m % 10
        → Putting number end before (set out (at - 1) (m % 10)) (at - 1) (left - 1) (m / 10)
    putting_goes_on fits low high some more digit = record {
      to_do =
          before_turn (end_digits (left - 1) (m / 10)) out (m % 10) at
          (omega (arith, p.places, p.at_most, p.same_length))
          (omega (arith, p.places, low, ends_length (left - 1) (m / 10)))
          ∙ rw (ends_turn left m more digit) p.to_do;
      judged = judged_turn m (omega (arith, p.less)) some left more digit ∙ p.judged;
      counted = omega (arith, p.counted, p.places, low, digits_longer m (omega (arith, p.less)) some);
      places = omega (arith, p.places, low);
      at_most = omega (arith, p.at_most);
      same_length = length-set out (at - 1) (m % 10) ∙ p.same_length;
      less = omega (arith, p.less);
    }

    -- what stands where no digit is left to write
    pub putting_stops : end_digits left m ≡ [] → out ≡ written_before end (end_digits number_digits number) before
    putting_stops e = sym (before_nothing out at) ∙ rw e at p.to_do

    pub no_number : are_digits left (decimal_digits m) ≡ false → None ≡ number_start number end
    unfolding number_start
    no_number e = rw (sym p.judged ∙ e)

    pub a_number : m ≤ 0 → Some at ≡ number_start number end
    unfolding number_start
    a_number h =
        let start : at ≡ end - length (decimal_digits number) = omega (arith, p.counted, digits_none m h) in
        rw (sym p.judged ∙ judged_none left m h) (ap Some start)
