-- Laws of prefixes: none, with a digit more, and that a digit more fits.
use mathlib.Core.Path.{◌≡◌, refl, sym, ap}
use mathlib.Core.Bool.{Bool, true, false}
use mathlib.Core.List.{List, [], ◌∷◌, ◌++◌}
use Prim.Native.Nat.{ℕ, ◌+◌, ◌*◌, ◌^◌, ◌≤◌, ◌<◌}
use native.Mathlib.Omega.{arith}
use lib.Dec.{leb}
use lib.ListN.{length, take, drop, length-append, length-drop}
use lib.Seq.{take-append-le, drop-append-le, length-take-le}
use borrow.Author.Tests.{leb-true, leb-false}
use Rattle.sheet.specs.declared.Label.{Label}
use Rattle.sheet.specs.Record.{Digits, digits_none, digits_cons, number, number_from, label_of_numbers, record_of}
use Rattle.sheet.proofs.Digits.{number_snoc, number_below, digits_number, digits_at_most}
use Rattle.sheet.proofs.Records.{record_one_number, digits_take, digits_drop}
use Rattle.rivers.specs.Prefix.{Prefix}

pub one_more : {x : List ℕ} {a : ℕ} → Digits 9 x → 1 ≤ a → a ≤ 9 → Digits 9 (x ++ (a ∷ []))
one_more digits_none low high = digits_cons low high digits_none
one_more (digits_cons l h d) low high = digits_cons l h (one_more d low high)

-- no digit is gathered
unfoldable pub prefix_none : (digits : ℕ) → digits ≤ 36 → Prefix (label_of_numbers 0 0) digits
unfolding record_of number number_from
prefix_none digits h = record { gathered = []; held = refl; one_to_nine = digits_none; room = omega arith }

-- a prefix that may have some more digits may have one more
pub prefix_one : {prefix : Label} {digits : ℕ} → Prefix prefix digits → (digits ≡ 0 → ⊥) → Prefix prefix 1
prefix_one p some =
    record { gathered = p.gathered; held = p.held; one_to_nine = p.one_to_nine; room = omega (arith, p.room) }

-- a digit takes the place of one that was left
unfoldable pub prefix_more : {prefix next : Label} {digits left digit : ℕ} → (p : Prefix prefix digits) → left < digits
    → 1 ≤ digit → digit ≤ 9
    → next ≡ record_of (p.gathered ++ (digit ∷ [])) → Prefix next left
prefix_more {digit = digit} p less low high e = record {
  gathered = p.gathered ++ (digit ∷ []);
  held = e;
  one_to_nine = one_more p.one_to_nine low high;
  room = rw (length-append p.gathered (digit ∷ [])) (omega (arith, p.room));
}

-- ---- a digit more

module _ (x : List ℕ) (d : Digits 9 x) where
  -- 18 digits or more: the first number has 18
  first_long : 18 ≤ length x → 10 ^ 17 ≤ (record_of x).first
  unfolding record_of
  first_long h = go (leb (10 ^ 17) (number (take 18 x))) refl
    where
      go : (b : Bool) → leb (10 ^ 17) (number (take 18 x)) ≡ b → 10 ^ 17 ≤ number (take 18 x)
      go true e = leb-true _ _ e
      go false e =
          let whole : length (take 18 x) ≡ 18 = length-take-le 18 x h in
          let back = digits_number (take 18 x) (digits_take 18 d) (omega (arith, whole)) in
          let few = digits_at_most 17 (number (take 18 x)) (leb-false _ _ e) in
          absurd (omega (arith, whole, few, ap length back))

  first_short : length x ≤ 17 → (record_of x).first < 10 ^ 17
  first_short h = rw (record_one_number x (omega arith)) (number_below 17 x d h)

  pub rest_short : length x ≤ 35 → (record_of x).rest < 10 ^ 17
  unfolding record_of
  rest_short h = number_below 17 (drop 18 x) (digits_drop 18 d) (rw (length-drop 18 x) (omega arith))

  -- which of the two numbers a digit more goes to
  pub few_first : (record_of x).first < 10 ^ 17 → length x ≤ 17
  few_first h = go (leb 18 (length x)) refl
    where
      go : (b : Bool) → leb 18 (length x) ≡ b → length x ≤ 17
      go true e = absurd (omega (arith, h, first_long (leb-true 18 (length x) e)))
      go false e = omega (arith, leb-false 18 (length x) e)

  pub many_first : 10 ^ 17 ≤ (record_of x).first → 18 ≤ length x
  many_first h = go (leb 18 (length x)) refl
    where
      go : (b : Bool) → leb 18 (length x) ≡ b → 18 ≤ length x
      go true e = leb-true 18 (length x) e
      go false e = absurd (omega (arith, h, first_short (omega (arith, leb-false 18 (length x) e))))

  pub more_first : (a : ℕ) → length x ≤ 17
      → label_of_numbers ((record_of x).first * 10 + a) 0 ≡ record_of (x ++ (a ∷ []))
  more_first a h =
      let longer : length (x ++ (a ∷ [])) ≤ 18 = rw (length-append x (a ∷ [])) (omega arith) in
      rw (record_one_number x (omega arith), record_one_number (x ++ (a ∷ [])) longer)
      (ap (λ (m : ℕ). label_of_numbers m 0) (sym (number_snoc x a)))

  pub more_rest : (a : ℕ) → 18 ≤ length x
      → label_of_numbers (record_of x).first ((record_of x).rest * 10 + a) ≡ record_of (x ++ (a ∷ []))
  unfolding record_of
  more_rest a h =
      rw (take-append-le 18 x (a ∷ []) h, drop-append-le 18 x (a ∷ []) h)
      (ap (label_of_numbers (number (take 18 x))) (sym (number_snoc (drop 18 x) a)))

-- a digit more can be written to the second number
pub prefix_rest_fits : {prefix : Label} → Prefix prefix 1 → prefix.rest < 10 ^ 17
prefix_rest_fits p = rw p.held (rest_short p.gathered p.one_to_nine (omega (arith, p.room)))
