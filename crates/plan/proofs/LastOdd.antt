-- The digits of a label up to where its last odd digits start: of lists of digits, of their number, and of the label.
use mathlib.Core.Path.{◌≡◌, refl, sym, ap, ◌∙◌}
use mathlib.Core.Bool.{Bool, true, false, cond}
use mathlib.Core.List.{List, [], ◌∷◌, ◌++◌}
use Prim.Native.Nat.{ℕ, ◌/◌, ◌%◌, ◌^◌, ◌≤◌, ◌<◌}
use native.Mathlib.Omega.{arith}
use lib.Dec.{eqb}
use lib.ListN.{length, drop}
use lib.Seq.{take-append_seam, drop-append_seam}
use borrow.Author.Tests.{eq-eqb, ne_eqb, eqb-true, eqb-false}
use Rattle.sheet.specs.declared.Label.{Label}
use Rattle.sheet.specs.Record.{Digits, digits_none, digits_cons, number, number_from, decimal_digits, digits_of, record_of}
use Rattle.sheet.specs.Record.{label_of_numbers}
use Rattle.sheet.specs.Refusal.{both}
use Rattle.sheet.specs.Flow.{every, is_odd, is_label}
use Rattle.sheet.proofs.Digits.{digits_step, digits_zero, number_digits_lem, number_injective}
use Rattle.sheet.proofs.Records.{record_one_number, digits_record, record_is_label, label_shape, digits_drop}
use Rattle.sheet.proofs.Records.{first_short, first_below, first_full}
use Rattle.claims.specs.Parting.{Begins, begins_none, begins_on}
use Rattle.claims.proofs.Parting.{all_odd}
use Rattle.lookup.specs.Lookup.{greatest_depth}
use Rattle.plan.specs.Steps.{before_last_odd, label_before_last_odd}

-- ---- digits

-- all odd: none is left
pub none_left : (x : List ℕ) → all_odd x ≡ true → before_last_odd x ≡ []
unfolding before_last_odd
none_left [] e = refl
none_left (a ∷ x) e = rw e

left_none : (x : List ℕ) → before_last_odd x ≡ [] → all_odd x ≡ true
unfolding before_last_odd every
left_none [] e = refl
left_none (a ∷ x) e = go (all_odd (a ∷ x)) e
  where
    go : (b : Bool) → cond b [] (a ∷ before_last_odd x) ≡ [] → b ≡ true
    go true e = refl
    go false e = let z : ◌≡◌ {A = ℕ} 0 1 = cc in absurd (omega arith)

-- what is left begins them
pub begins_left : (x : List ℕ) → Begins (before_last_odd x) x
unfolding before_last_odd
begins_left [] = begins_none
begins_left (a ∷ x) = go (all_odd (a ∷ x)) (begins_left x)
  where
    go : (b : Bool) → Begins (before_last_odd x) x → Begins (cond b [] (a ∷ before_last_odd x)) (a ∷ x)
    go true r = begins_none
    go false r = begins_on r

begins_digits : {w x : List ℕ} → Begins w x → Digits 9 x → Digits 9 w
begins_digits begins_none d = digits_none
begins_digits (begins_on b) (digits_cons low high d) = digits_cons low high (begins_digits b d)

begins_most : {w x : List ℕ} → Begins w x → length w ≤ length x
begins_most begins_none = omega arith
begins_most (begins_on b) = omega (arith, begins_most b)

digits_left : (x : List ℕ) → Digits 9 x → Digits 9 (before_last_odd x)
digits_left x d = begins_digits (begins_left x) d

left_most : (x : List ℕ) → length (before_last_odd x) ≤ length x
left_most x = begins_most (begins_left x)

-- digits one after the other: where the last are all odd, the first decide
odd_join : (x y : List ℕ) → all_odd (x ++ y) ≡ both (all_odd x) (all_odd y)
unfolding every
odd_join [] y = refl
odd_join (a ∷ x) y = rw (odd_join x y) (go (is_odd a))
  where
    go : (b : Bool) → both b (both (all_odd x) (all_odd y)) ≡ both (both b (all_odd x)) (all_odd y)
    go true = refl
    go false = refl

left_join : (x y : List ℕ) → before_last_odd (x ++ y) ≡ cond (all_odd y) (before_last_odd x) (x ++ before_last_odd y)
unfolding before_last_odd
left_join [] y = go (all_odd y) refl
  where
    go : (b : Bool) → all_odd y ≡ b → before_last_odd y ≡ cond b [] (before_last_odd y)
    go true e = none_left y e
    go false e = refl
left_join (a ∷ x) y =
    rw (odd_join (a ∷ x) y, left_join x y) (go (all_odd (a ∷ x)) (all_odd y))
  where
    go : (s t : Bool) → cond (both s t) [] (a ∷ cond t (before_last_odd x) (x ++ before_last_odd y))
        ≡ cond t (cond s [] (a ∷ before_last_odd x)) (a ∷ (x ++ before_last_odd y))
    go true true = refl
    go true false = refl
    go false true = refl
    go false false = refl

-- ---- their number

module _ (m : ℕ) (fits : m < 10 ^ 20) where
  -- an odd digit at the end is taken off
  pub last_odd : m % 2 ≡ 1 → before_last_odd (decimal_digits m) ≡ before_last_odd (decimal_digits (m / 10))
  unfolding every
  last_odd odd =
      let last : m % 10 % 2 ≡ 1 = omega arith in
      rw (digits_step m fits (λ e. omega arith), left_join, eq-eqb (m % 10 % 2) 1 last)

  -- another stays, and so does 0
  pub last_even : (m % 2 ≡ 1 → ⊥) → number (before_last_odd (decimal_digits m)) ≡ m
  unfolding every before_last_odd number number_from
  last_even even = go (eqb m 0) refl
    where
      go : (b : Bool) → eqb m 0 ≡ b → number (before_last_odd (decimal_digits m)) ≡ m
      go true e =
          let none : m ≡ 0 = eqb-true m 0 e in
          rw (none, digits_zero)
      go false e =
          let step = digits_step m fits (eqb-false m 0 e) in
          let kept : before_last_odd (decimal_digits m) ≡ decimal_digits (m / 10) ++ (m % 10 ∷ []) =
          rw (step, left_join, ne_eqb (m % 10 % 2) 1 (λ h. even (omega arith))) in
          ap number (kept ∙ sym step) ∙ number_digits_lem m fits

-- ---- labels

-- digits of which none is left have the number 0, and only those
zero_left : (x : List ℕ) → Digits 9 x → number (before_last_odd x) ≡ 0 → all_odd x ≡ true
unfolding number number_from
zero_left x d e = left_none x (number_injective (before_last_odd x) [] (digits_left x d) digits_none e)

left_zero : (x : List ℕ) → all_odd x ≡ true → number (before_last_odd x) ≡ 0
unfolding number number_from
left_zero x e = rw (none_left x e)

some_left : (x : List ℕ) → (number (before_last_odd x) ≡ 0 → ⊥) → all_odd x ≡ false
some_left x some = go (all_odd x) refl
  where
    go : (b : Bool) → all_odd x ≡ b → b ≡ false
    go true e = absurd (some (left_zero x e))
    go false e = refl

-- the number 0 has no digit
zero_odd : (m : ℕ) → m ≡ 0 → all_odd (decimal_digits m) ≡ true
unfolding every
zero_odd m e = rw (e, digits_zero)

module _ (p : Label) (e : is_label greatest_depth p ≡ true) where
  abbrev first : List ℕ
  first = decimal_digits p.first

  abbrev rest : List ℕ
  rest = decimal_digits p.rest

  rest_digits : Digits 9 rest
  unfolding digits_of
  rest_digits =
      let d : Digits 9 (drop (length first) (first ++ rest)) =
      digits_drop (length first) (label_shape greatest_depth p e).1 in
      rw drop-append_seam at d

  -- where the digits of the second number are all odd, or there are none, it is 0
  pub label_in_first : number (before_last_odd rest) ≡ 0
      → label_of_numbers (number (before_last_odd first)) 0 ≡ label_before_last_odd p
  unfolding label_before_last_odd digits_of
  label_in_first none =
      let short : length (before_last_odd first) ≤ 18 =
      omega (arith, left_most first, first_short p (label_shape greatest_depth p e).0) in
      rw (left_join first rest, zero_left rest rest_digits none) (sym (record_one_number (before_last_odd first) short))

  -- else the first stays
  pub label_in_rest : (number (before_last_odd rest) ≡ 0 → ⊥)
      → label_of_numbers p.first (number (before_last_odd rest)) ≡ label_before_last_odd p
  unfolding label_before_last_odd digits_of record_of
  label_in_rest some =
      let s = label_shape greatest_depth p e in
      let full : length first ≡ 18 = first_full p s.0
      (λ z. some (left_zero rest (zero_odd p.rest z))) in
      rw (left_join first rest, some_left rest some, ← full, take-append_seam, drop-append_seam, back)
    where
      back : number first ≡ p.first
      back = number_digits_lem p.first (omega (arith, first_below p (label_shape greatest_depth p e).0))

  -- its digits
  pub digits_of_left : digits_of (label_before_last_odd p) ≡ before_last_odd (digits_of p)
  unfolding label_before_last_odd
  digits_of_left =
      let s = label_shape greatest_depth p e in
      digits_record (before_last_odd (digits_of p)) (digits_left (digits_of p) s.1)
      (omega (arith, left_most (digits_of p), s.2))

  -- it is a label
  pub left_is_label : is_label greatest_depth (label_before_last_odd p) ≡ true
  unfolding label_before_last_odd
  left_is_label =
      let s = label_shape greatest_depth p e in
      let most : length (before_last_odd (digits_of p)) ≤ greatest_depth = omega (arith, left_most (digits_of p), s.2) in
      record_is_label (before_last_odd (digits_of p)) (digits_left (digits_of p) s.1) most greatest_depth most
