-- Laws of records: digits and record give each other back on labels, and two labels are the same exactly if their
-- digits are.
use mathlib.Core.Path.{◌≡◌, refl, sym, ap, ◌∙◌}
use mathlib.Core.Bool.{Bool, true, false, cond, true≢false}
use mathlib.Core.List.{List, [], ◌++◌, append-nil}
use mathlib.Core.Logic.{◌≢◌}
use Prim.Native.Nat.{ℕ, zero, suc, ◌+◌, ◌^◌, ◌≤◌, ◌<◌}
use native.Mathlib.Omega.{arith}
use lib.Dec.{eqb, leb}
use lib.ListN.{length, take, drop, length-take, length-drop, take-append-drop, drop_of_length-le}
use lib.Seq.{take_all, take-append_seam, drop-append_seam}
use borrow.Author.Tests.{eq-eqb, ne_eqb, eqb-true, eqb-false, le-leb, leb-true, leb-false}
use Rattle.sheet.specs.declared.Label.{Label}
use Rattle.sheet.specs.Record.{Digits, digits_none, digits_cons, number_from, number, decimal_digits}
use Rattle.sheet.specs.Record.{label_of_numbers, number_digits, record_of, digits_of, is_record, same_label}
use Rattle.sheet.specs.Refusal.{both}
use Rattle.sheet.specs.Flow.{is_label}
use Rattle.sheet.proofs.Digits.{number_fits_lem, digits_zero, digits_number, number_digits_lem, number_injective}
use Rattle.sheet.proofs.Digits.{digits_below}
use Rattle.sheet.proofs.Within.{both_true, digits_label, label_digits_lem}

-- ---- parts of digits

pub digits_take : (k : ℕ) {x : List ℕ} → Digits 9 x → Digits 9 (take k x)
digits_take zero d = digits_none
digits_take (suc k) digits_none = digits_none
digits_take (suc k) (digits_cons low high d) = digits_cons low high (digits_take k d)

pub digits_drop : (k : ℕ) {x : List ℕ} → Digits 9 x → Digits 9 (drop k x)
digits_drop zero d = d
digits_drop (suc k) digits_none = digits_none
digits_drop (suc k) (digits_cons low high d) = digits_drop k d

pub digits_join : {x y : List ℕ} → Digits 9 x → Digits 9 y → Digits 9 (x ++ y)
digits_join digits_none e = e
digits_join (digits_cons low high d) e = digits_cons low high (digits_join d e)

take_short : (k : ℕ) (x : List ℕ) → length (take k x) ≤ k
take_short k x = rw (length-take k x) (omega arith)

drop_short : (k m : ℕ) (x : List ℕ) → length x ≤ k + m → length (drop k x) ≤ m
drop_short k m x h = rw (length-drop k x) (omega arith)

-- ---- from digits to the record and back

-- where there is a 19th digit, the first 18 are whole
first_whole : (x : List ℕ) → eqb (number (drop number_digits x)) 0 ≡ false → 18 ≤ length x
unfolding number number_from
first_whole x e = go (leb 18 (length x)) refl
  where
    go : (b : Bool) → leb 18 (length x) ≡ b → 18 ≤ length x
    go true f = leb-true 18 (length x) f
    go false f =
        let none : drop 18 x ≡ [] = drop_of_length-le x {i = 18} (omega (arith, leb-false 18 (length x) f)) in
        absurd (eqb-false (number (drop 18 x)) 0 e (rw none))

-- at most 18 digits are one number
pub record_one_number : (x : List ℕ) → length x ≤ 18 → record_of x ≡ label_of_numbers (number x) 0
unfolding record_of number number_from
record_one_number x h = rw (take_all 18 x h, drop_of_length-le x h)

module _ (x : List ℕ) (d : Digits 9 x) (h : length x ≤ 36) where
  first_digits : decimal_digits (number (take number_digits x)) ≡ take number_digits x
  first_digits = digits_number _ (digits_take 18 d) (omega (arith, take_short 18 x))

  rest_digits : decimal_digits (number (drop number_digits x)) ≡ drop number_digits x
  rest_digits = digits_number _ (digits_drop 18 d) (omega (arith, drop_short 18 18 x h))

  pub digits_record : digits_of (record_of x) ≡ x
  unfolding digits_of record_of
  digits_record = rw (first_digits, rest_digits) (take-append-drop 18 x)

  pub record_is : is_record (record_of x) ≡ true
  unfolding is_record record_of
  record_is =
      rw (
        first_digits,
        rest_digits,
        le-leb _ 18 (take_short 18 x),
        le-leb _ 18 (drop_short 18 18 x h),
      )
      (go (eqb (number (drop number_digits x)) 0) refl)
    where
      go : (b : Bool) → eqb (number (drop number_digits x)) 0 ≡ b
          → cond b true (leb number_digits (length (take number_digits x))) ≡ true
      go true e = refl
      go false e = le-leb 18 (length (take 18 x)) (rw (length-take 18 x) (omega (arith, first_whole x e)))

  pub first_fits : (record_of x).first < 2 ^ 64
  unfolding record_of
  first_fits = number_fits_lem _ (digits_take 18 d) (take_short 18 x)

  pub rest_fits : (record_of x).rest < 2 ^ 64
  unfolding record_of
  rest_fits = number_fits_lem _ (digits_drop 18 d) (drop_short 18 18 x h)

  pub record_is_label : (depth : ℕ) → length x ≤ depth → is_label depth (record_of x) ≡ true
  unfolding is_label
  record_is_label depth l = rw (record_is, digits_record, digits_label depth x d l)

-- a record gives the digits of which it is made
module _ (p : Label) (e : is_record p ≡ true) where
  -- the three tests
  tests : (leb (length (decimal_digits p.first)) 18 ≡ true) × (leb (length (decimal_digits p.rest)) 18 ≡ true)
      × (cond (eqb p.rest 0) true (leb 18 (length (decimal_digits p.first))) ≡ true)
  unfolding is_record
  tests =
      let beside : Bool = cond (eqb p.rest 0) true (leb 18 (length (decimal_digits p.first))) in
      let rest : Bool = leb (length (decimal_digits p.rest)) 18 in
      let b = both_true (leb (length (decimal_digits p.first)) 18) (both rest beside) e in
      let d = both_true rest beside b.1 in
      (b.0, d.0, d.1)

  pub first_short : length (decimal_digits p.first) ≤ 18
  first_short = leb-true _ _ tests.0

  pub rest_short : length (decimal_digits p.rest) ≤ 18
  rest_short = leb-true _ _ tests.1

  -- the first number is below 10 ^ 18, and so is the second
  pub first_below : p.first < 10 ^ 18
  first_below = digits_below 18 p.first (omega arith) first_short

  pub rest_below : p.rest < 10 ^ 18
  rest_below = digits_below 18 p.rest (omega arith) rest_short

  -- and where the second is not 0, the first has 18 digits
  pub first_full : (p.rest ≡ 0 → ⊥) → length (decimal_digits p.first) ≡ 18
  first_full some =
      let whole : leb 18 (length (decimal_digits p.first)) ≡ true = rw (ne_eqb p.rest 0 some) at tests.2 in
      omega (arith, first_short, leb-true 18 (length (decimal_digits p.first)) whole)

  pub record_digits : record_of (digits_of p) ≡ p
  unfolding record_of digits_of
  record_digits = go (eqb p.rest 0) refl
    where
      first_back : number (decimal_digits p.first) ≡ p.first
      first_back = number_digits_lem p.first (omega (arith, first_below))

      rest_back : number (decimal_digits p.rest) ≡ p.rest
      rest_back = number_digits_lem p.rest (omega (arith, rest_below))

      go : (b : Bool) → eqb p.rest 0 ≡ b
          → label_of_numbers (number (take number_digits (decimal_digits p.first ++ decimal_digits p.rest)))
          (number (drop number_digits (decimal_digits p.first ++ decimal_digits p.rest)))
          ≡ p
      go true f =
          let none : p.rest ≡ 0 = eqb-true _ _ f in
          let empty : decimal_digits p.rest ≡ [] = rw none digits_zero in
          rw (empty, append-nil, take_all 18 _ first_short, drop_of_length-le _ first_short, first_back)
          (ap (label_of_numbers p.first) (sym none))
      go false f =
          let full = first_full (eqb-false _ _ f) in
          rw (← full, take-append_seam, drop-append_seam, first_back, rest_back)

-- ---- labels

-- the digits of a label
pub label_shape : (depth : ℕ) (p : Label) → is_label depth p ≡ true
    → (is_record p ≡ true) × Digits 9 (digits_of p) × (length (digits_of p) ≤ depth)
unfolding is_label
label_shape depth p e =
    let b = both_true _ _ e in
    let d = label_digits_lem depth (digits_of p) b.1 in
    (b.0, d.0, d.1)

-- two labels with the same digits are the same
pub same_digits_lem : (p q : Label) → is_record p ≡ true → is_record q ≡ true → digits_of p ≡ digits_of q → p ≡ q
same_digits_lem p q e f d = sym (record_digits p e) ∙ rw d (record_digits q f)

-- the digits of a record
pub record_injective : (x y : List ℕ) → Digits 9 x → Digits 9 y → record_of x ≡ record_of y → x ≡ y
unfolding record_of
record_injective x y d f e =
    let a = number_injective (take 18 x) (take 18 y) (digits_take 18 d) (digits_take 18 f)
    (ap (λ (p : Label). p.first) e) in
    let b = number_injective (drop 18 x) (drop 18 y) (digits_drop 18 d) (digits_drop 18 f)
    (ap (λ (p : Label). p.rest) e) in
    sym (take-append-drop 18 x) ∙ rw (a, b) (take-append-drop 18 y)

module _ (p q : Label) where
  pub same_true : same_label p q ≡ true → p ≡ q
  unfolding same_label
  same_true e =
      let b = both_true (eqb p.first q.first) (eqb p.rest q.rest) e in
      let first : p.first ≡ q.first = eqb-true _ _ b.0 in
      let rest : p.rest ≡ q.rest = eqb-true _ _ b.1 in
      ap (λ (m : ℕ). label_of_numbers m p.rest) first ∙ ap (label_of_numbers q.first) rest

  pub same_is : p ≡ q → same_label p q ≡ true
  unfolding same_label
  same_is e =
      rw (
        eq-eqb p.first q.first (ap (λ (p : Label). p.first) e),
        eq-eqb p.rest q.rest (ap (λ (p : Label). p.rest) e),
      )

  pub same_false : same_label p q ≡ false → p ≢ q
  same_false e f = true≢false (sym (same_is f) ∙ e)

  pub same_not : p ≢ q → same_label p q ≡ false
  same_not n = go (same_label p q) refl
    where
      go : (b : Bool) → same_label p q ≡ b → b ≡ false
      go true e = absurd (n (same_true e))
      go false e = refl
