-- A padded label in two halves: they are its two numbers with zeros behind them, and comparing the halves in turn
-- compares the whole. So dictionary order of records is that of their digits.
use mathlib.Core.Path.{◌≡◌, refl, sym, ap, ◌∙◌}
use mathlib.Core.Bool.{Bool, true, false, cond}
use mathlib.Core.List.{List, [], ◌∷◌}
use Prim.Native.Nat.{ℕ, zero, suc, ◌+◌, ◌*◌, ◌-◌, ◌^◌, ◌≤◌, ◌<◌}
use native.Mathlib.Omega.{arith}
use native.Mathlib.Nat.{mul-le-mul_right, mul_assoc, add-mul, pow-suc, zero-add, suc-add}
use lib.Dec.{eqb, ltb}
use lib.ListN.{length, take, drop, length-take, length-drop}
use borrow.Author.Tests.{lt-ltb, le-ltb, ltb-true, ltb-false, eqb-true, eqb-false}
use Rattle.claims.specs.Dictionary.{is_before}
use Rattle.sheet.specs.declared.Label.{Label}
use Rattle.sheet.specs.Record.{Digits, number, decimal_digits, record_of, digits_of}
use Rattle.sheet.specs.Flow.{is_label}
use Rattle.sheet.proofs.Digits.{digits_number, digits_zero, digits_below}
use Rattle.sheet.proofs.Records.{digits_take, digits_drop, record_digits, label_shape, first_full}
use Rattle.digits.proofs.Numbers.{digits_counted}
use Rattle.sheet.proofs.Records.{first_short as record-first-short, rest_short as record-rest-short}
use Rattle.sheet.proofs.Records.{first_below, rest_below}
use Rattle.lookup.specs.Lookup.{greatest_depth}
use Rattle.lookup.specs.Padded.{padded, padded_end}
use Rattle.lookup.specs.PaddedHalves.{number_with_zeros, padded_number}
use Rattle.lookup.proofs.PaddedOrder.{value, span, value_below, number_value}
use Rattle.lookup.proofs.PaddedOrder.{known, padded_value, padded_end_lem, before_padded}

-- ---- numbers in halves

-- two numbers a * m + b and c * m + d compared by a and c, and where those are equal by b and d
halves_less : (m a b c d : ℕ) → b < m → d ≤ m
    → ltb (a * m + b) (c * m + d) ≡ cond (eqb a c) (ltb b d) (ltb a c)
halves_less m a b c d h g = go (eqb a c) refl (ltb a c) refl (ltb b d) refl
  where
    go : (s : Bool) → eqb a c ≡ s → (t : Bool) → ltb a c ≡ t → (u : Bool) → ltb b d ≡ u
        → ltb (a * m + b) (c * m + d) ≡ cond s u t
    go true e t f true k =
        let same : a ≡ c = eqb-true a c e in
        rw same (lt-ltb (c * m + b) (c * m + d) (omega (arith, ltb-true b d k)))
    go true e t f false k =
        let same : a ≡ c = eqb-true a c e in
        rw same (le-ltb (c * m + b) (c * m + d) (omega (arith, ltb-false b d k)))
    go false e true f u k =
        let less : suc a ≤ c = ltb-true a c f in
        lt-ltb (a * m + b) (c * m + d) (omega (arith, mul-le-mul_right m less))
    go false e false f u k =
        let more : suc c ≤ a = omega (arith, ltb-false a c f, eqb-false a c e) in
        le-ltb (a * m + b) (c * m + d) (omega (arith, mul-le-mul_right m more))

power_join : (k j : ℕ) → 10 ^ (k + j) ≡ 10 ^ k * 10 ^ j
power_join zero j = rw (zero-add j) (omega arith)
power_join (suc k) j = rw (suc-add k j, pow-suc 10 (k + j), pow-suc 10 k, power_join k j) (omega arith)

-- digits in k + j places: the first k, then the others
value_split : (k j : ℕ) (x : List ℕ) → value (k + j) x ≡ value k x * 10 ^ j + value j (drop k x)
unfolding value
value_split zero j [] = omega arith
value_split zero j (a ∷ x) = rw (zero-add j) (omega arith)
value_split (suc k) j [] = omega arith
value_split (suc k) j (a ∷ x) =
    rw (suc-add k j, power_join k j, value_split k j x, ← mul_assoc a (10 ^ k) (10 ^ j), add-mul (a * 10 ^ k))
    (omega arith)

-- only the first k digits stand in k places
value_take : (k : ℕ) (x : List ℕ) → value k x ≡ value k (take k x)
unfolding value
value_take zero [] = refl
value_take zero (a ∷ x) = refl
value_take (suc k) [] = refl
value_take (suc k) (a ∷ x) = rw (value_take k x)

-- ---- a label's two numbers

-- a number of at most 18 digits is below the power of ten with as many zeros
pub short_below : (m : ℕ) → length (decimal_digits m) ≤ 18 → m < 10 ^ length (decimal_digits m)
short_below m h = digits_below (length (decimal_digits m)) m (omega arith) (omega arith)

-- a number of at most 18 digits, with zeros behind them
number_padded : (m : ℕ) (x : List ℕ) → Digits 9 x → length x ≤ 18 → number x ≡ m → padded_number m ≡ value 18 x
unfolding padded_number number_with_zeros number
number_padded m x d h e =
    let digits : decimal_digits m ≡ x = ap decimal_digits (sym e) ∙ digits_number x d (omega arith) in
    ap (λ (y : List ℕ). m * 10 ^ (18 - length y)) digits
    ∙ ap (λ (n : ℕ). n * 10 ^ (18 - length x)) (sym e)
    ∙ number_value 18 0 x h ∙ omega arith

module _ (p : Label) (e : is_label greatest_depth p ≡ true) where
  abbrev x : List ℕ
  x = digits_of p

  digits : Digits 9 x
  digits = (known p e).digits

  first_most : length (take 18 x) ≤ 18
  first_most = rw (length-take 18 x) (omega arith)

  rest_most : length (drop 18 x) ≤ 18
  rest_most = rw (length-drop 18 x) (omega (arith, (known p e).most))

  first_number : number (take 18 x) ≡ p.first
  unfolding record_of
  first_number = ap (λ (q : Label). q.first) (record_digits p (label_shape greatest_depth p e).0)

  rest_number : number (drop 18 x) ≡ p.rest
  unfolding record_of
  rest_number = ap (λ (q : Label). q.rest) (record_digits p (label_shape greatest_depth p e).0)

  -- each has at most 18 digits
  pub first_short : length (decimal_digits p.first) ≤ 18
  first_short = record-first-short p (label_shape greatest_depth p e).0

  pub rest_short : length (decimal_digits p.rest) ≤ 18
  rest_short = record-rest-short p (label_shape greatest_depth p e).0

  -- and is below 10 ^ 18
  pub first_small : p.first < 10 ^ 18
  first_small = first_below p (label_shape greatest_depth p e).0

  pub rest_small : p.rest < 10 ^ 18
  rest_small = rest_below p (label_shape greatest_depth p e).0

  rest_value : padded_number p.rest ≡ value 18 (drop 18 x)
  rest_value = number_padded p.rest (drop 18 x) (digits_drop 18 digits) rest_most rest_number

  pub padded_rest_below : padded_number p.rest < 10 ^ 18
  padded_rest_below = rw rest_value (value_below 18 (drop 18 x) (digits_drop 18 digits) rest_most)

  -- the padded label is its two padded numbers
  pub padded_halves : padded p ≡ padded_number p.first * 10 ^ 18 + padded_number p.rest
  padded_halves =
      let first_value = number_padded p.first (take 18 x) (digits_take 18 digits) first_most first_number
      ∙ sym (value_take 18 x) in
      padded_value p (known p e) ∙ value_split 18 18 x ∙ rw (first_value, rest_value)

  -- below a number in halves exactly if the first half is less, or is the same and the second is less
  pub below_halves : (a b : ℕ) → b ≤ 10 ^ 18
      → ltb (padded p) (a * 10 ^ 18 + b)
      ≡ cond (eqb (padded_number p.first) a) (ltb (padded_number p.rest) b) (ltb (padded_number p.first) a)
  below_halves a b h =
      rw padded_halves
      (halves_less (10 ^ 18) (padded_number p.first) (padded_number p.rest) a b padded_rest_below h)

-- Dictionary order of records is that of their digits: the labels p and q stand as their digits do exactly if their
-- numbers do, with zeros behind them up to 18 digits, first the first numbers and then the second
pub dictionary_order : (p q : Label) → is_label greatest_depth p ≡ true → is_label greatest_depth q ≡ true
    → is_before (digits_of p) (digits_of q)
    ≡ cond (eqb (padded_number p.first) (padded_number q.first))
    (ltb (padded_number p.rest) (padded_number q.rest))
    (ltb (padded_number p.first) (padded_number q.first))
dictionary_order p q e f =
    let small : padded_number q.rest ≤ 10 ^ 18 = omega (arith, padded_rest_below q f) in
    before_padded p q e f ∙ rw (padded_halves q f)
    (below_halves p e (padded_number q.first) (padded_number q.rest) small)

-- ---- the end of the labels that begin with leading digits

-- zeros behind a number of k digits, or behind the one past the last of those
pub zeros_most : (m k : ℕ) → m ≤ 10 ^ k → k ≤ 18 → number_with_zeros m k ≤ 10 ^ 18
unfolding number_with_zeros
zeros_most m k h l =
    let whole : k + (18 - k) ≡ 18 = omega arith in
    let power : 10 ^ 18 ≡ 10 ^ k * 10 ^ (18 - k) = ap (λ (n : ℕ). 10 ^ n) (sym whole) ∙ power_join k (18 - k) in
    rw power (mul-le-mul_right (10 ^ (18 - k)) h)

pub zero_padded : (m : ℕ) → m ≡ 0 → padded_number m ≡ 0
unfolding padded_number number_with_zeros
zero_padded m e = rw e (omega arith)

-- one more at the last digit, in the first half
more_halves : (m s t : ℕ) → (m + 1) * s * t + 0 ≡ m * s * t + 0 + s * t
more_halves m s t = let more : (m + 1) * s ≡ m * s + s = omega arith in rw (more, add-mul (m * s) s t) (omega arith)

module _ (p : Label) (e : is_label greatest_depth p ≡ true) where
  end_padded : padded_end p ≡ padded p + span greatest_depth (length (digits_of p))
  end_padded =
      padded_end_lem p (known p e)
      ∙ ap (λ (n : ℕ). n + span greatest_depth (length (digits_of p))) (sym (padded_value p (known p e)))

  -- of leading digits without a second number the end is one more in the first half
  pub end_first : p.rest ≡ 0
      → number_with_zeros (p.first + 1) (length (decimal_digits p.first)) * 10 ^ 18 + 0 ≡ padded_end p
  unfolding number_with_zeros padded_number
  end_first none =
      let count = length (decimal_digits p.first) in
      let no-rest : length (decimal_digits p.rest) ≡ 0 = ap (λ (m : ℕ). length (decimal_digits m)) none
      ∙ ap length digits_zero in
      let places : greatest_depth - length (digits_of p) ≡ 18 - count + 18 =
      omega (arith, digits_counted p, first_short p e) in
      rw (end_padded, places, power_join (18 - count) 18, padded_halves p e, zero_padded p.rest none)
      (more_halves p.first (10 ^ (18 - count)) (10 ^ 18))

  -- of others, in the second
  pub end_rest : (p.rest ≡ 0 → ⊥)
      → p.first * 10 ^ 18 + number_with_zeros (p.rest + 1) (length (decimal_digits p.rest)) ≡ padded_end p
  unfolding number_with_zeros padded_number
  end_rest some =
      let count = length (decimal_digits p.rest) in
      let full : length (decimal_digits p.first) ≡ 18 = first_full p (label_shape greatest_depth p e).0 some in
      let places : greatest_depth - length (digits_of p) ≡ 18 - count =
      omega (arith, digits_counted p, rest_short p e) in
      rw (end_padded, places, padded_halves p e, full) (omega arith)
