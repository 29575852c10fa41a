-- Laws of digits and of their decimal number: each gives the other back.
use mathlib.Core.Path.{◌≡◌, refl, sym, ◌∙◌}
use mathlib.Core.Bool.{Bool, true, false, cond}
use mathlib.Core.List.{List, [], ◌∷◌, ◌++◌, append_assoc, append-nil}
use Prim.Native.Nat.{ℕ, zero, suc, ◌+◌, ◌*◌, ◌/◌, ◌%◌, ◌-◌, ◌^◌, ◌≤◌, ◌<◌, zero-le}
use native.Mathlib.Omega.{arith}
use native.Mathlib.Nat.{zero-add, suc-add, add-suc, mul-le-mul_right, pow-suc, pow-le-pow_right}
use lib.Dec.{eqb, leb}
use lib.ListN.{length, length-append}
use borrow.Author.Tests.{eq-eqb, ne_eqb, eqb-true, leb-true, leb-false}
use Rattle.sheet.specs.Record.{Digits, digits_none, digits_cons, number_from, number, digits_within, decimal_digits}

-- digits up to a bound lie below a larger one
pub digits_wider : {top wider : ℕ} {x : List ℕ} → top ≤ wider → Digits top x → Digits wider x
digits_wider h digits_none = digits_none
digits_wider h (digits_cons low high d) = digits_cons low (omega arith) (digits_wider h d)

-- ---- the number of digits

number_join : (m : ℕ) (x y : List ℕ) → number_from m (x ++ y) ≡ number_from (number_from m x) y
unfolding number_from
number_join m [] y = refl
number_join m (a ∷ x) y = number_join (m * 10 + a) x y

-- one digit more
pub number_snoc : (x : List ℕ) (a : ℕ) → number (x ++ (a ∷ [])) ≡ number x * 10 + a
unfolding number number_from
number_snoc x a = number_join 0 x (a ∷ [])

bound_from : (m : ℕ) (x : List ℕ) → Digits 9 x → number_from m x < suc m * 10 ^ length x
unfolding number_from
bound_from m [] digits_none = omega arith
bound_from m (a ∷ x) (digits_cons low high d) =
    let rest = bound_from (m * 10 + a) x d in
    let one : suc (m * 10 + a) ≤ suc m * 10 = omega arith in
    rw (pow-suc 10 (length x)) (omega (arith, mul-le-mul_right (10 ^ length x) one))

pub number_bound : (x : List ℕ) → Digits 9 x → number x < 10 ^ length x
unfolding number
number_bound x d = omega (arith, bound_from 0 x d)

-- at most k digits
pub number_below : (k : ℕ) (x : List ℕ) → Digits 9 x → length x ≤ k → number x < 10 ^ k
number_below k x d h = omega (arith, number_bound x d, pow-le-pow_right {n = 10} (omega arith) h)

-- at most 18 digits fit 64 bits
pub number_fits_lem : (x : List ℕ) → Digits 9 x → length x ≤ 18 → number x < 2 ^ 64
number_fits_lem x d h = omega (arith, number_below 18 x d h)

-- ---- the digits of a number

zero_within : (k : ℕ) → digits_within k 0 ≡ []
unfolding digits_within
zero_within zero = refl
zero_within (suc k) = refl

pub digits_zero : decimal_digits 0 ≡ []
unfolding decimal_digits
digits_zero = zero_within 20

-- one digit, the last, and the digits before it
digits_last : (k m : ℕ) → (m ≡ 0 → ⊥) → digits_within (suc k) m ≡ digits_within k (m / 10) ++ (m % 10 ∷ [])
unfolding digits_within
digits_last k m some = rw (ne_eqb m 0 some)

-- where k places are enough, one more changes nothing
digits_enough : (k m : ℕ) → m < 10 ^ k → digits_within (suc k) m ≡ digits_within k m
unfolding digits_within
digits_enough zero m h = rw (eq-eqb m 0 (omega arith))
digits_enough (suc k) m h = rw (digits_enough k (m / 10) (omega (arith, pow-suc 10 k)))

pub digits_step : (m : ℕ) → m < 10 ^ 20 → (m ≡ 0 → ⊥) → decimal_digits m ≡ decimal_digits (m / 10) ++ (m % 10 ∷ [])
unfolding decimal_digits
digits_step m h some = digits_last 19 m some ∙ rw (digits_enough 19 (m / 10) (omega arith))

-- ---- each gives the other back

-- the digits of a number with one digit more
digits_snoc : (k m a : ℕ) → 1 ≤ a → a ≤ 9 → digits_within (suc k) (m * 10 + a) ≡ digits_within k m ++ (a ∷ [])
digits_snoc k m a low high =
    let tens : (m * 10 + a) / 10 ≡ m = omega arith in
    let ones : (m * 10 + a) % 10 ≡ a = omega arith in
    digits_last k (m * 10 + a) (λ e. omega arith) ∙ rw (tens, ones)

digits_number_from : (k m : ℕ) (x : List ℕ) → Digits 9 x
    → digits_within (length x + k) (number_from m x) ≡ digits_within k m ++ x
unfolding number_from
digits_number_from k m [] digits_none = rw (zero-add k, append-nil)
digits_number_from k m (a ∷ x) (digits_cons low high d) =
    rw (
      suc-add,
      ← add-suc (length x) k,
      digits_number_from (suc k) (m * 10 + a) x d,
      digits_snoc k m a low high,
      append_assoc,
    )

-- the digits of a label's number are the label's
pub digits_within_lem : (k : ℕ) (x : List ℕ) → Digits 9 x → length x ≤ k → digits_within k (number x) ≡ x
unfolding number
digits_within_lem k x d h =
    let e : k ≡ length x + (k - length x) = omega arith in
    rw e (digits_number_from (k - length x) 0 x d ∙ rw (zero_within (k - length x)))

pub digits_number : (x : List ℕ) → Digits 9 x → length x ≤ 20 → decimal_digits (number x) ≡ x
unfolding decimal_digits
digits_number x d h = digits_within_lem 20 x d h

-- two labels with one number are one label
pub number_injective : (x y : List ℕ) → Digits 9 x → Digits 9 y → number x ≡ number y → x ≡ y
number_injective x y d f e =
    let a = digits_within_lem (length x + length y) x d (omega arith) in
    let b = digits_within_lem (length x + length y) y f (omega arith) in
    sym a ∙ rw e b

-- the number of a number's digits is that number
number_within : (k m : ℕ) → m < 10 ^ k → number (digits_within k m) ≡ m
unfolding digits_within number number_from
number_within zero m h = omega arith
number_within (suc k) m h = go (eqb m 0) refl (number_within k (m / 10) (omega (arith, pow-suc 10 k)))
  where
    go : (b : Bool) → eqb m 0 ≡ b → number (digits_within k (m / 10)) ≡ m / 10
        → number (cond b [] (digits_within k (m / 10) ++ (m % 10 ∷ []))) ≡ m
    go true e rest = omega (arith, eqb-true m 0 e)
    go false e rest = omega (arith, number_snoc (digits_within k (m / 10)) (m % 10))

pub number_digits_lem : (m : ℕ) → m < 10 ^ 20 → number (decimal_digits m) ≡ m
unfolding decimal_digits
number_digits_lem m h = number_within 20 m h

-- ---- how many digits there are

-- k places hold at most k digits
at_most_within : (k m : ℕ) → length (digits_within k m) ≤ k
unfolding digits_within
at_most_within zero m = omega arith
at_most_within (suc k) m = go (eqb m 0) (at_most_within k (m / 10))
  where
    go : (b : Bool) → length (digits_within k (m / 10)) ≤ k
        → length (cond b [] (digits_within k (m / 10) ++ (m % 10 ∷ []))) ≤ suc k
    go true rest = omega arith
    go false rest = simp length-append (omega arith)

pub digits_at_most_20 : (m : ℕ) → length (decimal_digits m) ≤ 20
unfolding decimal_digits
digits_at_most_20 m = at_most_within 20 m

count_within : (f k m : ℕ) → m < 10 ^ k → length (digits_within f m) ≤ k
unfolding digits_within
count_within zero k m h = omega arith
count_within (suc f) zero m h = rw (eq-eqb m 0 (omega arith)) (omega arith)
count_within (suc f) (suc k) m h = go (eqb m 0) (count_within f k (m / 10) (omega (arith, pow-suc 10 k)))
  where
    go : (b : Bool) → length (digits_within f (m / 10)) ≤ k
        → length (cond b [] (digits_within f (m / 10) ++ (m % 10 ∷ []))) ≤ suc k
    go true rest = omega arith
    go false rest = simp length-append (omega arith)

-- a number below 10 ^ k has at most k digits
pub digits_at_most : (k m : ℕ) → m < 10 ^ k → length (decimal_digits m) ≤ k
unfolding decimal_digits
digits_at_most k m h = count_within 20 k m h

-- as many digits as there are places for, one more than k
over_within : (f k m : ℕ) → k < f → 10 ^ k ≤ m → k < length (digits_within f m)
unfolding digits_within
over_within zero k m l h = absurd (omega arith)
over_within (suc f) zero m l h = rw (ne_eqb m 0 (λ e. omega arith), length-append) (omega arith)
over_within (suc f) (suc k) m l h =
    let some : 1 ≤ 10 ^ k = pow-le-pow_right {n = 10} (omega arith) zero-le in
    let rest = over_within f k (m / 10) (omega arith) (omega (arith, pow-suc 10 k)) in
    rw (ne_eqb m 0 (λ e. omega (arith, pow-suc 10 k)), length-append) (omega arith)

-- a number of at most k digits is below 10 ^ k
pub digits_below : (k m : ℕ) → k < 20 → length (decimal_digits m) ≤ k → m < 10 ^ k
unfolding decimal_digits
digits_below k m l h = go (leb (10 ^ k) m) refl
  where
    go : (b : Bool) → leb (10 ^ k) m ≡ b → m < 10 ^ k
    go true e = absurd (omega (arith, over_within 20 k m l (leb-true _ _ e)))
    go false e = leb-false _ _ e
