-- The text of a label, tried by computation; and its laws: its two numbers in decimal, one after the other, where they
-- are not 0.
use mathlib.Core.Path.{◌≡◌, refl, sym, ap, ◌∙◌}
use mathlib.Core.List.{List, [], ◌∷◌, ◌++◌, append-nil}
use Prim.Native.Nat.{ℕ, zero, suc, ◌+◌, ◌/◌, ◌%◌, ◌^◌, ◌<◌, ◌≤◌}
use native.Mathlib.Omega.{arith}
use lib.ListN.{length, length-append}
use Rattle.decimal.specs.Ascii.{ascii, digit_zero}
use Rattle.decimal.specs.Text.{decimal_text}
use Rattle.decimal.proofs.TextLaws.{text_induction, text_small, text_some}
use Rattle.sheet.specs.declared.Label.{Label}
use Rattle.sheet.specs.Record.{decimal_digits, label_of_numbers, digits_of, no_digits}
use Rattle.sheet.proofs.Digits.{digits_zero, digits_step, digits_at_most_20}
use Rattle.listing.specs.Listing.{digit_bytes, digits_text, label_text}

-- ---- tried by computation

pub no_digits_text : label_text no_digits ≡ ascii "0"
unfolding label_text
no_digits_text = refl

pub two_digits_text : label_text (label_of_numbers 91 0) ≡ ascii "91"
unfolding label_text
two_digits_text = refl

pub text_of_18 : label_text (label_of_numbers 123456789123456789 0) ≡ ascii "123456789123456789"
unfolding label_text
text_of_18 = refl

pub text_of_19 : label_text (label_of_numbers 123456789123456789 5) ≡ ascii "1234567891234567895"
unfolding label_text
text_of_19 = refl

pub text_of_36 : label_text (label_of_numbers 123456789123456789 987654321987654321)
    ≡ ascii "123456789123456789987654321987654321"
unfolding label_text
text_of_36 = refl

-- numbers that are no label, as they are lent: a 0 among the digits, and a second number beside a 0
pub text_with_0 : label_text (label_of_numbers 10 30) ≡ ascii "1030"
unfolding label_text
text_with_0 = refl

pub text_of_second : label_text (label_of_numbers 0 30) ≡ ascii "30"
unfolding label_text
text_of_second = refl

pub longest_text : length (label_text (label_of_numbers 18446744073709551615 18446744073709551615)) ≡ 40
unfolding label_text
longest_text = refl

-- ---- digits as bytes

bytes_join : (x y : List ℕ) → digit_bytes (x ++ y) ≡ digit_bytes x ++ digit_bytes y
unfolding digit_bytes
bytes_join [] y = refl
bytes_join (a ∷ x) y = ap (λ (s : List ℕ). (digit_zero + a) ∷ s) (bytes_join x y)

bytes_length : (x : List ℕ) → length (digit_bytes x) ≡ length x
unfolding digit_bytes
bytes_length [] = refl
bytes_length (a ∷ x) = ap suc (bytes_length x)

text_bytes : (x : List ℕ) → 0 < length x → digits_text x ≡ digit_bytes x
unfolding digits_text
text_bytes [] some = absurd (omega arith)
text_bytes (a ∷ x) some = refl

-- a number other than 0 in decimal is its digits as bytes
number_bytes : (n : ℕ) → 0 < n → n < 10 ^ 20 → decimal_text n ≡ digit_bytes (decimal_digits n)
unfolding digit_bytes
number_bytes =
    text_induction (λ (n : ℕ) (s : List ℕ). 0 < n → n < 10 ^ 20 → s ≡ digit_bytes (decimal_digits n)) small large
  where
    last : (n : ℕ) → 0 < n → n < 10 ^ 20
        → digit_bytes (decimal_digits n) ≡ digit_bytes (decimal_digits (n / 10)) ++ ((digit_zero + n % 10) ∷ [])
    last n some h = rw (digits_step n h (λ e. omega arith)) (bytes_join (decimal_digits (n / 10)) (n % 10 ∷ []))

    small : (n : ℕ) → n < 10 → 0 < n → n < 10 ^ 20 → (digit_zero + n) ∷ [] ≡ digit_bytes (decimal_digits n)
    small n below some h =
        let tenth : n / 10 ≡ 0 = omega arith in
        let ones : n % 10 ≡ n = omega arith in
        sym (last n some h ∙ rw (tenth, ones, digits_zero))

    large : (n : ℕ) → 10 ≤ n
        → (0 < n / 10 → n / 10 < 10 ^ 20 → decimal_text (n / 10) ≡ digit_bytes (decimal_digits (n / 10))) → 0 < n
        → n < 10 ^ 20 → decimal_text (n / 10) ++ ((digit_zero + n % 10) ∷ []) ≡ digit_bytes (decimal_digits n)
    large n above ih some h =
        ap (λ (s : List ℕ). s ++ ((digit_zero + n % 10) ∷ [])) (ih (omega arith) (omega arith)) ∙ sym (last n some h)

digits_some : (n : ℕ) → 0 < n → n < 10 ^ 20 → 0 < length (decimal_digits n)
digits_some n some h =
    omega (arith, text_some n, ap length (number_bytes n some h), bytes_length (decimal_digits n))

-- the digits of a number as text, where 0 has none
number_text : (n : ℕ) → n < 10 ^ 20 → digits_text (decimal_digits n) ≡ decimal_text n
unfolding digits_text
number_text zero h = rw digits_zero (sym (text_small 0 (omega arith)))
number_text (suc n) h =
    text_bytes (decimal_digits (suc n)) (digits_some (suc n) (omega arith) h)
    ∙ sym (number_bytes (suc n) (omega arith) h)

-- ---- the two numbers of a label

module _ (p : Label) where
  pub text_of_first : p.first < 2 ^ 64 → p.rest ≡ 0 → label_text p ≡ decimal_text p.first
  unfolding label_text digits_of
  text_of_first h none = rw (none, digits_zero, append-nil) (number_text p.first (omega arith))

  pub text_of_rest : p.rest < 2 ^ 64 → p.first ≡ 0 → label_text p ≡ decimal_text p.rest
  unfolding label_text digits_of
  text_of_rest h none = rw (none, digits_zero) (number_text p.rest (omega arith))

  pub text_of_both : p.first < 2 ^ 64 → p.rest < 2 ^ 64 → (p.first ≡ 0 → ⊥) → (p.rest ≡ 0 → ⊥)
      → label_text p ≡ decimal_text p.first ++ decimal_text p.rest
  unfolding label_text digits_of
  text_of_both h g first rest =
      let some : 0 < length (decimal_digits p.first ++ decimal_digits p.rest) =
      rw (length-append (decimal_digits p.first) (decimal_digits p.rest))
      (omega (arith, digits_some p.first (omega arith) (omega arith))) in
      text_bytes (decimal_digits p.first ++ decimal_digits p.rest) some
      ∙ bytes_join (decimal_digits p.first) (decimal_digits p.rest)
      ∙ rw (number_bytes p.first (omega arith) (omega arith), number_bytes p.rest (omega arith) (omega arith))

-- ---- how long it is

text_few_digits : (k : ℕ) (x : List ℕ) → 0 < k → length x ≤ k → length (digits_text x) ≤ k
unfolding digits_text
text_few_digits k [] some h = omega arith
text_few_digits k (a ∷ x) some h = omega (arith, bytes_length (a ∷ x))

-- a label of at most k digits
pub label_few : (k : ℕ) (p : Label) → 0 < k → length (digits_of p) ≤ k → length (label_text p) ≤ k
unfolding label_text
label_few k p some h = text_few_digits k (digits_of p) some h

-- any two numbers
pub label_most : (p : Label) → length (label_text p) ≤ 40
unfolding digits_of
label_most p =
    label_few 40 p (omega arith)
    (rw (length-append (decimal_digits p.first) (decimal_digits p.rest))
    (omega (arith, digits_at_most_20 p.first, digits_at_most_20 p.rest)))
