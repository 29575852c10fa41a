-- The text of a number is read as that number.
use Prim.Native.Nat.{ℕ, zero, suc, ◌+◌, ◌-◌, ◌*◌, ◌/◌, ◌%◌, ◌^◌, ◌<◌, ◌≤◌}
use mathlib.Core.Path.{◌≡◌, refl, ap, ◌∙◌}
use mathlib.Core.List.{List, [], ◌∷◌, ◌++◌, append-nil}
use mathlib.Core.Bool.{Bool, true, false}
use native.Mathlib.Omega.{arith}
use borrow.Author.Tests.{le-leb, ne_eqb, eqb-true, eqb-false}
use lib.ListN.{length}
use lib.Dec.{eqb}
use Rattle.decimal.specs.Ascii.{digit_zero}
use Rattle.decimal.specs.Value.{Found}
use Rattle.decimal.specs.Value.{is_digit, take_while, digit_run, value_from, is_value, found_at, unpadded_at}
use Rattle.decimal.specs.Text.{decimal_text}
use Rattle.decimal.proofs.TakeWhile.{while_next, while_append}
use Rattle.decimal.proofs.ValueLaws.{is_digit_lem}
use Rattle.decimal.proofs.TextLaws.{text_induction, text_small, text_few}

number_append : (v : ℕ) (s : List ℕ) (b : ℕ) → value_from v (s ++ (b ∷ [])) ≡ value_from v s * 10 + (b - digit_zero)
unfolding value_from
number_append v [] b = refl
number_append v (a ∷ s) b = number_append (v * 10 + (a - digit_zero)) s b

-- the digits of a text are its number
pub text_number : (n : ℕ) → value_from 0 (decimal_text n) ≡ n
unfolding value_from
text_number = text_induction (λ (n : ℕ) (s : List ℕ). value_from 0 s ≡ n) small large
  where
    small : (n : ℕ) → n < 10 → value_from 0 ((digit_zero + n) ∷ []) ≡ n
    small n h = omega arith

    large : (n : ℕ) → 10 ≤ n → value_from 0 (decimal_text (n / 10)) ≡ n / 10
        → value_from 0 (decimal_text (n / 10) ++ ((digit_zero + n % 10) ∷ [])) ≡ n
    large n h ih = number_append 0 (decimal_text (n / 10)) (digit_zero + n % 10) ∙ omega arith

-- a text is all digits
text_digits : (n : ℕ) → digit_run (decimal_text n) ≡ decimal_text n
unfolding take_while
text_digits = text_induction (λ (n : ℕ) (s : List ℕ). digit_run s ≡ s) small large
  where
    small : (n : ℕ) → n < 10 → digit_run ((digit_zero + n) ∷ []) ≡ (digit_zero + n) ∷ []
    small n h = while_next is_digit (digit_zero + n) [] (is_digit_lem (digit_zero + n) (omega arith) (omega arith))

    large : (n : ℕ) → 10 ≤ n → digit_run (decimal_text (n / 10)) ≡ decimal_text (n / 10)
        → digit_run (decimal_text (n / 10) ++ ((digit_zero + n % 10) ∷ []))
        ≡ decimal_text (n / 10) ++ ((digit_zero + n % 10) ∷ [])
    large n h ih =
        while_append is_digit (decimal_text (n / 10)) _ ih
        ∙ ap (λ (s : List ℕ). decimal_text (n / 10) ++ s) (small (n % 10) (omega arith))

-- the text of a number above 0 does not start with 0
data Starts : List ℕ → Type 0 where
  starts : {b : ℕ} {s : List ℕ} → (b ≡ digit_zero → ⊥) → Starts (b ∷ s)

starts_append : {s : List ℕ} → Starts s → (t : List ℕ) → Starts (s ++ t)
starts_append (starts z) t = starts z

text_starts : (n : ℕ) → 0 < n → Starts (decimal_text n)
text_starts =
    text_induction (λ (n : ℕ) (s : List ℕ). 0 < n → Starts s) (λ n h p. starts (omega arith))
    (λ n h ih p. starts_append (ih (omega arith)) ((digit_zero + n % 10) ∷ []))

starts_value : {s : List ℕ} (k : ℕ) → Starts s → length s ≤ k → is_value k s ≡ true
unfolding is_value
starts_value k (starts {b = b} {s = s} z) h = rw (ne_eqb b digit_zero z) (le-leb (length (b ∷ s)) k h)

text_value : (k n : ℕ) → n < 10 ^ k → is_value k (decimal_text n) ≡ true
unfolding is_value
text_value k n h = go (eqb n 0) refl
  where
    zero_value : is_value k (digit_zero ∷ []) ≡ true
    zero_value = refl

    some : (k : ℕ) → n < 10 ^ k → (n ≡ 0 → ⊥) → 0 < k
    some zero h z = absurd (z (omega arith))
    some (suc k) h z = omega arith

    go : (b : Bool) → eqb n 0 ≡ b → is_value k (decimal_text n) ≡ true
    go true e =
        ap (λ (m : ℕ). is_value k (decimal_text m)) (eqb-true n 0 e) ∙ ap (is_value k)
        (text_small 0 (omega arith)) ∙ zero_value
    go false e =
        starts_value k (text_starts n (omega (arith, eqb-false n 0 e))) (text_few k n (some k h (eqb-false n 0 e)) h)

-- the text of a number of at most k digits, with no further digit after it, is that number
pub text_back : (k n : ℕ) → n < 10 ^ k → (rest : List ℕ) → digit_run rest ≡ []
    → unpadded_at k (decimal_text n ++ rest) 0 ≡ Found n (length (decimal_text n))
unfolding unpadded_at found_at
text_back k n small rest e =
    rw (while_append is_digit (decimal_text n) rest (text_digits n), e, append-nil, text_value k n small, text_number)
    (ap (Found n) (omega arith))
