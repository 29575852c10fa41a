-- Zeros behind a number, one by one.
use mathlib.Core.Path.{◌≡◌, refl, ap, ◌∙◌}
use mathlib.Core.Bool.{Bool, true, false}
use Prim.Native.Nat.{ℕ, suc, ◌+◌, ◌*◌, ◌-◌, ◌/◌, ◌^◌, ◌≤◌, ◌<◌}
use native.Mathlib.Omega.{arith}
use borrow.Author.Tests.{leb-true, leb-false}
use lib.Dec.{leb}
use native.Mathlib.Nat.{pow-suc}
use lib.ListN.{length, length-append}
use Rattle.sheet.specs.Record.{decimal_digits, number_digits}
use Rattle.sheet.proofs.Digits.{digits_step, digits_at_most, digits_below}
use Rattle.lookup.specs.PaddedHalves.{number_with_zeros, padded_number}

module _ (m k : ℕ) where
  -- one zero more, and one digit more
  pub zeros_turn : k < number_digits → number_with_zeros (m * 10) (k + 1) ≡ number_with_zeros m k
  unfolding number_with_zeros
  zeros_turn h =
      let e : number_digits - k ≡ suc (number_digits - (k + 1)) = omega arith in
      rw (e, pow-suc 10 (number_digits - (k + 1))) (omega arith)

  pub zeros_end : number_digits ≤ k → number_with_zeros m k ≡ m
  unfolding number_with_zeros
  zeros_end h = let e : number_digits - k ≡ 0 = omega arith in rw e (omega arith)

-- ---- zeros behind a number's own digits

-- ten times a number has one digit more
ten_times : (m : ℕ) → 0 < m → m < 10 ^ 17 → length (decimal_digits (m * 10)) ≡ length (decimal_digits m) + 1
ten_times m some h =
    let tens : m * 10 / 10 ≡ m = omega arith in
    ap length (digits_step (m * 10) (omega arith) (λ e. omega arith)) ∙ rw (tens, length-append)

-- so that it is the same with zeros behind it
pub padded_turn : (m : ℕ) → 0 < m → m < 10 ^ 17 → padded_number (m * 10) ≡ padded_number m
unfolding padded_number
padded_turn m some h =
    let few : length (decimal_digits m) < number_digits = omega (arith, digits_at_most 17 m h) in
    ap (number_with_zeros (m * 10)) (ten_times m some h) ∙ zeros_turn m (length (decimal_digits m)) few

-- a number of 18 digits has none
pub padded_full : (m : ℕ) → 10 ^ 17 ≤ m → padded_number m ≡ m
unfolding padded_number
padded_full m h =
    zeros_end m (length (decimal_digits m))
    (go (leb (length (decimal_digits m)) 17) refl)
  where
    go : (b : Bool) → leb (length (decimal_digits m)) 17 ≡ b → number_digits ≤ length (decimal_digits m)
    go true e = absurd (omega (arith, digits_below 17 m (omega arith) (leb-true _ _ e)))
    go false e = leb-false _ _ e
