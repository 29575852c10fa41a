-- Bytes shifted to their places and joined are the number made of these bytes.
use mathlib.Core.Path.{◌≡◌, refl, sym, ◌∙◌, ap}
use mathlib.Core.List.{List}
use Prim.Native.Nat.{ℕ, zero, suc, ◌+◌, ◌*◌, ◌%◌, ◌^◌, ◌<◌}
use native.Mathlib.Nat.{suc-mul, add-mul, mul_assoc, add_assoc, add-suc, suc-add, add-zero}
use native.Mathlib.Omega.{arith}
use lib.Arith.{digits_lt}
use lib.Bits.{bit_or, or_shifted_r}
use lib.ListN.{get_or}
use lib.Pow.{pow-add, shl_exact}
use Rattle.sheet.specs.Word.{number_at}

-- a byte more is eight bits more
pow_byte : (k : ℕ) → 2 ^ (suc k * 8) ≡ 2 ^ (k * 8) * 256
pow_byte k = ap (λ (n : ℕ). 2 ^ n) (suc-mul k 8) ∙ pow-add 2 (k * 8) 8

regrouped : (t p m b : ℕ) → (t * p + m) * 256 + b ≡ t * (p * 256) + (m * 256 + b)
regrouped t p m b =
    ap (λ (x : ℕ). x + b) (add-mul (t * p) m 256 ∙ ap (λ (x : ℕ). x + m * 256) (mul_assoc t p 256))
    ∙ add_assoc (t * (p * 256)) (m * 256) b

module _ (bytes : List ℕ) (small : (m : ℕ) → get_or bytes m 0 < 256) where
  number_lt : (k i : ℕ) → number_at k bytes i < 2 ^ (k * 8)
  unfolding number_at
  number_lt zero i = omega arith
  number_lt (suc k) i = rw (pow_byte k) (digits_lt (number_lt k (suc i)) (small i))

  -- the highest byte, and the number made of those below it
  number_top : (k i : ℕ) → number_at (suc k) bytes i ≡ get_or bytes (i + k) 0 * 2 ^ (k * 8) + number_at k bytes i
  unfolding number_at
  number_top zero i = rw (add-zero i) (omega arith)
  number_top (suc k) i =
      ap (λ (x : ℕ). x * 256 + get_or bytes i 0) (number_top k (suc i))
      ∙ regrouped (get_or bytes (suc i + k) 0) (2 ^ (k * 8)) (number_at k bytes (suc i)) (get_or bytes i 0)
      ∙ rw (pow_byte k, add-suc i k, suc-add i k) refl

  -- what the code computes
  unfoldable pub joined : ℕ → ℕ → ℕ
  joined i zero = get_or bytes i 0
  joined i (suc k) = bit_or (joined i k) ((get_or bytes (i + suc k) 0 * 2 ^ (suc k * 8)) % 2 ^ 64)

  pub joined_is : (i k : ℕ) → k < 8 → joined i k ≡ number_at (suc k) bytes i
  unfolding joined number_at
  joined_is i zero l = omega arith
  joined_is i (suc k) l =
      ap (λ (x : ℕ). bit_or x ((get_or bytes (i + suc k) 0 * 2 ^ (suc k * 8)) % 2 ^ 64)) (joined_is i k (omega arith))
      ∙ ap (bit_or (number_at (suc k) bytes i)) (shl_exact 8 (suc k * 8) 64 (small (i + suc k)) (omega arith))
      ∙ or_shifted_r (get_or bytes (i + suc k) 0) (suc k * 8) (number_at (suc k) bytes i) (number_lt (suc k) i)
      ∙ sym (number_top (suc k) i)
