-- The bytes of a number that was made of bytes, and what the place of the first bad one tells of the bytes.
use mathlib.Core.Path.{◌≡◌, refl, sym, ◌∙◌, ap}
use mathlib.Core.Bool.{Bool, true, false, cond}
use mathlib.Core.List.{List, [], ◌∷◌}
use Prim.Native.Nat.{ℕ, zero, suc, ◌+◌, ◌-◌, ◌/◌, ◌<◌, ◌≤◌}
use native.Mathlib.Omega.{arith}
use lib.Arith.{digits_div, digits_mod}
use lib.ListN.{length, get_or}
use Rattle.sheet.specs.Direction.{is_code}
use Rattle.sheet.specs.Word.{bytes_of, number_at, first_bad, first_bad_of}

pub length_bytes : (k x : ℕ) → length (bytes_of k x) ≡ k
unfolding bytes_of
length_bytes zero x = refl
length_bytes (suc k) x = ap suc (length_bytes k (x / 256))

pub bytes_at : (k : ℕ) (bytes : List ℕ) (i j : ℕ) → ((m : ℕ) → get_or bytes m 0 < 256) → j < k
    → get_or (bytes_of k (number_at k bytes i)) j 0 ≡ get_or bytes (i + j) 0
unfolding bytes_of number_at
bytes_at zero bytes i j small l = absurd (omega arith)
bytes_at (suc k) bytes i zero small l =
    digits_mod (number_at k bytes (suc i)) (small i) ∙ ap (λ (m : ℕ). get_or bytes m 0) (omega arith)
bytes_at (suc k) bytes i (suc j) small l =
    ap (λ (x : ℕ). get_or (bytes_of k x) j 0) (digits_div (number_at k bytes (suc i)) (small i))
    ∙ bytes_at k bytes (suc i) j small (omega arith) ∙ ap (λ (m : ℕ). get_or bytes m 0) (omega arith)

-- all bytes before the first bad one are codes
pub codes_before : (bytes : List ℕ) (j : ℕ) → j < first_bad bytes → is_code (get_or bytes j 0) ≡ true
unfolding first_bad
codes_before [] j l = absurd (omega arith)
codes_before (b ∷ bytes) j l = go (is_code b) refl l (codes_before bytes) j refl
  where
    go : (t : Bool) → is_code b ≡ t → j < cond t (suc (first_bad bytes)) 0
        → ((i : ℕ) → i < first_bad bytes → is_code (get_or bytes i 0) ≡ true)
        → (i : ℕ) → i ≡ j → is_code (get_or (b ∷ bytes) i 0) ≡ true
    go true e l rest zero q = e
    go true e l rest (suc i) q = rest i (omega arith)
    go false e l rest i q = absurd (omega arith)

-- and the first bad one is none
pub bad_there : (bytes : List ℕ) → first_bad bytes < length bytes → is_code (get_or bytes (first_bad bytes) 0) ≡ false
unfolding first_bad
bad_there [] l = absurd (omega arith)
bad_there (b ∷ bytes) l = go (is_code b) refl l (bad_there bytes)
  where
    go : (t : Bool) → is_code b ≡ t → cond t (suc (first_bad bytes)) 0 < suc (length bytes)
        → (first_bad bytes < length bytes → is_code (get_or bytes (first_bad bytes) 0) ≡ false)
        → is_code (get_or (b ∷ bytes) (cond t (suc (first_bad bytes)) 0) 0) ≡ false
    go true e l rest = rest (omega arith)
    go false e l rest = e

-- if the word of the eight bytes from place i on has no bad byte, they are codes
pub word_codes : (bytes : List ℕ) (i : ℕ) → ((m : ℕ) → get_or bytes m 0 < 256) → 8 ≤ first_bad_of (number_at 8 bytes i)
    → (k : ℕ) → i ≤ k → k < i + 8 → is_code (get_or bytes k 0) ≡ true
unfolding first_bad_of
word_codes bytes i small none k h l =
    let e : i + (k - i) ≡ k = omega arith in
    ap (λ (m : ℕ). is_code (get_or bytes m 0)) (sym e) ∙ ap is_code (sym (bytes_at 8 bytes i (k - i) small (omega arith)))
    ∙ codes_before (bytes_of 8 (number_at 8 bytes i)) (k - i) (omega arith)
