-- All bytes of a word with their lowest set bits cleared at once, and the place of the first that keeps a bit. A byte
-- is a code exactly if it keeps none.
use mathlib.Core.Path.{◌≡◌, refl, sym, ◌∙◌, ap, ap₂}
use mathlib.Core.Bool.{Bool, true, false, cond, not}
use Prim.Native.Nat.{ℕ, zero, suc, ◌+◌, ◌-◌, ◌*◌, ◌/◌, ◌%◌, ◌^◌, ◌<◌, ◌≤◌}
use native.Mathlib.Nat.{mod-lt, div-lt_iff_lt-mul, suc-mul, suc-add, zero-add, mul-one, pow-suc, add_comm, add-zero}
use native.Mathlib.Nat.{lt_of_le_of_lt}
use native.Mathlib.Omega.{arith}
use lib.Arith.{lt-one}
use lib.Bits.{bit_and, bit_or, and_le_l, or_add_and, or_lt, or_block, and_block}
use lib.Bits.{block_half, block_odd, shifted_half, shifted_even}
use lib.Count.{count_trailing_zeros, under}
use lib.Dec.{eqb, lit<}
use lib.Pow.{pow_pos, split}
use borrow.Author.Tests.{eqb-true, eqb-false, not-true, not-false}
use Rattle.sheet.specs.Direction.{is_code}
use Rattle.sheet.specs.Sheet.{first}
use Rattle.sheet.specs.Refusal.{both}
use Rattle.sheet.specs.Word.{bytes_of, first_bad, first_bad_of}
use Rattle.sheet.proofs.First.{none_first}
use Rattle.sheet.proofs.Within.{both_true}
use Rattle.directions.specs.LowestBits.{clear_lowest, clear_lowest_in}
use Rattle.std.specs.Prelude.{None}

-- ---- what the code computes

-- the number made of k bytes that are each b
unfoldable pub repeated : ℕ → ℕ → ℕ
repeated zero b = 0
repeated (suc k) b = repeated k b * 256 + b

ones_le : (k : ℕ) → repeated k 1 ≤ repeated k 128
unfolding repeated
ones_le zero = omega arith
ones_le (suc k) = omega (arith, ones_le k)

or_least : (a b : ℕ) → b ≤ bit_or a b
or_least a b = omega (arith, or_add_and a b, and_le_l a b)

-- the subtraction does not go below 0
pub can_take : (k w : ℕ) → repeated k 1 ≤ bit_or w (repeated k 128)
can_take k w = omega (arith, ones_le k, or_least w (repeated k 128))

take_bytes : (a b c : ℕ) → c ≤ a → 1 ≤ b → (a * 256 + b) - (c * 256 + 1) ≡ (a - c) * 256 + (b - 1)
take_bytes a b c h l = omega arith

-- one byte, as the code clears its lowest set bit
cleared_byte : ℕ → ℕ
cleared_byte x = bit_and x (bit_or x 128 - 1)

-- ---- what holds of each byte, computed for all 256

-- both tests pass, or neither does
same : Bool → Bool → Bool
same true b = b
same false b = not b

same_is : (a b : Bool) → same a b ≡ true → b ≡ a
unfolding same
same_is true b e = e
same_is false b e = not-true b e

every_byte : (test : ℕ → Bool) → first (λ x. not (test x)) 256 ≡ None → (x : ℕ) → x < 256 → test x ≡ true
every_byte test e x l = not-false (test x) (none_first (λ y. not (test y)) 256 e x l)

-- the code clears what the definition clears, and nothing is left exactly if the byte is a code
agrees : ℕ → Bool
unfolding cleared_byte clear_lowest is_code same
agrees x = both (eqb (cleared_byte x) (clear_lowest x)) (same (is_code x) (eqb (clear_lowest x) 0))

all_agree : first (λ x. not (agrees x)) 256 ≡ None
unfolding first agrees
all_agree = refl

agree : (x : ℕ) → x < 256 → (cleared_byte x ≡ clear_lowest x) × (eqb (clear_lowest x) 0 ≡ is_code x)
unfolding agrees
agree x l =
    let b = both_true (eqb (cleared_byte x) (clear_lowest x)) (same (is_code x) (eqb (clear_lowest x) 0))
    (every_byte agrees all_agree x l) in
    (eqb-true _ _ b.0, same_is (is_code x) (eqb (clear_lowest x) 0) b.1)

-- of a word that is one byte, with 0 in the others, all are codes exactly if the byte is
code_alone : ℕ → Bool
unfolding first_bad_of is_code same
code_alone x = same (is_code x) (eqb (first_bad_of x) 8)

all_alone : first (λ x. not (code_alone x)) 256 ≡ None
unfolding first code_alone
all_alone = refl

pub code_alone_lem : (x : ℕ) → x < 256 → eqb (first_bad_of x) 8 ≡ is_code x
unfolding code_alone
code_alone_lem x l = same_is (is_code x) (eqb (first_bad_of x) 8) (every_byte code_alone all_alone x l)

-- ---- all bytes of a word

clear_lt : (x : ℕ) → x < 256 → clear_lowest x < 256
unfolding clear_lowest
clear_lt x l = lt_of_le_of_lt (and_le_l x (x - 1)) l

-- the bytes that the code makes of the lowest byte and of the others, apart
cleared_parts : (w h l : ℕ) → l ≤ bit_or (w / 256) h
    → bit_and w (bit_or w (h * 256 + 128) - (l * 256 + 1))
    ≡ bit_and (w / 256) (bit_or (w / 256) h - l) * 256 + cleared_byte (w % 256)
unfolding cleared_byte
cleared_parts w h l below =
    let r : w % 256 < 256 = mod-lt w (pow_pos 8) in
    let set : bit_or w (h * 256 + 128) ≡ bit_or (w / 256) h * 256 + bit_or (w % 256) 128 =
    ap (λ (n : ℕ). bit_or n (h * 256 + 128)) (sym (split w 8)) ∙ or_block 8 (w / 256) h (w % 256) 128 r (lit< tt) in
    let high : 128 ≤ bit_or (w % 256) 128 = or_least (w % 256) 128 in
    let low : bit_or (w % 256) 128 < 256 = or_lt 8 (w % 256) 128 r (lit< tt) in
    ap (λ (n : ℕ). bit_and w (n - (l * 256 + 1))) set
    ∙ ap (bit_and w) (take_bytes (bit_or (w / 256) h) (bit_or (w % 256) 128) l below (omega arith))
    ∙ ap (λ (n : ℕ). bit_and n ((bit_or (w / 256) h - l) * 256 + (bit_or (w % 256) 128 - 1))) (sym (split w 8))
    ∙ and_block 8 (w / 256) (bit_or (w / 256) h - l) (w % 256) (bit_or (w % 256) 128 - 1) r (omega arith)

pub cleared_is : (k w : ℕ) → w < 256 ^ k → bit_and w (bit_or w (repeated k 128) - repeated k 1) ≡ clear_lowest_in k w
unfolding repeated clear_lowest_in
cleared_is zero w l = rw (lt-one l)
cleared_is (suc k) w l =
    cleared_parts w (repeated k 128) (repeated k 1) (can_take k (w / 256))
    ∙ ap₂ (λ (a b : ℕ). a * 256 + b)
    (cleared_is k (w / 256) ((div-lt_iff_lt-mul (pow_pos 8)).1 (rw (pow-suc 256 k) at l)))
    (agree (w % 256) (mod-lt w (pow_pos 8))).0

-- ---- the place of the lowest set bit

-- j zero bits below a number are j trailing zeros more
trailing_none : (j k q : ℕ) → count_trailing_zeros (j + k) (q * 2 ^ j) ≡ j + count_trailing_zeros k q
unfolding count_trailing_zeros
trailing_none zero k q = rw (zero-add k, mul-one q) (sym (zero-add _))
trailing_none (suc j) k q =
    rw (suc-add j k, shifted_even q j, shifted_half q j)
    (ap suc (trailing_none j k q) ∙ sym (suc-add j (count_trailing_zeros k q)))

-- within j bits that are not all 0
trailing_some : (j k q r : ℕ) → r < 2 ^ j → 0 < r → count_trailing_zeros (j + k) (q * 2 ^ j + r) < j
unfolding count_trailing_zeros
trailing_some zero k q r l some = absurd (omega arith)
trailing_some (suc j) k q r l some =
    rw (suc-add j k, block_odd q j r, block_half q j r) (go (r % 2) refl (trailing_some j k q (r / 2)))
  where
    go : (b : ℕ) → r % 2 ≡ b → (r / 2 < 2 ^ j → 0 < r / 2 → count_trailing_zeros (j + k) (q * 2 ^ j + r / 2) < j)
        → under b (count_trailing_zeros (j + k) (q * 2 ^ j + r / 2)) < suc j
    go zero e rest = omega (arith, rest ((div-lt_iff_lt-mul (pow_pos 1)).1 (rw (pow-suc 2 j) at l)) (omega arith))
    go (suc b) e rest = omega arith

-- the first of the lowest k bytes that keeps a bit is the first that is no code
pub first_kept : (k w : ℕ) → count_trailing_zeros (k * 8) (clear_lowest_in k w) / 8 ≡ first_bad (bytes_of k w)
unfolding clear_lowest_in bytes_of first_bad count_trailing_zeros
first_kept zero w = refl
first_kept (suc k) w =
    rw (suc-mul k 8 ∙ add_comm (k * 8) 8, sym (agree (w % 256) (mod-lt w (pow_pos 8))).1)
    (go (eqb (clear_lowest (w % 256)) 0) refl (first_kept k (w / 256)))
  where
    left : ℕ
    left = clear_lowest_in k (w / 256)

    go : (t : Bool) → eqb (clear_lowest (w % 256)) 0 ≡ t
        → count_trailing_zeros (k * 8) left / 8 ≡ first_bad (bytes_of k (w / 256))
        → count_trailing_zeros (8 + k * 8) (left * 256 + clear_lowest (w % 256)) / 8
        ≡ cond t (suc (first_bad (bytes_of k (w / 256)))) 0
    go true e rest =
        let z : clear_lowest (w % 256) ≡ 0 = eqb-true _ _ e in
        rw (z, add-zero (left * 256), trailing_none 8 (k * 8) left) (omega (arith, rest))
    go false e rest =
        let some : clear_lowest (w % 256) ≡ 0 → ⊥ = eqb-false _ _ e in
        let small : clear_lowest (w % 256) < 256 = clear_lt (w % 256) (mod-lt w (pow_pos 8)) in
        omega (arith, trailing_some 8 (k * 8) left (clear_lowest (w % 256)) small (omega arith))
