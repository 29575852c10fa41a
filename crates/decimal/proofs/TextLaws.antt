-- Laws of a number as decimal text, and of a text written into a buffer.
use Prim.Native.Nat.{ℕ, zero, suc, ◌+◌, ◌-◌, ◌*◌, ◌/◌, ◌%◌, ◌^◌, ◌<◌, ◌≤◌}
use mathlib.Core.Path.{◌≡◌, refl, sym, ap, ◌∙◌}
use mathlib.Core.List.{List, [], ◌∷◌, ◌++◌, append_assoc}
use mathlib.Core.Bool.{Bool, true, false}
use native.Mathlib.Nat.{pow-suc, add_assoc}
use native.Mathlib.Omega.{arith}
use borrow.Author.Tests.{lt-ltb, le-ltb, ltb-true, ltb-false, le-leb, lt-leb}
use lib.ListN.{length, take, drop, set, length-append, length-drop}
use lib.Seq.{set_split, take_at, drop_at, length-take-le, take-set-le, drop-drop}
use lib.Dec.{ltb}
use Rattle.decimal.specs.Ascii.{digit_zero}
use Rattle.std.proofs.Common.{Some, None}
use Rattle.decimal.specs.Text.{text_within, decimal_text, overwrite, write_text}

within_small : (k n : ℕ) → n < 10 → text_within k n ≡ (digit_zero + n) ∷ []
unfolding text_within
within_small zero n h = refl
within_small (suc k) n h = rw (lt-ltb n 10 h)

within_large : (k n : ℕ) → 10 ≤ n → text_within (suc k) n ≡ text_within k (n / 10) ++ ((digit_zero + n % 10) ∷ [])
unfolding text_within
within_large k n h = rw (le-ltb n 10 h)

-- any bound that is not below the number gives the same text
within_same : (j k n : ℕ) → n ≤ j → n ≤ k → text_within j n ≡ text_within k n
within_same zero k n h g = within_small zero n (omega arith) ∙ sym (within_small k n (omega arith))
within_same (suc j) zero n h g = within_small (suc j) n (omega arith) ∙ sym (within_small zero n (omega arith))
within_same (suc j) (suc k) n h g = go (ltb n 10) refl (within_same j k (n / 10) (omega arith) (omega arith))
  where
    go : (b : Bool) → ltb n 10 ≡ b → text_within j (n / 10) ≡ text_within k (n / 10)
        → text_within (suc j) n ≡ text_within (suc k) n
    go true e ih = within_small (suc j) n (ltb-true n 10 e) ∙ sym (within_small (suc k) n (ltb-true n 10 e))
    go false e ih =
        within_large j n (ltb-false n 10 e)
        ∙ ap (λ (s : List ℕ). s ++ ((digit_zero + n % 10) ∷ [])) ih
        ∙ sym (within_large k n (ltb-false n 10 e))

pub text_small : (n : ℕ) → n < 10 → decimal_text n ≡ (digit_zero + n) ∷ []
unfolding decimal_text
text_small n h = within_small n n h

pub text_large : (n : ℕ) → 10 ≤ n → decimal_text n ≡ decimal_text (n / 10) ++ ((digit_zero + n % 10) ∷ [])
unfolding decimal_text
text_large zero h = absurd (omega arith)
text_large (suc k) h =
    within_large k (suc k) h
    ∙ ap (λ (s : List ℕ). s ++ ((digit_zero + suc k % 10) ∷ []))
    (within_same k (suc k / 10) (suc k / 10) (omega arith) (omega arith))

-- To show something of every text: of the digits, and of a text with one digit more.
pub text_induction : (P : ℕ → List ℕ → Type 0) → ((n : ℕ) → n < 10 → P n ((digit_zero + n) ∷ []))
    → ((n : ℕ) → 10 ≤ n → P (n / 10) (decimal_text (n / 10)) → P n (decimal_text (n / 10) ++ ((digit_zero + n % 10) ∷ [])))
    → (n : ℕ) → P n (decimal_text n)
text_induction P small large n = go n n (omega arith)
  where
    go : (k n : ℕ) → n ≤ k → P n (decimal_text n)
    go zero n h = rw (text_small n (omega arith)) (small n (omega arith))
    go (suc k) n h = pick (ltb n 10) refl (go k (n / 10) (omega arith))
      where
        pick : (b : Bool) → ltb n 10 ≡ b → P (n / 10) (decimal_text (n / 10)) → P n (decimal_text n)
        pick true e ih = rw (text_small n (ltb-true n 10 e)) (small n (ltb-true n 10 e))
        pick false e ih = rw (text_large n (ltb-false n 10 e)) (large n (ltb-false n 10 e) ih)

pub text_longer : (n : ℕ) → 10 ≤ n → length (decimal_text n) ≡ length (decimal_text (n / 10)) + 1
text_longer n h = ap length (text_large n h) ∙ length-append (decimal_text (n / 10)) ((digit_zero + n % 10) ∷ [])

pub text_some : (n : ℕ) → 0 < length (decimal_text n)
text_some =
    text_induction (λ (n : ℕ) (s : List ℕ). 0 < length s) (λ n h. omega arith)
    (λ n h ih. simp length-append (omega arith))

-- a number below 10 ^ k, k > 0, has at most k digits
pub text_few : (k n : ℕ) → 0 < k → n < 10 ^ k → length (decimal_text n) ≤ k
text_few k n p h =
    text_induction (λ (n : ℕ) (s : List ℕ). (k : ℕ) → 0 < k → n < 10 ^ k → length s ≤ k)
    (λ n h k p g. omega arith) more n k p h
  where
    more : (n : ℕ) → 10 ≤ n → ((k : ℕ) → 0 < k → n / 10 < 10 ^ k → length (decimal_text (n / 10)) ≤ k) → (k : ℕ) → 0 < k
        → n < 10 ^ k → length (decimal_text (n / 10) ++ ((digit_zero + n % 10) ∷ [])) ≤ k
    more n h ih zero p g = absurd (omega arith)
    more n h ih (suc zero) p g = absurd (omega arith)
    more n h ih (suc (suc k)) p g =
        let q : n < 10 ^ suc k * 10 = rw pow-suc at g in
        let l : length (decimal_text (n / 10)) ≤ suc k = ih (suc k) (omega arith) (omega arith) in
        simp length-append (omega arith)

pub text_64_bit : (n : ℕ) → n < 2 ^ 64 → length (decimal_text n) ≤ 20
text_64_bit n h = text_few 20 n (omega arith) (omega arith)

pub text_32_bit : (n : ℕ) → n < 2 ^ 32 → length (decimal_text n) ≤ 10
text_32_bit n h = text_few 10 n (omega arith) (omega arith)

pub text_below_100000 : (n : ℕ) → n < 100000 → length (decimal_text n) ≤ 5
text_below_100000 n h = text_few 5 n (omega arith) h

drop_set_here : (l : List ℕ) (i v : ℕ) → i < length l → drop i (set l i v) ≡ v ∷ drop (suc i) l
drop_set_here l i v h =
    rw (set_split l i v) (drop_at (take i l) (v ∷ drop (suc i) l) i (length-take-le i l (omega arith)))

module _ (buffer : List ℕ) (at : ℕ) where
  pub overwrite_length : (s : List ℕ) → at + length s ≤ length buffer → length (overwrite buffer at s) ≡ length buffer
  unfolding overwrite
  overwrite_length s h = simp (length-append, length-drop, length-take-le at buffer (omega arith)) (omega arith)

  -- a text of one byte
  pub overwrite_one : (b : ℕ) → at < length buffer → set buffer at b ≡ overwrite buffer at (b ∷ [])
  unfolding overwrite
  overwrite_one b h =
      let e : suc at ≡ at + 1 = omega arith in
      set_split buffer at b h ∙ ap (λ (k : ℕ). take at buffer ++ (b ∷ drop k buffer)) e

  -- a text whose last byte is written first
  pub overwrite_last : (s : List ℕ) (b : ℕ) → at + length s < length buffer
      → overwrite (set buffer (at + length s) b) at s ≡ overwrite buffer at (s ++ (b ∷ []))
  unfolding overwrite
  overwrite_last s b h =
      rw (
        take-set-le at buffer (at + length s) b (omega arith),
        drop_set_here buffer (at + length s) b h,
        length-append,
        append_assoc,
        next,
      )
    where
      next : at + (length s + 1) ≡ suc (at + length s)
      next = omega arith

  -- a text, and another after it
  pub overwrite_then : (s t : List ℕ) → at + length s + length t ≤ length buffer
      → overwrite (overwrite buffer at s) (at + length s) t ≡ overwrite buffer at (s ++ t)
  unfolding overwrite
  overwrite_then s t h =
      let n : ℕ = at + length s in
      let p : List ℕ = take at buffer ++ s in
      let lp : length p ≡ n = length-append (take at buffer) s ∙ ap (λ (k : ℕ). k + length s)
      (length-take-le at buffer (omega arith)) in
      let tail : drop (n + length t) (p ++ drop n buffer) ≡ drop (n + length t) buffer =
      sym (drop-drop (length t) n (p ++ drop n buffer)) ∙ ap (drop (length t))
      (drop_at p (drop n buffer) n lp) ∙ drop-drop (length t) n buffer in
      let k : at + length s + length t ≡ at + length (s ++ t) = add_assoc at (length s) (length t) ∙ ap
      (λ (j : ℕ). at + j) (sym (length-append s t)) in
      ap (λ (l : List ℕ). take n l ++ (t ++ drop (n + length t) l))
      (sym (append_assoc (take at buffer) s (drop n buffer)))
      ∙ ap (λ (l : List ℕ). l ++ (t ++ drop (n + length t) (p ++ drop n buffer))) (take_at p (drop n buffer) n lp)
      ∙ ap (λ (l : List ℕ). p ++ (t ++ l)) (tail ∙ ap (λ (j : ℕ). drop j buffer) k)
      ∙ append_assoc (take at buffer) s (t ++ drop (at + length (s ++ t)) buffer)
      ∙ ap (λ (l : List ℕ). take at buffer ++ l) (sym (append_assoc s t (drop (at + length (s ++ t)) buffer)))

  pub written : (text after : List ℕ) (next : ℕ) → at + length text ≤ length buffer → after ≡ overwrite buffer at text
      → next ≡ at + length text → record { answer = Some next; buffer = after } ≡ write_text text buffer at
  unfolding write_text
  written text after next h e n = rw (le-leb (at + length text) (length buffer) h, e, n)

  pub not_written : (text : List ℕ) → length buffer < at + length text
      → record { answer = None; buffer = buffer } ≡ write_text text buffer at
  unfolding write_text
  not_written text h = rw (lt-leb (at + length text) (length buffer) h)

  -- the last digit of a number above 9 is written before the others
  pub write_last_digit : (n end : ℕ) → 10 ≤ n → end ≡ at + length (decimal_text n) → end ≤ length buffer
      → overwrite (set buffer (end - 1) (digit_zero + n % 10)) at (decimal_text (n / 10)) ≡ overwrite buffer at
      (decimal_text n)
  write_last_digit n end h e g =
      let p : end - 1 ≡ at + length (decimal_text (n / 10)) = omega (arith, text_longer n h) in
      rw p
      (overwrite_last (decimal_text (n / 10)) (digit_zero + n % 10) (omega (arith, text_longer n h)) ∙ ap
      (overwrite buffer at) (sym (text_large n h)))

  pub write_first_digit : (n : ℕ) → n < 10 → at < length buffer
      → set buffer at (digit_zero + n) ≡ overwrite buffer at (decimal_text n)
  write_first_digit n h g = overwrite_one (digit_zero + n) g ∙ ap (overwrite buffer at) (sym (text_small n h))
