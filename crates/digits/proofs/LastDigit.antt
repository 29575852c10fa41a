-- Laws of a number's digits from the last to the first: judged by how many there are and by each, and as they are
-- written.
use mathlib.Core.Path.{◌≡◌, refl, ap, ◌∙◌}
use mathlib.Core.Bool.{Bool, true, false, cond}
use mathlib.Core.List.{List, [], ◌∷◌, ◌++◌, append_assoc}
use Prim.Native.Nat.{ℕ, zero, suc, ◌/◌, ◌%◌, ◌-◌, ◌^◌, ◌≤◌, ◌<◌}
use native.Mathlib.Numerals.{add-one, sub-one}
use native.Mathlib.Omega.{arith}
use borrow.Author.Tests.{le-leb, lt-leb}
use lib.Dec.{leb, leb-suc-suc}
use lib.ListN.{length, drop, take, set, length-append}
use lib.Seq.{set_split, drop_at, length-take-le}
use Rattle.sheet.specs.Record.{decimal_digits}
use Rattle.sheet.specs.Refusal.{written}
use Rattle.sheet.specs.Flow.{every, are_digits}
use Rattle.sheet.proofs.Digits.{digits_zero, digits_step}
use Rattle.sheet.proofs.Within.{within_yes, within_below}

-- ---- digits judged, from the last one

every_snoc : (test : ℕ → Bool) (x : List ℕ) (a : ℕ) → every test (x ++ (a ∷ [])) ≡ cond (test a) (every test x) false
unfolding every
every_snoc test [] a = refl
every_snoc test (b ∷ x) a = rw (every_snoc test x a) (go (test a) (test b) (every test x))
  where
    go : (s t r : Bool) → cond t (cond s r false) false ≡ cond s (cond t r false) false
    go true t r = refl
    go false true r = refl
    go false false r = refl

pub no_digits_lem : (m : ℕ) → m ≤ 0 → decimal_digits m ≡ []
no_digits_lem m h = let z : m ≡ 0 = omega arith in rw z digits_zero

pub digits_none : (m : ℕ) → m ≤ 0 → length (decimal_digits m) ≡ 0
digits_none m h = ap length (no_digits_lem m h)

pub digits_some : (m : ℕ) → 0 < length (decimal_digits m) → 0 < m
digits_some zero h = absurd (omega (arith, digits_none 0 (omega arith)))
digits_some (suc m) h = omega arith

pub judged_none : (depth m : ℕ) → m ≤ 0 → are_digits depth (decimal_digits m) ≡ true
unfolding are_digits every
judged_none depth m h = rw (no_digits_lem m h, le-leb 0 depth (omega arith))

module _ (m : ℕ) (fits : m < 2 ^ 64) (some : 0 < m) where
  pub last_digit : decimal_digits m ≡ decimal_digits (m / 10) ++ (m % 10 ∷ [])
  last_digit = digits_step m (omega arith) (λ e. omega arith)

  pub digits_longer : length (decimal_digits m) ≡ suc (length (decimal_digits (m / 10)))
  digits_longer = ap length last_digit ∙ simp (length-append, add-one)

  pub judged_long : (depth : ℕ) → depth < 1 → are_digits depth (decimal_digits m) ≡ false
  unfolding are_digits
  judged_long depth h = rw (lt-leb (length (decimal_digits m)) depth (omega (arith, digits_longer)))

  pub judged_zero : (depth : ℕ) → m % 10 < 1 → are_digits depth (decimal_digits m) ≡ false
  unfolding are_digits
  judged_zero depth h =
      rw (
        last_digit,
        every_snoc,
        within_below 9 (m % 10) h,
      ) (go (leb (length (decimal_digits (m / 10) ++ (m % 10 ∷ []))) depth))
    where
      go : (b : Bool) → cond b false false ≡ false
      go true = refl
      go false = refl

  pub judged_turn : (depth : ℕ) → 1 ≤ depth → 1 ≤ m % 10 → are_digits (depth - 1) (decimal_digits (m / 10))
      ≡ are_digits depth (decimal_digits m)
  unfolding are_digits
  judged_turn zero h g = absurd (omega arith)
  judged_turn (suc depth) h g =
      rw (
        sub-one (suc depth),
        digits_longer,
        leb-suc-suc,
        last_digit,
        every_snoc,
        within_yes 9 (m % 10) g (omega arith),
      )

-- ---- digits written from the last to the first

-- one place more, before those that are written
written_snoc : (x out : List ℕ) (a : ℕ) → length x < length out
    → written x (set out (length x) a) ≡ written (x ++ (a ∷ [])) out
written_snoc x out a h =
    rw (
      set_split out (length x) a,
      drop_at (take (length x) out) (a ∷ drop (suc (length x)) out) (length x)
          (length-take-le (length x) out (omega arith)),
      append_assoc,
      length-append,
      add-one,
    )

pub write_turn : (m : ℕ) (out : List ℕ) (at : ℕ) → m < 2 ^ 64 → 0 < m → at ≡ length (decimal_digits (m / 10))
    → at < length out → written (decimal_digits (m / 10)) (set out at (m % 10)) ≡ written (decimal_digits m) out
write_turn m out at fits some e h =
    rw (e, last_digit m fits some) (written_snoc (decimal_digits (m / 10)) out (m % 10) (omega arith))
