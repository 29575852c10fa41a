-- Counts over the first n cells.
use mathlib.Core.Path.{◌≡◌, refl, sym}
use mathlib.Core.Bool.{Bool, true, false, cond, true≢false}
use mathlib.Core.Logic.{◌≢◌}
use Prim.Native.Nat.{ℕ, zero, suc, ◌≤◌, ◌<◌}
use native.Mathlib.Omega.{arith}
use lib.Dec.{eqb}
use borrow.Author.Tests.{eqb-true, eqb-false}
use Rattle.sheet.specs.Area.{count}

pub count_le : (n : ℕ) (f : ℕ → Bool) → count n f ≤ n
unfolding count
count_le zero f = omega arith
count_le (suc n) f = go (f n) (count_le n f)
  where
    go : (b : Bool) → count n f ≤ n → cond b (suc (count n f)) (count n f) ≤ suc n
    go true l = omega arith
    go false l = omega arith

-- more pass the wider test
pub count_mono : (n : ℕ) (f g : ℕ → Bool) → ((x : ℕ) → g x ≡ true → f x ≡ true) → count n g ≤ count n f
unfolding count
count_mono zero f g h = omega arith
count_mono (suc n) f g h = go (g n) (f n) (h n) (count_mono n f g h)
  where
    go : (b a : Bool) → (b ≡ true → a ≡ true) → count n g ≤ count n f
        → cond b (suc (count n g)) (count n g) ≤ cond a (suc (count n f)) (count n f)
    go true true k l = omega arith
    go true false k l = absurd (true≢false (sym (k refl)))
    go false true k l = omega arith
    go false false k l = l

pub count_less : (n : ℕ) (f g : ℕ → Bool) → ((x : ℕ) → g x ≡ true → f x ≡ true) → (c : ℕ) → f c ≡ true → g c ≡ false
    → c < n → count n g < count n f
unfolding count
count_less zero f g h c a b l = absurd (omega arith)
count_less (suc n) f g h c a b l = go (eqb c n) refl (λ k. count_less n f g h c a b k) (count_mono n f g h)
  where
    both : (y x : Bool) → (y ≡ true → x ≡ true) → count n g < count n f
        → cond y (suc (count n g)) (count n g) < cond x (suc (count n f)) (count n f)
    both true true k m = omega arith
    both true false k m = absurd (true≢false (sym (k refl)))
    both false true k m = omega arith
    both false false k m = m

    go : (s : Bool) → eqb c n ≡ s → (c < n → count n g < count n f) → count n g ≤ count n f
        → cond (g n) (suc (count n g)) (count n g) < cond (f n) (suc (count n f)) (count n f)
    go true e k m = let s = eqb-true c n e in rw (rw s at b, rw s at a) (omega arith)
    go false e k m = let d : c ≢ n = eqb-false c n e in both (g n) (f n) (h n) (k (omega arith))

pub count_some : (n : ℕ) (f : ℕ → Bool) (c : ℕ) → f c ≡ true → c < n → 0 < count n f
count_some n f c a l =
    let k = count_less n f (λ x. false) (λ x e. absurd (true≢false (sym e))) c a refl l in omega arith

pub not-true : (b : Bool) → (b ≡ true → ⊥) → b ≡ false
not-true true f = absurd (f refl)
not-true false f = refl
