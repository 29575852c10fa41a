-- Laws of sums over those of the first n cells that pass a test, and of counts as such sums.
use mathlib.Core.Path.{◌≡◌, refl, sym, ◌∙◌, ap}
use mathlib.Core.Bool.{Bool, true, false, cond, true≢false}
use mathlib.Core.Logic.{◌⊎◌, inl, inr, ◌≢◌}
use Prim.Native.Nat.{ℕ, zero, suc, ◌+◌, ◌*◌, ◌<◌, ◌≤◌}
use native.Mathlib.Nat.{suc-mul}
use native.Mathlib.Decide.{ℕ_discrete}
use native.Mathlib.Omega.{arith}
use lib.Dec.{eqb}
use borrow.Author.Tests.{eq-eqb, ne_eqb, eqb-true}
use Rattle.sheet.specs.Area.{count, sum_over}

pub sum_alike : (n : ℕ) (t u : ℕ → Bool) (f g : ℕ → ℕ) → ((q : ℕ) → q < n → cond (t q) (f q) 0 ≡ cond (u q) (g q) 0)
    → sum_over n t f ≡ sum_over n u g
unfolding sum_over
sum_alike zero t u f g h = refl
sum_alike (suc n) t u f g h = go (t n) (u n) (h n (omega arith)) (sum_alike n t u f g (λ q l. h q (omega arith)))
  where
    go : (x y : Bool) → cond x (f n) 0 ≡ cond y (g n) 0 → sum_over n t f ≡ sum_over n u g
        → cond x (sum_over n t f + f n) (sum_over n t f) ≡ cond y (sum_over n u g + g n) (sum_over n u g)
    go true true e h = omega arith
    go true false e h = omega arith
    go false true e h = omega arith
    go false false e h = h

pub sum_same : (n : ℕ) (t u : ℕ → Bool) (f g : ℕ → ℕ) → ((q : ℕ) → q < n → t q ≡ u q) → ((q : ℕ) → q < n → f q ≡ g q)
    → sum_over n t f ≡ sum_over n u g
sum_same n t u f g h k = sum_alike n t u f g (λ q l. rw (h q l, k q l))

pub sum_zero : (n : ℕ) (t : ℕ → Bool) (f : ℕ → ℕ) → ((q : ℕ) → q < n → cond (t q) (f q) 0 ≡ 0) → sum_over n t f ≡ 0
unfolding sum_over
sum_zero zero t f h = refl
sum_zero (suc n) t f h = go (t n) (h n (omega arith)) (sum_zero n t f (λ q l. h q (omega arith)))
  where
    go : (x : Bool) → cond x (f n) 0 ≡ 0 → sum_over n t f ≡ 0 → cond x (sum_over n t f + f n) (sum_over n t f) ≡ 0
    go true e h = omega arith
    go false e h = h

-- a test passes exactly where one of two others does, never both
pub record Either (n : ℕ) (t u v : ℕ → Bool) : Type 0 where
  pub split : (q : ℕ) → q < n → t q ≡ true → (u q ≡ true) ⊎ (v q ≡ true)
  pub left : (q : ℕ) → q < n → u q ≡ true → t q ≡ true
  pub right : (q : ℕ) → q < n → v q ≡ true → t q ≡ true
  pub apart : (q : ℕ) → q < n → u q ≡ true → v q ≡ true → ⊥

fewer : {n : ℕ} {t u v : ℕ → Bool} → Either (suc n) t u v → Either n t u v
fewer e = record {
  split = λ q l. e.split q (omega arith);
  left = λ q l. e.left q (omega arith);
  right = λ q l. e.right q (omega arith);
  apart = λ q l. e.apart q (omega arith);
}

pub sum_either : (n : ℕ) (t u v : ℕ → Bool) (f : ℕ → ℕ) → Either n t u v → sum_over n t f ≡ sum_over n u f + sum_over n v f
unfolding sum_over
sum_either zero t u v f e = refl
sum_either (suc n) t u v f e =
    go (t n) (u n) (v n) (e.split n (omega arith)) (e.left n (omega arith)) (e.right n (omega arith))
    (e.apart n (omega arith)) (sum_either n t u v f (fewer e))
  where
    go : (x y z : Bool) → (x ≡ true → (y ≡ true) ⊎ (z ≡ true)) → (y ≡ true → x ≡ true) → (z ≡ true → x ≡ true)
        → (y ≡ true → z ≡ true → ⊥)
        → sum_over n t f ≡ sum_over n u f + sum_over n v f
        → cond x (sum_over n t f + f n) (sum_over n t f) ≡ cond y (sum_over n u f + f n) (sum_over n u f) + cond z
        (sum_over n v f + f n) (sum_over n v f)
    go true true true p q r s h = absurd (s refl refl)
    go true true false p q r s h = omega arith
    go true false true p q r s h = omega arith
    go true false false p q r s h =
        elim (p refl) [ inl i ↦ absurd (true≢false (sym i)) | inr i ↦ absurd (true≢false (sym i)) ]
    go false true z p q r s h = absurd (true≢false (sym (q refl)))
    go false false true p q r s h = absurd (true≢false (sym (r refl)))
    go false false false p q r s h = h

-- the sum over a wider test is no smaller
pub sum_mono : (n : ℕ) (t u : ℕ → Bool) (f : ℕ → ℕ) → ((q : ℕ) → u q ≡ true → t q ≡ true)
    → sum_over n u f ≤ sum_over n t f
unfolding sum_over
sum_mono zero t u f h = omega arith
sum_mono (suc n) t u f h = go (u n) (t n) (h n) (sum_mono n t u f h)
  where
    go : (x y : Bool) → (x ≡ true → y ≡ true) → sum_over n u f ≤ sum_over n t f
        → cond x (sum_over n u f + f n) (sum_over n u f) ≤ cond y (sum_over n t f + f n) (sum_over n t f)
    go true true k l = omega arith
    go true false k l = absurd (true≢false (sym (k refl)))
    go false true k l = omega arith
    go false false k l = l

-- no sum is larger than that over all cells
pub sum_most : (n : ℕ) (t : ℕ → Bool) (f : ℕ → ℕ) → sum_over n t f ≤ sum_over n (λ q. true) f
sum_most n t f = sum_mono n (λ q. true) t f (λ q e. refl)

-- values of at most m each
pub sum_each : (n m : ℕ) (f : ℕ → ℕ) → ((q : ℕ) → q < n → f q ≤ m) → sum_over n (λ q. true) f ≤ n * m
unfolding sum_over
sum_each zero m f h = omega arith
sum_each (suc n) m f h = omega (arith, sum_each n m f (λ q l. h q (omega arith)), h n (omega arith), suc-mul n m)

sum_none : (n c : ℕ) (f : ℕ → ℕ) → n ≤ c → sum_over n (λ q. eqb q c) f ≡ 0
unfolding sum_over
sum_none zero c f l = refl
sum_none (suc n) c f l = rw (ne_eqb n c (λ e. omega arith)) (sum_none n c f (omega arith))

pub sum_one : (n c : ℕ) (f : ℕ → ℕ) → c < n → sum_over n (λ q. eqb q c) f ≡ f c
unfolding sum_over
sum_one zero c f l = absurd (omega arith)
sum_one (suc n) c f l = elim (ℕ_discrete n c) [
  | yes e ↦ rw (eq-eqb n c e, sum_none n c f (omega arith)) (omega (arith, ap f e))
  | no d ↦ rw (ne_eqb n c d) (sum_one n c f (omega arith))
]

-- what a cell adds is no more than the sum
pub sum_has : (n : ℕ) (t : ℕ → Bool) (f : ℕ → ℕ) (c : ℕ) → t c ≡ true → c < n → f c ≤ sum_over n t f
sum_has n t f c e l = omega (arith, sum_one n c f l, sum_mono n t (λ q. eqb q c) f (λ q h. ap t (eqb-true q c h) ∙ e))

-- one cell more passes
pub sum_more : (n : ℕ) (t u : ℕ → Bool) (f : ℕ → ℕ) (c : ℕ) → c < n → t c ≡ false → u c ≡ true
    → ((q : ℕ) → q < n → q ≢ c → u q ≡ t q) → sum_over n u f ≡ sum_over n t f + f c
sum_more n t u f c l old new same =
    let e : Either n u t (λ q. eqb q c) = record {
      split = λ q ql h. elim (ℕ_discrete q c) [ yes e ↦ inr (eq-eqb q c e) | no d ↦ inl (sym (same q ql d) ∙ h) ];
      left = λ q ql h. elim (ℕ_discrete q c) [ yes e ↦ ap u e ∙ new | no d ↦ same q ql d ∙ h ];
      right = λ q ql h. ap u (eqb-true q c h) ∙ new;
      apart = λ q ql h k. true≢false (sym h ∙ ap t (eqb-true q c k) ∙ old);
    } in
    omega (arith, sum_either n u t (λ q. eqb q c) f e, sum_one n c f l)

-- ---- counts

pub count_sum : (n : ℕ) (t : ℕ → Bool) → count n t ≡ sum_over n t (λ q. 1)
unfolding count sum_over
count_sum zero t = refl
count_sum (suc n) t = go (t n) (count_sum n t)
  where
    go : (b : Bool) → count n t ≡ sum_over n t (λ q. 1)
        → cond b (suc (count n t)) (count n t) ≡ cond b (sum_over n t (λ q. 1) + 1) (sum_over n t (λ q. 1))
    go true h = omega arith
    go false h = h

pub count_none : (n : ℕ) (t : ℕ → Bool) → ((q : ℕ) → q < n → t q ≡ false) → count n t ≡ 0
unfolding count
count_none zero t h = refl
count_none (suc n) t h = rw (h n (omega arith)) (count_none n t (λ q l. h q (omega arith)))

-- one cell more passes
pub count_more : (n : ℕ) (t u : ℕ → Bool) (c : ℕ) → c < n → t c ≡ false → u c ≡ true
    → ((q : ℕ) → q < n → q ≢ c → u q ≡ t q) → count n u ≡ count n t + 1
count_more n t u c l old new same =
    omega (arith, count_sum n u, count_sum n t, sum_more n t u (λ q. 1) c l old new same)
