-- Sums over the cells of a list that pass a test, and over the sheet's cells: equal where the list holds those cells,
-- each once; a count is such a sum.
use mathlib.Core.Path.{◌≡◌, refl, sym, ◌∙◌, ap}
use mathlib.Core.Bool.{Bool, true, false, cond, true≢false}
use mathlib.Core.List.Memᴰ
use mathlib.Core.List.{List, [], ◌∷◌, Memᴰ}
use mathlib.Core.Logic.{◌⊎◌, inl, inr, ◌≢◌}
use Prim.Native.Nat.{ℕ, ◌+◌, ◌<◌}
use native.Mathlib.Omega.{arith}
use lib.Dec.{eqb}
use borrow.Author.Tests.{eqb-false, eq-eqb, ne_eqb}
use Rattle.sheet.specs.Area.{count, sum_over}
use Rattle.claims.specs.Bounds.{sum}
use Rattle.claims.proofs.Counts.{not-true}
use Rattle.claims.proofs.Sums.{sum_zero, sum_more, count_sum}

-- the sum of f over those cells of a list that pass a test
unfoldable pub summed : (ℕ → Bool) → (ℕ → ℕ) → List ℕ → ℕ
summed t f [] = 0
summed t f (c ∷ cs) = let r = summed t f cs in cond (t c) (f c + r) r

pub summed_none : (t : ℕ → Bool) (f : ℕ → ℕ) (cs : List ℕ) → ((c : ℕ) → Memᴰ c cs → t c ≡ false)
    → summed t f cs ≡ 0
unfolding summed
summed_none t f [] h = refl
summed_none t f (c ∷ cs) h = rw (h c (Memᴰ.head refl)) (summed_none t f cs (λ d m. h d (Memᴰ.tail m)))

pub summed_all : (f : ℕ → ℕ) (cs : List ℕ) → summed (λ c. true) f cs ≡ sum f cs
unfolding summed sum
summed_all f [] = refl
summed_all f (c ∷ cs) = ap (λ (n : ℕ). f c + n) (summed_all f cs)

-- each cell stands once
pub data Once : List ℕ → Type 0 where
  once_none : Once []
  once_on : {c : ℕ} {cs : List ℕ} → (Memᴰ c cs → ⊥) → Once cs → Once (c ∷ cs)

-- u tests the cells below n, t those of the list
pub record SameTests (n : ℕ) (cs : List ℕ) (u t : ℕ → Bool) : Type 0 where
  pub below : (c : ℕ) → Memᴰ c cs → c < n
  pub listed : (q : ℕ) → q < n → u q ≡ true → Memᴰ q cs
  pub same : (c : ℕ) → Memᴰ c cs → u c ≡ t c

-- u without the cell c
abbrev except : ℕ → (ℕ → Bool) → ℕ → Bool
except c u q = cond (eqb q c) false (u q)

except_other : (c : ℕ) (u : ℕ → Bool) (q : ℕ) → q ≢ c → except c u q ≡ u q
except_other c u q d = rw (ne_eqb q c d)

except_true : (c : ℕ) (u : ℕ → Bool) (q : ℕ) → except c u q ≡ true → (q ≢ c) × (u q ≡ true)
except_true c u q e = go (eqb q c) refl e
  where
    go : (b : Bool) → eqb q c ≡ b → cond b false (u q) ≡ true → (q ≢ c) × (u q ≡ true)
    go true p h = absurd (true≢false (sym h))
    go false p h = (eqb-false q c p, h)

pub summed_cells : (n : ℕ) (cs : List ℕ) (u t : ℕ → Bool) (f : ℕ → ℕ) → Once cs → SameTests n cs u t
    → sum_over n u f ≡ summed t f cs
unfolding summed
summed_cells n [] u t f o r =
    sum_zero n u f
    (λ q l. ap (λ (b : Bool). cond b (f q) 0) (not-true (u q) (λ e. Memᴰ.not-nil (r.listed q l e))))
summed_cells n (c ∷ cs) u t f (once_on d o) r = go (t c) refl (λ v. summed_cells n cs v t f o)
  where
    rest : {q : ℕ} → (q ≡ c) ⊎ Memᴰ q cs → q ≢ c → Memᴰ q cs
    rest (inl e) g = absurd (g e)
    rest (inr m) g = m

    go : (b : Bool) → t c ≡ b → ((v : ℕ → Bool) → SameTests n cs v t → sum_over n v f ≡ summed t f cs)
        → sum_over n u f ≡ cond b (f c + summed t f cs) (summed t f cs)
    go true e g =
        let now : u c ≡ true = r.same c (Memᴰ.head refl) ∙ e in
        let l : c < n = r.below c (Memᴰ.head refl) in
        let fewer = g (except c u) (record {
          below = λ q m. r.below q (Memᴰ.tail m);
          listed = λ q k h.
              let x = except_true c u q h in rest (Memᴰ.cases_cons (r.listed q k x.1)) x.0;
          same = λ q m.
              except_other c u q (λ p. d (rw p at m)) ∙ r.same q (Memᴰ.tail m);
        }) in
        let more = sum_more n (except c u) u f c l (rw (eq-eqb c c refl) refl) now
        (λ q k x. sym (except_other c u q x)) in
        omega (arith, more, fewer)
    go false e g =
        let now : u c ≡ false = r.same c (Memᴰ.head refl) ∙ e in
        g u (record {
          below = λ q m. r.below q (Memᴰ.tail m);
          listed = λ q k h.
              rest (Memᴰ.cases_cons (r.listed q k h)) (λ p. true≢false (sym h ∙ ap u p ∙ now));
          same = λ q m. r.same q (Memᴰ.tail m);
        })

-- a count is such a sum
pub counted_cells : (n : ℕ) (cs : List ℕ) (u t : ℕ → Bool) → Once cs → SameTests n cs u t
    → count n u ≡ summed t (λ c. 1) cs
counted_cells n cs u t o r = count_sum n u ∙ summed_cells n cs u t (λ c. 1) o r
