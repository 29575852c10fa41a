-- Laws of cells that stand one after the other.
use mathlib.Core.Path.{◌≡◌, refl, sym, ◌∙◌, ap}
use mathlib.Core.Bool.{Bool, true, false}
use mathlib.Core.List.Memᴰ
use mathlib.Core.List.{List, [], ◌∷◌, Memᴰ}
use mathlib.Core.Logic.{◌⊎◌, inl, inr}
use Prim.Native.Nat.{ℕ, zero, suc, ◌+◌, ◌≤◌, ◌<◌}
use native.Mathlib.Omega.{arith}
use lib.Dec.{ltb}
use lib.ListN.{length, get_or}
use borrow.Author.Tests.{ltb-true, ltb-false}
use Rattle.claims.specs.Bounds.{sum}
use Rattle.order.specs.Positions.{Consecutive, none, next}

-- p is one of the positions of u
pub record At (size pos : ℕ → ℕ) (u p : ℕ) : Type 0 where
  pub from : pos u ≤ p
  pub before : p < pos u + size u

-- the positions of u lie from lo up to hi
pub record Between (size pos : ℕ → ℕ) (lo hi u : ℕ) : Type 0 where
  pub from : lo ≤ pos u
  pub upto : pos u + size u ≤ hi

module _ {size pos : ℕ → ℕ} where
  pub between : {lo : ℕ} {us : List ℕ} → Consecutive size pos lo us → (u : ℕ) → Memᴰ u us
      → Between size pos lo (lo + sum size us) u
  unfolding sum
  between none u m = absurd (Memᴰ.not-nil m)
  between (next {lo = lo} {u = v} {us = us} e w) u m = go (between w u) (Memᴰ.cases_cons m)
    where
      go : (Memᴰ u us → Between size pos (lo + size v) (lo + size v + sum size us) u) → (u ≡ v) ⊎ Memᴰ u us
          → Between size pos lo (lo + (size v + sum size us)) u
      go f (inl s) = record { from = rw s (omega arith); upto = rw s (omega arith) }
      go f (inr k) = let b = f k in record { from = omega arith; upto = omega arith }

  -- a position among those of the list is one of a member's
  pub member_at : {lo : ℕ} {us : List ℕ} → Consecutive size pos lo us → (p : ℕ) → lo ≤ p → p < lo + sum size us
      → (u : ℕ) × Memᴰ u us × At size pos u p
  unfolding sum
  member_at none p l h = absurd (omega arith)
  member_at (next {lo = lo} {u = v} {us = us} e w) p l h = go (ltb p (lo + size v)) refl
      (λ k. member_at w p k (omega arith))
    where
      go : (b : Bool) → ltb p (lo + size v) ≡ b → (lo + size v ≤ p → (u : ℕ) × Memᴰ u us × At size pos u p)
          → (u : ℕ) × Memᴰ u (v ∷ us) × At size pos u p
      go true t f =
          let k = ltb-true p (lo + size v) t in
          (v, Memᴰ.head refl, record { from = omega arith; before = omega arith })
      go false t f = let r = f (ltb-false p (lo + size v) t) in (r.0, Memᴰ.tail r.1, r.2)

  -- and of no other member's
  pub member_once : {lo : ℕ} {us : List ℕ} → Consecutive size pos lo us → {u v p : ℕ} → Memᴰ u us → Memᴰ v us
      → At size pos u p → At size pos v p → u ≡ v
  member_once none m k a b = absurd (Memᴰ.not-nil m)
  member_once (next {lo = lo} {u = w} {us = us} e ws) {u} {v} {p} m k a b = go (Memᴰ.cases_cons m)
      (Memᴰ.cases_cons k) (λ i j. member_once ws i j a b)
    where
      go : (u ≡ w) ⊎ Memᴰ u us → (v ≡ w) ⊎ Memᴰ v us → (Memᴰ u us → Memᴰ v us → u ≡ v) → u ≡ v
      go (inl s) (inl t) f = s ∙ sym t
      go (inl s) (inr j) f = let l = between ws v j in let g = ap size s in let h = ap pos s in absurd (omega arith)
      go (inr i) (inl t) f = let l = between ws u i in let g = ap size t in let h = ap pos t in absurd (omega arith)
      go (inr i) (inr j) f = f i j

  -- other positions of the same members
  pub moved : {lo : ℕ} {us : List ℕ} {pos' : ℕ → ℕ} → Consecutive size pos lo us
      → ((u : ℕ) → Memᴰ u us → pos' u ≡ pos u) → Consecutive size pos' lo us
  moved none h = none
  moved (next {u = u} e w) h = next (h u (Memᴰ.head refl) ∙ e) (moved w (λ v m. h v (Memᴰ.tail m)))

  -- ---- by places in the list

  pub first_at_lem : {lo : ℕ} {us : List ℕ} → Consecutive size pos lo us → 0 < length us → pos (get_or us 0 0) ≡ lo
  first_at_lem none l = absurd (omega arith)
  first_at_lem (next e w) l = e

  -- each begins where the one before it ends
  pub next_at_lem : {lo : ℕ} {us : List ℕ} → Consecutive size pos lo us → (t : ℕ) → suc t < length us
      → pos (get_or us (suc t) 0) ≡ pos (get_or us t 0) + size (get_or us t 0)
  next_at_lem none t l = absurd (omega arith)
  next_at_lem (next {u = u} e w) zero l = first_at_lem w (omega arith) ∙ (rw e refl)
  next_at_lem (next e w) (suc t) l = next_at_lem w t (omega arith)

  -- the last ends where all of them do
  pub last_at : {lo : ℕ} {us : List ℕ} → Consecutive size pos lo us → (t : ℕ) → suc t ≡ length us
      → pos (get_or us t 0) + size (get_or us t 0) ≡ lo + sum size us
  unfolding sum
  last_at none t l = absurd (omega arith)
  last_at (next {us = []} e w) zero l = omega arith
  last_at (next {us = v ∷ us} e w) zero l = absurd (omega arith)
  last_at (next e w) (suc t) l = omega (arith, last_at w t (omega arith))
