-- A preorder, with the cell and the size at each position, lays every river along its positions.
use mathlib.Core.Path.{◌≡◌, refl}
use mathlib.Core.List.{List, [], ◌∷◌, Memᴰ}
use mathlib.Core.Logic.{◌≢◌}
use Prim.Native.Nat.{ℕ, zero, suc, ◌+◌, ◌≤◌}
use native.Mathlib.Omega.{arith}
use lib.ListN.{get_or}
use Rattle.sheet.specs.River.{Network, donors, Run, stem, mouth, upstream, river_within, river}
use Rattle.claims.specs.Basin.{Forest}
use Rattle.claims.specs.Bounds.{sum}
use Rattle.claims.proofs.Basins.{lawful}
use Rattle.rivers.specs.Layout.{Laid, laid_end, laid_stem, laid_mouth}
use Rattle.order.specs.Positions.{Preorder, Consecutive, none, next}
use Rattle.order.proofs.Preorder.{some}

module _ {cell sizes : List ℕ} {end : ℕ} where
  stem_at : {lo hi c s : ℕ} {R : Run} → get_or cell lo 0 ≡ c → get_or sizes lo 0 ≡ s → lo + s ≡ end
      → Laid cell sizes end (lo + 1) hi R → Laid cell sizes end lo hi (stem c ∷ R)
  stem_at {lo} {hi} {c} {s} {R} e f g w = rw (← e) (laid_stem {lo = lo} (rw f g) w)

  mouth_at : {lo hi c s : ℕ} {R : Run} → get_or cell lo 0 ≡ c → get_or sizes lo 0 ≡ s → lo + s ≢ end
      → Laid cell sizes end (lo + s) hi R → Laid cell sizes end lo hi (mouth c ∷ R)
  mouth_at {lo} {hi} {c} {s} {R} e f g w = rw (← e) (laid_mouth {lo = lo} {hi = hi} {R = R} (rw f g) (rw f w))

module _ {N : Network} {inside : ℕ → Type 0} (F : Forest N inside) {size pos : ℕ → ℕ}
    (P : Preorder N inside size pos) {cell sizes : List ℕ}
    (cell_is : (c : ℕ) → inside c → get_or cell (pos c) 0 ≡ c)
    (size_is : (c : ℕ) → inside c → get_or sizes (pos c) 0 ≡ size c) where
  upstream_laid : (f : ℕ → Run) (end lo : ℕ) (us : List ℕ) → Consecutive size pos lo us → lo + sum size us ≡ end
      → ((u : ℕ) → Memᴰ u us → inside u) →
      ((u : ℕ) → Memᴰ u us → pos u + size u ≡ end → Laid cell sizes end (pos u) end (f u))
      → Laid cell sizes end lo end (upstream f us)
  unfolding upstream sum
  upstream_laid f end lo [] none e i h = let s : lo ≡ end = omega arith in rw s laid_end
  upstream_laid f end lo (u ∷ []) (next p w) e i h = rw (← p) (h u (Memᴰ.head refl) (omega arith))
  upstream_laid f end lo (u ∷ v ∷ us) (next p w) e i h =
      let j = i u (Memᴰ.head refl) in
      let l = some F P v (i v (Memᴰ.tail (Memᴰ.head refl))) in
      mouth_at (rw (← p) (cell_is u j)) (rw (← p) (size_is u j)) (λ s. omega arith)
      (upstream_laid f end (lo + size u) (v ∷ us) w (omega arith) (λ x m. i x (Memᴰ.tail m))
      (λ x m. h x (Memᴰ.tail m)))

  within_laid : (k c : ℕ) → N.cells ≤ k + (lawful F).dist c → inside c
      → Laid cell sizes (pos c + size c) (pos c) (pos c + size c) (river_within N k c)
  unfolding river_within
  within_laid zero c l i = absurd (omega (arith, (lawful F).short c))
  within_laid (suc k) c l i =
      stem_at (cell_is c i) (size_is c i) refl
      (upstream_laid (river_within N k) (pos c + size c) (pos c + 1) (donors N c) (P.follow c i)
      (omega (arith, P.adds c i))
      (λ u m. F.from_inside u c ((lawful F).donor_steps c u m))
      (λ u m e. rw (← e) (within_laid k u (omega (
        arith,
        (lawful F).falls u c ((lawful F).donor_steps c u m),
      )) (F.from_inside u c ((lawful F).donor_steps c u m)))))

  pub river_laid : (c : ℕ) → inside c → Laid cell sizes (pos c + size c) (pos c) (pos c + size c) (river N c)
  unfolding river
  river_laid c = within_laid N.cells c (omega arith)
