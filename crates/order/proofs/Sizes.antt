-- The cells of a drained sheet are a forest; laws of their sizes.
use mathlib.Core.Path.{◌≡◌, refl, sym, ◌∙◌}
use mathlib.Core.Bool.{Bool, true, false, cond, true≢false}
use mathlib.Core.List.Memᴰ
use mathlib.Core.List.{List, [], ◌∷◌, Memᴰ}
use mathlib.Core.Logic.{◌⊎◌, inl, inr}
use Prim.Native.Nat.{ℕ, zero, suc, ◌≤◌, ◌<◌}
use native.Mathlib.Omega.{arith}
use borrow.Author.Tests.{lt-ltb}
use Rattle.sheet.specs.Sheet.{Grid, cells, inside, next}
use Rattle.sheet.specs.Water.{Passes, passes, reaches_outlet}
use Rattle.sheet.specs.Area.{count, sum_over, drains_into}
use Rattle.sheet.specs.River.{network_by, donors}
use Rattle.sheet.specs.Refusal.{both}
use Rattle.sheet.proofs.Cells.{inside_lt, next_goes}
use Rattle.claims.specs.Basin.{Forest}
use Rattle.claims.specs.Bounds.{sum}
use Rattle.claims.proofs.Basins.{lawful}
use Rattle.claims.proofs.Counts.{count_some}
use Rattle.claims.proofs.Fuel.{at_ends, ends_end}
use Rattle.claims.proofs.Lawful.{passes_true}
use Rattle.claims.proofs.Sums.{count_sum, count_none, sum_either}
use Rattle.claims.proofs.Areas.{area_sum}
use Rattle.claims.proofs.GridLaws.{passes_is, drains_itself, sum_same}
use Rattle.claims.proofs.Sheets.{grid_forest}
use Rattle.upstream.specs.Work.{is_reached}
use Rattle.upstream.specs.Search.{Drained}
use Rattle.drainage.specs.Total.{size}
use Rattle.order.proofs.Placing.{Once, once_none, once_next}
use Rattle.std.specs.Prelude.{None}

pub count_same : (n : ℕ) (f g : ℕ → Bool) → ((c : ℕ) → c < n → f c ≡ g c) → count n f ≡ count n g
unfolding count
count_same zero f g h = refl
count_same (suc n) f g h = rw (h n (omega arith), count_same n f g (λ c l. h c (omega arith)))

module _ {G : Grid} {work : List ℕ} {queued : ℕ} (D : Drained G work queued) where
  pub reached : (c : ℕ) → inside G c ≡ true → is_reached (cells G) work c ≡ true
  reached c i = lt-ltb _ _ (D.all c i)

  pub reaches : (c : ℕ) → inside G c ≡ true → reaches_outlet (next G) (cells G) c ≡ true
  reaches c i =
      go (inside G c) (reaches_outlet (next G) (cells G) c)
      (sym (D.searched.reached c (inside_lt G c i)) ∙ reached c i)
    where
      go : (a b : Bool) → both a b ≡ true → b ≡ true
      go true b e = e
      go false b e = absurd (true≢false (sym e))

  pub forest : 0 < cells G → (area : ℕ → ℕ) (least split : ℕ)
      → Forest (network_by G area least split) (λ c. inside G c ≡ true)
  forest some area least split = grid_forest G reaches area least split some

module _ (G : Grid) where
  size_inside : (c : ℕ) → inside G c ≡ true → size G c ≡ count (cells G) (drains_into G c)
  unfolding size
  size_inside c i = go (inside G c) i
    where
      go : (b : Bool) → b ≡ true → cond b (count (cells G) (drains_into G c)) 0 ≡ count (cells G) (drains_into G c)
      go b e = rw e

  pub size_some : (c : ℕ) → inside G c ≡ true → 1 ≤ size G c
  size_some c i = rw (size_inside c i) (count_some (cells G) (drains_into G c) c (drains_itself G c i) (inside_lt G c i))

  module _ (area : ℕ → ℕ) (least split : ℕ) where
    -- a cell's size is one more than those of its donors together
    pub size_adds : Forest (network_by G area least split) (λ c. inside G c ≡ true) → (c : ℕ) → inside G c ≡ true
        → size G c ≡ suc (sum (size G) (donors (network_by G area least split) c))
    unfolding network_by drains_into
    size_adds F c i =
        let s = area_sum (lawful F) (inside G) (λ q. 1) c i (inside_lt G c i) in
        let d = sum_same (size G) (λ u. sum_over (cells G) (drains_into G u) (λ q. 1))
        (donors (network_by G area least split) c)
        (λ u m. size_inside u (next_goes G u ((lawful F).donor_steps c u m)).from_inside ∙ count_sum (cells G)
        (drains_into G u)) in
        size_inside c i ∙ count_sum (cells G) (drains_into G c) ∙ s ∙ (rw d (omega arith))

-- ---- the sizes of cells whose water goes nowhere

-- the water of q passes one of the cells
unfoldable pub passes_any : Grid → List ℕ → ℕ → Bool
unfolding drains_into
passes_any G [] q = false
passes_any G (o ∷ os) q = let rest = passes_any G os q in cond (drains_into G o q) true rest

module _ (G : Grid) where
  pub into_passes : (o q : ℕ) → drains_into G o q ≡ true → (inside G q ≡ true) × Passes (next G) q o
  unfolding drains_into
  into_passes o q e = go (inside G q) refl e
    where
      go : (b : Bool) → inside G q ≡ b → cond b (passes (next G) (cells G) q o) false ≡ true
          → (inside G q ≡ true) × Passes (next G) q o
      go true i e = (i, passes_true (next G) (cells G) q o e)
      go false i e = absurd (true≢false (sym e))

  pub passes_into : (o q : ℕ) → inside G q ≡ true → Passes (next G) q o → drains_into G o q ≡ true
  unfolding drains_into
  passes_into o q i h = go (inside G q) i
    where
      go : (b : Bool) → b ≡ true → cond b (passes (next G) (cells G) q o) false ≡ true
      go b e = rw e ((passes_is G q o i).1 h)

  pub any_some : (os : List ℕ) (q : ℕ) → passes_any G os q ≡ true
      → (o : ℕ) × Memᴰ o os × (drains_into G o q ≡ true)
  unfolding passes_any
  any_some [] q h = absurd (true≢false (sym h))
  any_some (o ∷ os) q h = go (drains_into G o q) refl (any_some os q) h
    where
      go : (b : Bool) → drains_into G o q ≡ b
          → (passes_any G os q ≡ true → (w : ℕ) × Memᴰ w os × (drains_into G w q ≡ true))
          → cond b true (passes_any G os q) ≡ true → (w : ℕ) × Memᴰ w (o ∷ os) × (drains_into G w q ≡ true)
      go true e f h = (o, Memᴰ.head refl, e)
      go false e f h = let r = f h in (r.0, Memᴰ.tail r.1, r.2)

  pub any_has : (os : List ℕ) (q o : ℕ) → Memᴰ o os → drains_into G o q ≡ true → passes_any G os q ≡ true
  unfolding passes_any
  any_has [] q o m h = absurd (Memᴰ.not-nil m)
  any_has (w ∷ os) q o m h = go (drains_into G w q) refl (Memᴰ.cases_cons m) (λ k. any_has os q o k h)
    where
      go : (b : Bool) → drains_into G w q ≡ b → (o ≡ w) ⊎ Memᴰ o os
          → (Memᴰ o os → passes_any G os q ≡ true) → cond b true (passes_any G os q) ≡ true
      go true e k f = refl
      go false e (inl s) f = absurd (true≢false (sym h ∙ (rw s e)))
      go false e (inr k) f = f k

  -- a way has one end
  one_end : {q o w : ℕ} → Passes (next G) q o → Passes (next G) q w → next G o ≡ None → next G w ≡ None → o ≡ w
  one_end h k e f = let r = at_ends h e in sym (ends_end r.1 h e) ∙ ends_end r.1 k f

  -- together they are as many as the cells whose water passes one of them
  pub sizes_add : (os : List ℕ) → Once os
      → ((o : ℕ) → Memᴰ o os → (inside G o ≡ true) × (next G o ≡ None))
      → sum (size G) os ≡ count (cells G) (passes_any G os)
  unfolding sum passes_any
  sizes_add [] once_none h = sym (count_none (cells G) (passes_any G []) (λ q l. refl))
  sizes_add (o ∷ os) (once_next d w) h =
      let e = sum_either (cells G) (passes_any G (o ∷ os)) (drains_into G o) (passes_any G os) (λ q. 1) (record {
        split = λ q l. split q;
        left = λ q l k. any_has (o ∷ os) q o (Memᴰ.head refl) k;
        right = λ q l k. let r = any_some os q k in any_has (o ∷ os) q r.0 (Memᴰ.tail r.1) r.2;
        apart = λ q l a k.
            let r = any_some os q k in
            let s = one_end (into_passes o q a).1 (into_passes r.0 q r.2).1
            (h o (Memᴰ.head refl)).1 (h r.0 (Memᴰ.tail r.1)).1 in
            d (rw s r.1);
      }) in
      omega (
        arith,
        size_inside G o (h o (Memᴰ.head refl)).0,
        sizes_add os w (λ x m. h x (Memᴰ.tail m)),
        count_sum (cells G) (passes_any G (o ∷ os)),
        count_sum (cells G) (drains_into G o),
        count_sum (cells G) (passes_any G os),
      )
    where
      split : (q : ℕ) → passes_any G (o ∷ os) q ≡ true → (drains_into G o q ≡ true) ⊎ (passes_any G os q ≡ true)
      split q k = go (drains_into G o q) refl k
        where
          go : (b : Bool) → drains_into G o q ≡ b → cond b true (passes_any G os q) ≡ true
              → (drains_into G o q ≡ true) ⊎ (passes_any G os q ≡ true)
          go true e k = inl e
          go false e k = inr k
