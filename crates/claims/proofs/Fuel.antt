-- Ways that end do so within as many cells as there are.
use mathlib.Core.Path.{◌≡◌, refl, sym, ◌∙◌, ap}
use mathlib.Core.Bool.{Bool, true, false, cond, true≢false}
use mathlib.Core.Logic.{◌⊎◌, inl, inr, ◌≢◌}
use Prim.Native.Nat.{ℕ, zero, suc, ◌<◌}
use native.Mathlib.Omega.{arith}
use lib.Dec.{eqb}
use borrow.Author.Tests.{eqb-false, eq-eqb, ne_eqb}
use Rattle.sheet.specs.Water.{onward, passes, reaches_outlet, way_end, Passes, here, there}
use Rattle.sheet.specs.Area.{count}
use Rattle.claims.specs.Basin.{Ends, ends_here, ends_after}
use Rattle.claims.proofs.Runs.{pass_trans}
use Rattle.claims.proofs.Lawful.{passes_true}
use Rattle.claims.proofs.Counts.{count_le, count_less, count_some, not-true}
use Rattle.claims.proofs.Mouths.{same_or_not}
use Rattle.sheet.specs.Answer.{Next}
use Rattle.std.specs.Prelude.{None, Some}

unfoldable pub tally : Next → (ℕ → ℕ) → ℕ
tally None f = 0
tally (Some r) f = suc (f r)

-- the steps of c's way, no more than n being counted
unfoldable pub steps : (ℕ → Next) → ℕ → ℕ → ℕ
unfolding tally
steps next zero c = 0
steps next (suc n) c = tally (next c) (steps next n)

module _ (next : ℕ → Next) where
  pub steps_off : (n c : ℕ) → next c ≡ None → steps next n c ≡ 0
  unfolding steps tally
  steps_off zero c e = refl
  steps_off (suc n) c e = rw e

  pub steps_to : (n c r : ℕ) → next c ≡ Some r → steps next (suc n) c ≡ suc (steps next n r)
  unfolding steps tally
  steps_to n c r e = rw e

module _ {next : ℕ → Next} where
  -- more fuel changes nothing
  steps_more : {n c : ℕ} → Ends next n c → steps next (suc n) c ≡ steps next n c
  steps_more (ends_here {n = n} {c = c} e) = steps_off next (suc (suc n)) c e ∙ sym (steps_off next (suc n) c e)
  steps_more (ends_after {n = n} {c = c} {r = r} e w) = steps_to next (suc n) c r e ∙ ap suc (steps_more w) ∙ sym
      (steps_to next n c r e)

  pub steps_short : {n c : ℕ} → Ends next n c → steps next n c < n
  steps_short (ends_here {n = n} {c = c} e) = omega (arith, steps_off next (suc n) c e)
  steps_short (ends_after {n = n} {c = c} {r = r} e w) = omega (arith, steps_to next n c r e, steps_short w)

  pub steps_fall : {n c : ℕ} → Ends next n c → (r : ℕ) → next c ≡ Some r → steps next n c ≡ suc (steps next n r)
  steps_fall (ends_here e) r f = let z : ◌≡◌ {A = ℕ} 0 1 = cc in absurd (omega arith)
  steps_fall (ends_after {n = n} {c = c} {r = s} e w) r f =
      let same : s ≡ r = cc in
      steps_to next n c r f ∙ ap suc (rw same at (sym (steps_more w)))

module _ {next : ℕ → Next} where
  -- no way that ends comes back
  pub no_round : {k c : ℕ} → Ends next k c → (r : ℕ) → next c ≡ Some r → Passes next r c → ⊥
  no_round (ends_here e) r f p = let z : ◌≡◌ {A = ℕ} 0 1 = cc in omega arith
  no_round (ends_after {r = s} e w) r f here = let g : next s ≡ Some s = cc in no_round w s g here
  no_round (ends_after {r = s} e w) r f (there {r = t} g h) = let j : next s ≡ Some t = cc in no_round w t j
      (pass_trans h (there e here))

module _ (next : ℕ → Next) where
  pub passes_self : (k c : ℕ) → passes next k c c ≡ true
  unfolding passes
  passes_self zero c = eq-eqb c c refl
  passes_self (suc k) c = rw (eq-eqb c c refl)

  passes_next : (k c r x : ℕ) → next c ≡ Some r → passes next k r x ≡ true → passes next (suc k) c x ≡ true
  unfolding passes onward
  passes_next k c r x e h = rw e (go (eqb c x))
    where
      go : (b : Bool) → cond b true (passes next k r x) ≡ true
      go true = refl
      go false = h

module _ {next : ℕ → Next} where
  -- fewer steps than cells on the way
  steps_count : (n : ℕ) {k c : ℕ} → Ends next k c → ((x : ℕ) → Passes next c x → x < n)
      → steps next k c < count n (passes next k c)
  steps_count n (ends_here {n = k} {c = c} e) b =
      let z = count_some n (passes next (suc k) c) c (passes_self next (suc k) c) (b c here) in
      omega (arith, steps_off next (suc k) c e)
  steps_count n (ends_after {n = k} {c = c} {r = r} e w) b =
      let i = steps_count n w (λ x p. b x (there e p)) in
      let off-way : passes next k r c ≡ false = not-true _
      (λ h. no_round (ends_after e w) r e (passes_true next k r c h)) in
      let j = count_less n (passes next (suc k) c) (passes next k r) (λ x h. passes_next next k c r x e h) c
      (passes_self next (suc k) c) off-way (b c here) in
      omega (arith, steps_to next k c r e)

  trim : (m : ℕ) {k c : ℕ} → Ends next k c → steps next k c < m → Ends next m c
  trim zero w l = absurd (omega arith)
  trim (suc m) (ends_here e) l = ends_here e
  trim (suc m) (ends_after {n = k} {c = c} {r = r} e w) l = ends_after e
      (trim m w (omega (arith, steps_to next k c r e)))

  pub ends_within : (n : ℕ) {k c : ℕ} → Ends next k c → ((x : ℕ) → Passes next c x → x < n) → Ends next n c
  ends_within n {k} {c} w b = trim n w (omega (arith, steps_count n w b, count_le n (passes next k c)))

module _ (next : ℕ → Next) where
  pub reaches_ends : (n c : ℕ) → reaches_outlet next n c ≡ true → Ends next n c
  unfolding reaches_outlet onward
  reaches_ends zero c h = absurd (true≢false (sym h))
  reaches_ends (suc n) c h = go (next c) refl (λ r k. reaches_ends n r k) h
    where
      go : (x : Next) → next c ≡ x → ((r : ℕ) → reaches_outlet next n r ≡ true → Ends next n r)
          → onward x true (λ r. reaches_outlet next n r) ≡ true → Ends next (suc n) c
      go None e f h = ends_here e
      go (Some r) e f h = ends_after e (f r h)

module _ {next : ℕ → Next} where
  pub ends_reaches : {n c : ℕ} → Ends next n c → reaches_outlet next n c ≡ true
  unfolding reaches_outlet onward
  ends_reaches (ends_here e) = rw e
  ends_reaches (ends_after e w) = rw e (ends_reaches w)

  -- a way that ends comes to a cell whose water goes nowhere
  pub ends_at : {n c : ℕ} → Ends next n c → (o : ℕ) × Passes next c o × (next o ≡ None)
  ends_at (ends_here {c = c} e) = (c, here, e)
  ends_at (ends_after e w) = let r = ends_at w in (r.0, there e r.1, r.2)

  -- and that is the cell at which it is found to end
  pub ends_end : {n c o : ℕ} → Ends next n c → Passes next c o → next o ≡ None → way_end next n c ≡ o
  unfolding way_end onward
  ends_end (ends_here e) here f = rw e
  ends_end (ends_here e) (there g h) f = let z : ◌≡◌ {A = ℕ} 0 1 = cc in absurd (omega arith)
  ends_end (ends_after e w) here f = let z : ◌≡◌ {A = ℕ} 0 1 = cc in absurd (omega arith)
  ends_end {o = o} (ends_after {r = r} e w) (there {r = s} g h) f =
      let same : s ≡ r = cc in
      rw e (ends_end w (rw same at h) f)

  pub at_ends : {c o : ℕ} → Passes next c o → next o ≡ None → (k : ℕ) × Ends next k c
  at_ends here e = (1, ends_here e)
  at_ends (there f h) e = let r = at_ends h e in (suc r.0, ends_after f r.1)

-- the way up to a cell p: what lies past p is cut off
module _ (next : ℕ → Next) (p : ℕ) where
  unfoldable until : ℕ → Next
  until x = cond (eqb x p) None (next x)

  until_at : until p ≡ None
  unfolding until
  until_at = rw (eq-eqb p p refl)

  until_to : (x r : ℕ) → until x ≡ Some r → (x ≢ p) × (next x ≡ Some r)
  unfolding until
  until_to x r e = go (eqb x p) refl e
    where
      go : (b : Bool) → eqb x p ≡ b → cond b None (next x) ≡ Some r → (x ≢ p) × (next x ≡ Some r)
      go true f e = let z : ◌≡◌ {A = ℕ} 0 1 = cc in absurd (omega arith)
      go false f e = (eqb-false x p f, e)

  until_on : (x r : ℕ) → x ≢ p → next x ≡ Some r → until x ≡ Some r
  unfolding until
  until_on x r d e = rw (ne_eqb x p d) e

  until_off : (x : ℕ) → x ≢ p → until x ≡ None → next x ≡ None
  unfolding until
  until_off x d e = rw (ne_eqb x p d) at e

  until_ends : {q : ℕ} → Passes next q p → (k : ℕ) × Ends until k q
  until_ends here = (1, ends_here until_at)
  until_ends (there {q = q} {r = r} e h) = go (same_or_not q p) (until_ends h)
    where
      go : (q ≡ p) ⊎ (q ≢ p) → (k : ℕ) × Ends until k r → (k : ℕ) × Ends until k q
      go (inl s) w = (1, ends_here {c = q} (rw s until_at))
      go (inr d) w = (suc w.0, ends_after (until_on q r d e) w.1)

  until_passes : {q x : ℕ} → Passes until q x → Passes next q x
  until_passes here = here
  until_passes (there {q = q} {r = r} e h) = there (until_to q r e).1 (until_passes h)

  not_at : {q : ℕ} → q ≢ p → Passes next q p → (r : ℕ) × (next q ≡ Some r) × Passes next r p
  not_at d here = absurd (d refl)
  not_at d (there {r = r} e h) = (r, e, h)

  until_steps : {n q : ℕ} → Ends until n q → Passes next q p → passes next n q p ≡ true
  until_steps (ends_here {n = n} {c = q} e) h = go (same_or_not q p)
    where
      go : (q ≡ p) ⊎ (q ≢ p) → passes next (suc n) q p ≡ true
      go (inl s) = rw s (passes_self next (suc n) p)
      go (inr d) =
          let f = until_off q d e in
          let g = (not_at d h).1 in
          let z : ◌≡◌ {A = ℕ} 0 1 = cc in absurd (omega arith)
  until_steps (ends_after {n = n} {c = q} {r = r} e w) h =
      let d = until_to q r e in
      let k = not_at d.0 h in
      let f = d.1 in
      let g = k.1 in
      let same : k.0 ≡ r = cc in
      passes_next next n q r p f (until_steps w (rw same at k.2))

-- p on q's way is among the first n + 1 cells of it, if all cells of the way are below n; circles included
pub passes_enough : {next : ℕ → Next} (n : ℕ) {q p : ℕ} → ((x : ℕ) → Passes next q x → x < n) → Passes next q p
    → passes next n q p ≡ true
passes_enough {next} n {q} {p} b h =
    until_steps next p (ends_within n (until_ends next p h).1 (λ x k. b x (until_passes next p k))) h
