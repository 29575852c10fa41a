-- Laws of any grid: the fuel of its tests is enough, and the bounds of its areas.
use mathlib.Core.Path.{◌≡◌, refl, sym, ◌∙◌, ap₂}
use mathlib.Core.Bool.{Bool, true, false, cond, not, true≢false}
use mathlib.Core.List.{List, [], ◌∷◌, Memᴰ}
use mathlib.Core.Logic.{◌↔◌}
use Prim.Native.Nat.{ℕ, ◌+◌, ◌≤◌, ◌<◌}
use native.Mathlib.Omega.{arith}
use Rattle.sheet.specs.Water.{passes, reaches_outlet, Passes, here, there}
use Rattle.sheet.specs.Label.{outlet_of}
use Rattle.sheet.specs.River.{network, donors}
use Rattle.sheet.specs.Refusal.{undrained}
use Rattle.sheet.specs.Area.{count, sum_over, drains_into, weight, area}
use Rattle.sheet.specs.Sheet.{cells, inside, next, Grid, Sheet}
use Rattle.sheet.proofs.Cells.{inside_lt, next_goes}
use Rattle.claims.specs.Basin.{Ends, Forest}
use Rattle.claims.specs.Bounds.{sum, ComesToOutlet, NeverComes, FuelIsEnough}
use Rattle.claims.proofs.Lawful.{passes_true}
use Rattle.claims.proofs.Counts.{count_mono, not-true}
use Rattle.claims.proofs.Sums.{sum_mono, sum_has, sum_same as sum-over-same, count_sum}
use Rattle.claims.proofs.Fuel.{passes_self, ends_within, reaches_ends, ends_reaches, ends_at, at_ends, ends_end}
use Rattle.claims.proofs.Fuel.{passes_enough}
use Rattle.claims.proofs.Areas.{area_sum}
use Rattle.claims.proofs.Basins.{lawful}
use Rattle.claims.proofs.Sheets.{outlet_is, is_outlet_lem}

module _ (G : Grid) where
  way_below : (q : ℕ) → inside G q ≡ true → (x : ℕ) → Passes (next G) q x → x < cells G
  way_below q i x here = inside_lt G q i
  way_below q i x (there {r = r} e h) = way_below r (next_goes G q e).to_inside x h

  pub passes_is : (q p : ℕ) → inside G q ≡ true → (passes (next G) (cells G) q p ≡ true) ↔ Passes (next G) q p
  passes_is q p i = (passes_true (next G) (cells G) q p, λ h. passes_enough (cells G) (way_below q i) h)

  comes_ends : (c : ℕ) → ComesToOutlet G c → (k : ℕ) × Ends (next G) k c
  comes_ends c o = at_ends o.passed (outlet_is G o.cell o.is_outlet_lem).1

  ends_comes : (c : ℕ) {k : ℕ} → inside G c ≡ true → Ends (next G) k c → ComesToOutlet G c
  ends_comes c i w =
      let e = ends_at w in
      record { cell = e.0; passed = e.1; is_outlet_lem = is_outlet_lem G e.0 (stays c i e.0 e.1) e.2 }
    where
      stays : (q : ℕ) → inside G q ≡ true → (x : ℕ) → Passes (next G) q x → inside G x ≡ true
      stays q k x here = k
      stays q k x (there {r = r} e h) = stays r (next_goes G q e).to_inside x h

  -- the test of refusal 6, taken apart
  undrained_parts : (c : ℕ) → undrained G c ≡ true → (inside G c ≡ true) × (reaches_outlet (next G) (cells G) c ≡ false)
  unfolding undrained
  undrained_parts c e = go (inside G c) refl (reaches_outlet (next G) (cells G) c) refl e
    where
      go : (a : Bool) → inside G c ≡ a → (b : Bool) → reaches_outlet (next G) (cells G) c ≡ b
          → cond a (not b) false ≡ true
          → (inside G c ≡ true) × (reaches_outlet (next G) (cells G) c ≡ false)
      go true x true y e = absurd (true≢false (sym e))
      go true x false y e = (x, y)
      go false x b y e = absurd (true≢false (sym e))

  undrained_made : (c : ℕ) → inside G c ≡ true → reaches_outlet (next G) (cells G) c ≡ false → undrained G c ≡ true
  unfolding undrained
  undrained_made c i r = go (inside G c) i (reaches_outlet (next G) (cells G) c) r
    where
      go : (a : Bool) → a ≡ true → (b : Bool) → b ≡ false → cond a (not b) false ≡ true
      go a x b y = rw (x, y)

  pub undrained_is : (c : ℕ) → (undrained G c ≡ true) ↔ NeverComes G c
  undrained_is c = (there_way, back_way)
    where
      there_way : undrained G c ≡ true → NeverComes G c
      there_way e =
          let u = undrained_parts c e in
          record {
            is_inside_lem = u.0;
            never = λ o.
                let k = comes_ends c o in
                let w = ends_within (cells G) k.1 (way_below c u.0) in
                true≢false (sym (ends_reaches w) ∙ u.1);
          }

      back_way : NeverComes G c → undrained G c ≡ true
      back_way n =
          undrained_made c n.is_inside_lem
          (not-true (reaches_outlet (next G) (cells G) c)
          (λ r. n.never (ends_comes c n.is_inside_lem (reaches_ends (next G) (cells G) c r))))

  comes_to : (c : ℕ) → inside G c ≡ true → (o : ComesToOutlet G c) → outlet_of G c ≡ o.cell
  unfolding outlet_of
  comes_to c i o =
      ends_end (ends_within (cells G) (comes_ends c o).1 (way_below c i)) o.passed
      (outlet_is G o.cell o.is_outlet_lem).1

  pub fuel_is_enough : FuelIsEnough G
  fuel_is_enough = record { passes_is = passes_is; undrained_is = undrained_is; outlet_is = comes_to }

  drains_inside : (c q : ℕ) → drains_into G c q ≡ true → inside G q ≡ true
  unfolding drains_into
  drains_inside c q e = go (inside G q) e
    where
      go : (b : Bool) → cond b (passes (next G) (cells G) q c) false ≡ true → b ≡ true
      go true e = refl
      go false e = absurd (true≢false (sym e))

  pub drains_itself : (c : ℕ) → inside G c ≡ true → drains_into G c c ≡ true
  unfolding drains_into
  drains_itself c i = go (inside G c) i
    where
      go : (b : Bool) → b ≡ true → cond b (passes (next G) (cells G) c c) false ≡ true
      go b e = rw e (passes_self (next G) (cells G) c)

pub sum_same : (f g : ℕ → ℕ) (us : List ℕ) → ((u : ℕ) → Memᴰ u us → f u ≡ g u) → sum f us ≡ sum g us
unfolding sum
sum_same f g [] h = refl
sum_same f g (u ∷ us) h = ap₂ ◌+◌ (h u (Memᴰ.head refl)) (sum_same f g us (λ x m. h x (Memᴰ.tail m)))

-- ---- areas
module _ (S : Sheet) where
  abbrev G : Grid
  G = S.grid

  area_inside : (c : ℕ) → inside G c ≡ true → area S c ≡ sum_over (cells G) (drains_into G c) (weight S)
  unfolding area
  area_inside c i = go (inside G c) i
    where
      go : (b : Bool) → b ≡ true
          → cond b (sum_over (cells G) (drains_into G c) (weight S)) 0 ≡ sum_over (cells G) (drains_into G c) (weight S)
      go b e = rw e

  pub area_least : ((c : ℕ) → inside G c ≡ true → 1 ≤ weight S c) → (c : ℕ) → inside G c ≡ true → 1 ≤ area S c
  area_least some c i =
      omega (
        arith,
        area_inside c i,
        some c i,
        sum_has (cells G) (drains_into G c) (weight S) c (drains_itself G c i) (inside_lt G c i),
      )

  pub area_most : (c : ℕ) → inside G c ≡ true → area S c ≤ sum_over (cells G) (inside G) (weight S)
  area_most c i = rw (area_inside c i) (sum_mono (cells G) (inside G) (drains_into G c) (weight S) (drains_inside G c))

  -- where every cell has the weight 1, areas count cells
  pub area_count : ((c : ℕ) → c < cells G → weight S c ≡ 1) → (c : ℕ) → inside G c ≡ true
      → area S c ≡ count (cells G) (drains_into G c)
  area_count ones c i =
      area_inside c i
      ∙ sum-over-same (cells G) (drains_into G c) (drains_into G c) (weight S) (λ q. 1) (λ q l. refl) ones
      ∙ sym (count_sum (cells G) (drains_into G c))

  pub area_count_most : ((c : ℕ) → c < cells G → weight S c ≡ 1) → (c : ℕ) → inside G c ≡ true
      → area S c ≤ count (cells G) (inside G)
  area_count_most ones c i =
      rw (area_count ones c i) (count_mono (cells G) (inside G) (drains_into G c) (drains_inside G c))

  pub area_adds : Forest (network S) (λ c. inside G c ≡ true) → (c : ℕ) → inside G c ≡ true
      → area S c ≡ weight S c + sum (area S) (donors (network S) c)
  unfolding network drains_into
  area_adds F c i =
      let s = area_sum (lawful F) (inside G) (weight S) c i (inside_lt G c i) in
      let d = sum_same (area S) (λ u. sum_over (cells G) (drains_into G u) (weight S)) (donors (network S) c)
      (λ u m. area_inside u (next_goes G u ((lawful F).donor_steps c u m)).from_inside) in
      area_inside c i ∙ s ∙ (rw d refl)
