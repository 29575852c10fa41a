-- The outlet to which a cell's water comes, and the number of its basin, where every inside cell comes to an outlet.
use mathlib.Core.Path.{◌≡◌, refl, sym, ◌∙◌, ap}
use mathlib.Core.Bool.{Bool, true, false, cond}
use Prim.Native.Nat.{ℕ, zero, suc, ◌≤◌, ◌<◌}
use native.Mathlib.Omega.{arith}
use native.Mathlib.Decide.{dec_lt}
use Rattle.sheet.specs.Sheet.{Grid, cells, inside, next, is_outlet}
use Rattle.sheet.specs.Water.{Passes, here, there}
use Rattle.sheet.specs.Area.{count}
use Rattle.sheet.specs.Label.{outlet_of}
use Rattle.sheet.specs.Basins.{basin_number, basin_of}
use Rattle.sheet.proofs.Cells.{inside_lt, next_goes}
use Rattle.claims.specs.Basin.{Ends}
use Rattle.claims.proofs.Counts.{count_some}
use Rattle.claims.proofs.Fuel.{reaches_ends, ends_at, ends_end}
use Rattle.claims.proofs.Sheets.{PassedOn, outlet_is, is_outlet_lem, all_reach}
use Rattle.std.specs.Prelude.{None, Some}

-- ---- counts of the first cells

pub count_longer : (t : ℕ → Bool) (n m : ℕ) → n ≤ m → count n t ≤ count m t
unfolding count
count_longer t n zero l = rw (zero_is n l) (omega arith)
  where
    zero_is : (k : ℕ) → k ≤ 0 → k ≡ 0
    zero_is k l = omega arith
count_longer t n (suc m) l = elim (dec_lt m n) [
  | yes h ↦ let e : n ≡ suc m = omega arith in omega (arith, ap (λ (k : ℕ). count k t) e)
  | no h ↦ go (t m) (count_longer t n m (omega arith))
]
  where
    go : (b : Bool) → count n t ≤ count m t → count n t ≤ cond b (suc (count m t)) (count m t)
    go true h = omega arith
    go false h = h

-- of two cells that pass, more have passed up to the later one
pub count_rising : (t : ℕ → Bool) (o p : ℕ) → t p ≡ true → o < p → count (suc o) t < count (suc p) t
unfolding count
count_rising t o p e l = let h = count_longer t (suc o) p l in rw e (omega arith)

-- ---- the outlet of a cell

module _ (G : Grid) where
  pub way_inside : (q x : ℕ) → inside G q ≡ true → Passes (next G) q x → inside G x ≡ true
  way_inside q x i here = i
  way_inside q x i (there {r = r} e h) = way_inside r x (next_goes G q e).to_inside h

  pub basin_inside : (c : ℕ) → inside G c ≡ true → basin_of G c ≡ basin_number G (outlet_of G c)
  unfolding basin_of
  basin_inside c i = go (inside G c) i
    where
      go : (b : Bool) → b ≡ true → cond b (basin_number G (outlet_of G c)) 0 ≡ basin_number G (outlet_of G c)
      go b e = rw e

  pub basin_outside : (c : ℕ) → inside G c ≡ false → basin_of G c ≡ 0
  unfolding basin_of
  basin_outside c i = go (inside G c) i
    where
      go : (b : Bool) → b ≡ false → cond b (basin_number G (outlet_of G c)) 0 ≡ 0
      go b e = rw e

module _ (G : Grid) (P : PassedOn G) where
  comes : (q : ℕ) → inside G q ≡ true → Ends (next G) (cells G) q
  comes q i = reaches_ends (next G) (cells G) q (all_reach G P q i)

  pub way_outlet : (q o : ℕ) → inside G q ≡ true → Passes (next G) q o → next G o ≡ None → outlet_of G q ≡ o
  unfolding outlet_of
  way_outlet q o i h e = ends_end (comes q i) h e

  pub outlet_of_is : (q : ℕ) → inside G q ≡ true
      → (is_outlet G (outlet_of G q) ≡ true) × Passes (next G) q (outlet_of G q)
  outlet_of_is q i =
      let w = ends_at (comes q i) in
      let same = way_outlet q w.0 i w.1 w.2 in
      rw same (is_outlet_lem G w.0 (way_inside G q w.0 i w.1) w.2, w.1)

  pub outlet_own : (o : ℕ) → is_outlet G o ≡ true → outlet_of G o ≡ o
  outlet_own o e = let r = outlet_is G o e in way_outlet o o r.0 here r.1

  -- ---- the number of a basin

  pub number_of_way : (q o : ℕ) → inside G q ≡ true → is_outlet G o ≡ true → Passes (next G) q o
      → basin_of G q ≡ count (suc o) (is_outlet G)
  unfolding basin_number
  number_of_way q o i e h =
      basin_inside G q i ∙ ap (basin_number G) (way_outlet q o i h (outlet_is G o e).1)

  pub outlet_number : (o : ℕ) → is_outlet G o ≡ true → basin_of G o ≡ count (suc o) (is_outlet G)
  outlet_number o e = number_of_way o o (outlet_is G o e).0 e here

  -- water stays in its basin
  pub way_basin : (q p : ℕ) → Passes (next G) q p → basin_of G q ≡ basin_of G p
  way_basin q p here = refl
  way_basin q p (there {r = r} e h) = step e ∙ way_basin r p h
    where
      step : next G q ≡ Some r → basin_of G q ≡ basin_of G r
      step e =
          let g = next_goes G q e in
          let o = outlet_of_is r g.to_inside in
          number_of_way q (outlet_of G r) g.from_inside o.0 (there e o.1)
          ∙ sym (number_of_way r (outlet_of G r) g.to_inside o.0 o.1)

  pub basin_stays : (q r : ℕ) → next G q ≡ Some r → basin_of G q ≡ basin_of G r
  basin_stays q r e = way_basin q r (there e here)

  -- a later outlet has a larger number
  pub outlets_rise : (o p : ℕ) → is_outlet G o ≡ true → is_outlet G p ≡ true → o < p → basin_of G o < basin_of G p
  outlets_rise o p e f l =
      omega (arith, outlet_number o e, outlet_number p f, count_rising (is_outlet G) o p f l)

  outlets_same : (o p : ℕ) → is_outlet G o ≡ true → is_outlet G p ≡ true → basin_of G o ≡ basin_of G p → o ≡ p
  outlets_same o p e f same = elim (dec_lt o p) [
    | yes l ↦ absurd (omega (arith, outlets_rise o p e f l))
    | no l ↦ elim (dec_lt p o) [
      | yes m ↦ absurd (omega (arith, outlets_rise p o f e m))
      | no m ↦ omega arith
    ]
  ]

  -- cells of one basin come to one outlet
  pub same_outlet : (p q : ℕ) → inside G p ≡ true → inside G q ≡ true → basin_of G p ≡ basin_of G q
      → outlet_of G p ≡ outlet_of G q
  same_outlet p q i j same =
      let a = outlet_of_is p i in
      let b = outlet_of_is q j in
      outlets_same (outlet_of G p) (outlet_of G q) a.0 b.0
      (sym (way_basin p (outlet_of G p) a.1) ∙ same ∙ way_basin q (outlet_of G q) b.1)

  -- basins are numbered from 1 to the number of outlets
  pub basin_some : (c : ℕ) → inside G c ≡ true → 1 ≤ basin_of G c
  basin_some c i =
      let o = outlet_of_is c i in
      omega (
        arith,
        number_of_way c (outlet_of G c) i o.0 o.1,
        count_some (suc (outlet_of G c)) (is_outlet G) (outlet_of G c) o.0 (omega arith),
      )

  pub basin_most : (c : ℕ) → inside G c ≡ true → basin_of G c ≤ count (cells G) (is_outlet G)
  basin_most c i =
      let o = outlet_of_is c i in
      omega (
        arith,
        number_of_way c (outlet_of G c) i o.0 o.1,
        count_longer (is_outlet G) (suc (outlet_of G c)) (cells G)
            (inside_lt G (outlet_of G c) (outlet_is G (outlet_of G c) o.0).0),
      )
