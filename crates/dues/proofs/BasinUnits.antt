-- Those of rising units whose basin it is: they rise, and stand side by side.
use mathlib.Core.Path.{◌≡◌, refl, sym, ◌∙◌, ap}
use mathlib.Core.Bool.{Bool, true, false, cond, true≢false}
use mathlib.Core.List.Memᴰ
use mathlib.Core.List.{List, [], ◌∷◌, Memᴰ}
use mathlib.Core.Logic.{◌⊎◌, inl, inr, ◌≢◌}
use Prim.Native.Nat.{ℕ, zero, suc, ◌+◌, ◌≤◌, ◌<◌}
use native.Mathlib.Nat.{zero-add}
use native.Mathlib.Omega.{arith}
use lib.Dec.{eqb, ltb}
use lib.ListN.{length, get_or}
use borrow.Author.Tests.{eqb-true, eqb-false, eq-eqb, ne_eqb, ltb-true}
use Rattle.claims.specs.Dictionary.{is_before}
use Rattle.index.proofs.UnitsRise.{UnitsRise, rise_none, rise_on}
use Rattle.index.proofs.ListPlaces.{at_place}
use Rattle.dues.specs.Levy.{basin_of_unit, of_basin}

-- a unit that stands before another has no larger basin
basins_rise : (x y : List ℕ) → is_before x y ≡ true → basin_of_unit x ≤ basin_of_unit y
unfolding is_before
basins_rise [] y e = omega arith
basins_rise (a ∷ x) [] e = absurd (true≢false (sym e))
basins_rise (a ∷ x) (b ∷ y) e = go (eqb a b) refl e
  where
    go : (t : Bool) → eqb a b ≡ t → cond t (is_before x y) (ltb a b) ≡ true → a ≤ b
    go true q h = omega (arith, eqb-true a b q)
    go false q h = omega (arith, ltb-true a b h)

module _ (basin : ℕ) where
  pub of_basin_mem : (xs : List (List ℕ)) (y : List ℕ) → Memᴰ y (of_basin basin xs)
      → Memᴰ y xs × (basin_of_unit y ≡ basin)
  unfolding of_basin
  of_basin_mem [] y m = absurd (Memᴰ.not-nil m)
  of_basin_mem (x ∷ xs) y m = go (eqb (basin_of_unit x) basin) refl m (of_basin_mem xs y)
    where
      further : Memᴰ y xs × (basin_of_unit y ≡ basin) → Memᴰ y (x ∷ xs) × (basin_of_unit y ≡ basin)
      further r = (Memᴰ.tail r.0, r.1)

      go : (b : Bool) → eqb (basin_of_unit x) basin ≡ b
          → Memᴰ y (cond b (x ∷ of_basin basin xs) (of_basin basin xs))
          → (Memᴰ y (of_basin basin xs) → Memᴰ y xs × (basin_of_unit y ≡ basin))
          → Memᴰ y (x ∷ xs) × (basin_of_unit y ≡ basin)
      go true e k f = elim (Memᴰ.cases_cons k) [
        | inl q ↦ (Memᴰ.head q, ap basin_of_unit q ∙ eqb-true (basin_of_unit x) basin e)
        | inr j ↦ further (f j)
      ]
      go false e k f = further (f k)

  pub mem_of_basin : (xs : List (List ℕ)) (y : List ℕ) → Memᴰ y xs → basin_of_unit y ≡ basin
      → Memᴰ y (of_basin basin xs)
  unfolding of_basin
  mem_of_basin [] y m p = absurd (Memᴰ.not-nil m)
  mem_of_basin (x ∷ xs) y m p =
      go (eqb (basin_of_unit x) basin) refl (Memᴰ.cases_cons m) (λ k. mem_of_basin xs y k p)
    where
      go : (b : Bool) → eqb (basin_of_unit x) basin ≡ b → (y ≡ x) ⊎ Memᴰ y xs
          → (Memᴰ y xs → Memᴰ y (of_basin basin xs))
          → Memᴰ y (cond b (x ∷ of_basin basin xs) (of_basin basin xs))
      go true e (inl q) f = Memᴰ.head q
      go true e (inr k) f = Memᴰ.tail (f k)
      go false e (inl q) f = absurd (eqb-false (basin_of_unit x) basin e (ap basin_of_unit (sym q) ∙ p))
      go false e (inr k) f = f k

  pub of_basin_rise : {xs : List (List ℕ)} → UnitsRise xs → UnitsRise (of_basin basin xs)
  unfolding of_basin
  of_basin_rise rise_none = rise_none
  of_basin_rise (rise_on {x = x} {xs = xs} b w) = go (eqb (basin_of_unit x) basin) (of_basin_rise w)
    where
      go : (t : Bool) → UnitsRise (of_basin basin xs)
          → UnitsRise (cond t (x ∷ of_basin basin xs) (of_basin basin xs))
      go true r = rise_on (λ y m. b y (of_basin_mem xs y m).0) r
      go false r = r

  pub of_basin_none : (xs : List (List ℕ)) → ((y : List ℕ) → Memᴰ y xs → basin_of_unit y ≢ basin)
      → of_basin basin xs ≡ []
  unfolding of_basin
  of_basin_none [] h = refl
  of_basin_none (x ∷ xs) h =
      rw (ne_eqb (basin_of_unit x) basin (h x (Memᴰ.head refl))) (of_basin_none xs (λ y m. h y (Memᴰ.tail m)))

  -- ---- side by side

  -- the units of the basin are those from `start` on, as many as they are
  pub record Stretch (xs : List (List ℕ)) (start : ℕ) : Type 0 where
    pub within : start + length (of_basin basin xs) ≤ length xs
    pub at : (k : ℕ) → k < length (of_basin basin xs) → get_or xs (start + k) [] ≡ get_or (of_basin basin xs) k []
    pub no_other : (k : ℕ) → k < length xs → basin_of_unit (get_or xs k []) ≡ basin
        → (start ≤ k) × (k < start + length (of_basin basin xs))

  none_stretch : (xs : List (List ℕ)) → ((y : List ℕ) → Memᴰ y xs → basin_of_unit y ≢ basin) → Stretch xs 0
  none_stretch xs h =
      let none = ap length (of_basin_none xs h) in
      record {
        within = omega (arith, none);
        at = λ k l. absurd (omega (arith, none));
        no_other = λ k l e. absurd (h (get_or xs k []) (at_place [] xs k l) e);
      }

  -- one more at the front
  begun : (x : List ℕ) (xs : List (List ℕ)) → basin_of_unit x ≡ basin → Stretch xs 0 → Stretch (x ∷ xs) 0
  unfolding of_basin
  begun x xs p s = record {
    within = rw e (omega (arith, s.within));
    at = rw e at;
    no_other = rw e no_other;
  }
    where
      e : eqb (basin_of_unit x) basin ≡ true
      e = eq-eqb (basin_of_unit x) basin p

      at : (k : ℕ) → k < suc (length (of_basin basin xs)) → get_or (x ∷ xs) (0 + k) [] ≡ get_or (x ∷ of_basin basin xs) k []
      at zero l = refl
      at (suc k) l = rw (zero-add (suc k)) (rw (zero-add k) at (s.at k (omega arith)))

      no_other : (k : ℕ) → k < suc (length xs) → basin_of_unit (get_or (x ∷ xs) k []) ≡ basin
          → (0 ≤ k) × (k < 0 + suc (length (of_basin basin xs)))
      no_other zero l q = (omega arith, omega arith)
      no_other (suc k) l q = let r = s.no_other k (omega arith) q in (omega arith, omega (arith, r.1))

  -- no basin is smaller: they stand first
  first_stretch : {xs : List (List ℕ)} → UnitsRise xs
      → ((y : List ℕ) → Memᴰ y xs → basin ≤ basin_of_unit y) → Stretch xs 0
  unfolding of_basin
  first_stretch rise_none h = none_stretch [] (λ y m. absurd (Memᴰ.not-nil m))
  first_stretch (rise_on {x = x} {xs = xs} b w) h =
      go (eqb (basin_of_unit x) basin) refl (first_stretch w (λ y m. h y (Memᴰ.tail m)))
    where
      larger : basin_of_unit x ≢ basin → (y : List ℕ) → Memᴰ y (x ∷ xs) → basin_of_unit y ≢ basin
      larger n y m = elim (Memᴰ.cases_cons m) [
        | inl q ↦ rw q n
        | inr k ↦ λ e. n (
            let u = basins_rise x y (b y k) in let v = h x (Memᴰ.head refl) in omega (arith, u, v, e))
      ]

      go : (t : Bool) → eqb (basin_of_unit x) basin ≡ t → Stretch xs 0 → Stretch (x ∷ xs) 0
      go true e s = begun x xs (eqb-true (basin_of_unit x) basin e) s
      go false e s = none_stretch (x ∷ xs) (larger (eqb-false (basin_of_unit x) basin e))

  pub stretch : {xs : List (List ℕ)} → UnitsRise xs → (start : ℕ) × Stretch xs start
  unfolding of_basin
  stretch rise_none = (0, none_stretch [] (λ y m. absurd (Memᴰ.not-nil m)))
  stretch (rise_on {x = x} {xs = xs} b w) = go (eqb (basin_of_unit x) basin) refl (stretch w)
    where
      later : (start : ℕ) → eqb (basin_of_unit x) basin ≡ false → Stretch xs start → Stretch (x ∷ xs) (suc start)
      later start e s = record {
        within = rw e (omega (arith, s.within));
        at = rw e (λ k l. let more : suc start + k ≡ suc (start + k) = omega arith in rw more (s.at k l));
        no_other = rw e no_other;
      }
        where
          no_other : (k : ℕ) → k < suc (length xs) → basin_of_unit (get_or (x ∷ xs) k []) ≡ basin
              → (suc start ≤ k) × (k < suc start + length (of_basin basin xs))
          no_other zero l q = absurd (eqb-false (basin_of_unit x) basin e q)
          no_other (suc k) l q = let r = s.no_other k (omega arith) q in (omega (arith, r.0), omega (arith, r.1))

      go : (t : Bool) → eqb (basin_of_unit x) basin ≡ t → (start : ℕ) × Stretch xs start
          → (start : ℕ) × Stretch (x ∷ xs) start
      go true e s =
          let p = eqb-true (basin_of_unit x) basin e in
          (0, begun x xs p (first_stretch w (λ y m. omega (arith, p, basins_rise x y (b y m)))))
      go false e s = (suc s.0, later s.0 e s.1)
