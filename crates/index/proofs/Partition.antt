-- Sums over the cells of several units are those of the units' sums; the counts of the units add up to the number of
-- inside cells.
use mathlib.Core.Path.{◌≡◌, refl, sym, ◌∙◌}
use mathlib.Core.Bool.{Bool, true, false, cond, true≢false}
use mathlib.Core.List.Memᴰ
use mathlib.Core.List.{List, [], ◌∷◌, map, Memᴰ}
use mathlib.Core.Logic.{◌⊎◌, inl, inr}
use Prim.Native.Nat.{ℕ, ◌<◌}
use native.Mathlib.Omega.{arith}
use Rattle.sheet.specs.Sheet.{Sheet, cells, inside}
use Rattle.sheet.specs.Area.{count, sum_over}
use Rattle.sheet.specs.Basins.{basin_digits}
use Rattle.claims.specs.Bounds.{sum}
use Rattle.claims.proofs.Counts.{not-true}
use Rattle.claims.proofs.Sums.{Either, sum_either, sum_zero, count_sum, sum_same}
use Rattle.claims.proofs.Dictionary.{before_irreflexive}
use Rattle.index.specs.Units.{is_of_unit, is_of_one, unit_cells, distinct_units}
use Rattle.index.proofs.UnitsRise.{UnitsRise, rise_on}
use Rattle.index.proofs.Distinct.{among_rise, among_has, of_unit, unit_of_lem}

pub of_one : (S : Sheet) (xs : List (List ℕ)) (c : ℕ) → is_of_one S xs c ≡ true
    → (inside S.grid c ≡ true) × Memᴰ (basin_digits S c) xs
unfolding is_of_one
of_one S [] c e = absurd (true≢false (sym e))
of_one S (x ∷ xs) c e = go (is_of_unit S x c) refl e (of_one S xs c)
  where
    go : (b : Bool) → is_of_unit S x c ≡ b → cond b true (is_of_one S xs c) ≡ true
        → (is_of_one S xs c ≡ true → (inside S.grid c ≡ true) × Memᴰ (basin_digits S c) xs)
        → (inside S.grid c ≡ true) × Memᴰ (basin_digits S c) (x ∷ xs)
    go true u h f = let r = unit_of_lem S c x u in (r.0, Memᴰ.head r.1)
    go false u h f = let r = f h in (r.0, Memᴰ.tail r.1)

pub one_of_lem : (S : Sheet) (xs : List (List ℕ)) (c : ℕ) → inside S.grid c ≡ true → Memᴰ (basin_digits S c) xs
    → is_of_one S xs c ≡ true
unfolding is_of_one
one_of_lem S [] c i m = absurd (Memᴰ.not-nil m)
one_of_lem S (x ∷ xs) c i m = go (is_of_unit S x c) refl (Memᴰ.cases_cons m) (one_of_lem S xs c i)
  where
    go : (b : Bool) → is_of_unit S x c ≡ b → (basin_digits S c ≡ x) ⊎ Memᴰ (basin_digits S c) xs
        → (Memᴰ (basin_digits S c) xs → is_of_one S xs c ≡ true) → cond b true (is_of_one S xs c) ≡ true
    go true u k f = refl
    go false u (inl e) f = absurd (true≢false (sym (of_unit S c x i e) ∙ u))
    go false u (inr k) f = f k

-- the cells of the first unit, and those of the others
split_units : (S : Sheet) (n : ℕ) (x : List ℕ) (xs : List (List ℕ)) → UnitsRise (x ∷ xs)
    → Either n (is_of_one S (x ∷ xs)) (is_of_unit S x) (is_of_one S xs)
unfolding is_of_one
split_units S n x xs (rise_on b w) = record {
  split = λ q l h. either q (is_of_unit S x q) h refl;
  left = λ q l h. rw h;
  right = λ q l h. later q (is_of_unit S x q) h;
  apart = λ q l h k.
      let e = (unit_of_lem S q x h).1 in
      let m = (of_one S xs q k).1 in
      true≢false (sym (b (basin_digits S q) m) ∙ rw e (before_irreflexive x));
}
  where
    either : (q : ℕ) (t : Bool) → cond t true (is_of_one S xs q) ≡ true → is_of_unit S x q ≡ t
        → (is_of_unit S x q ≡ true) ⊎ (is_of_one S xs q ≡ true)
    either q true h e = inl e
    either q false h e = inr h

    later : (q : ℕ) (t : Bool) → is_of_one S xs q ≡ true → cond t true (is_of_one S xs q) ≡ true
    later q true h = refl
    later q false h = h

-- the sum over the cells of units that rise is that of their sums
pub sum_units : (S : Sheet) (f : ℕ → ℕ) (xs : List (List ℕ)) → UnitsRise xs
    → sum (λ m. m) (map (λ x. sum_over (cells S.grid) (is_of_unit S x) f) xs)
    ≡ sum_over (cells S.grid) (is_of_one S xs) f
unfolding sum is_of_one
sum_units S f [] w = sym (sum_zero (cells S.grid) (is_of_one S []) f (λ q l. refl))
sum_units S f (x ∷ xs) (rise_on b w) =
    let n = cells S.grid in
    omega (
      arith,
      sum_units S f xs w,
      sum_either n (is_of_one S (x ∷ xs)) (is_of_unit S x) (is_of_one S xs) f (split_units S n x xs (rise_on b w)),
    )

-- every inside cell is of one of the units, and no other cell is
all_of_one : (S : Sheet) (q : ℕ) → q < cells S.grid → is_of_one S (distinct_units S) q ≡ inside S.grid q
unfolding distinct_units
all_of_one S q l = go (inside S.grid q) refl
  where
    go : (b : Bool) → inside S.grid q ≡ b → is_of_one S (distinct_units S) q ≡ b
    go true i = one_of_lem S (distinct_units S) q i (among_has S (cells S.grid) q l i)
    go false i = not-true _ (λ h. true≢false (sym (of_one S (distinct_units S) q h).0 ∙ i))

-- the sum over the cells of all units is that over all inside cells
pub sum_all_units : (S : Sheet) (f : ℕ → ℕ)
    → sum_over (cells S.grid) (is_of_one S (distinct_units S)) f ≡ sum_over (cells S.grid) (inside S.grid) f
sum_all_units S f = sum_same (cells S.grid) _ _ f f (all_of_one S) (λ q l. refl)

-- a count of cells as such a sum
cells_sum : (S : Sheet) (x : List ℕ) → unit_cells S x ≡ sum_over (cells S.grid) (is_of_unit S x) (λ q. 1)
unfolding unit_cells
cells_sum S x = count_sum (cells S.grid) (is_of_unit S x)

pub counts_add : (S : Sheet)
    → sum (λ m. m) (map (unit_cells S) (distinct_units S)) ≡ count (cells S.grid) (inside S.grid)
unfolding distinct_units
counts_add S =
    let n = cells S.grid in
    (λ i. sum (λ m. m) (map (λ x. cells_sum S x i) (distinct_units S)))
    ∙ sum_units S (λ q. 1) (distinct_units S) (among_rise S n) ∙ sum_all_units S (λ q. 1)
    ∙ sym (count_sum n (inside S.grid))
