-- The distinct units of a sheet rise, and are those of its inside cells; equal digits by the test, and the test of a
-- unit's cells.
use mathlib.Core.Path.{◌≡◌, refl, sym, ◌∙◌, ap}
use mathlib.Core.Bool.{Bool, true, false, cond, true≢false}
use mathlib.Core.List.Memᴰ
use mathlib.Core.List.{List, [], ◌∷◌, Memᴰ}
use mathlib.Core.Logic.{inl, inr, ◌≢◌}
use Prim.Native.Nat.{ℕ, zero, suc, ◌<◌}
use native.Mathlib.Omega.{arith}
use lib.Dec.{eqb}
use borrow.Author.Tests.{eqb-true, eqb-false, eq-eqb}
use Rattle.sheet.specs.Sheet.{Sheet, inside}
use Rattle.sheet.specs.Basins.{basin_digits}
use Rattle.sheet.proofs.Within.{both_true}
use Rattle.index.specs.Units.{with_unit, units_among, same_digits, is_of_unit}
use Rattle.index.proofs.UnitsRise.{UnitsRise, rise_none, with_mem, with_new, with_old, with_rise}

-- ---- the distinct units

pub among_rise : (S : Sheet) (n : ℕ) → UnitsRise (units_among S n)
unfolding units_among
among_rise S zero = rise_none
among_rise S (suc n) = go (inside S.grid n) (among_rise S n)
  where
    go : (b : Bool) → UnitsRise (units_among S n)
        → UnitsRise (cond b (with_unit (basin_digits S n) (units_among S n)) (units_among S n))
    go true w = with_rise (basin_digits S n) (units_among S n) w
    go false w = w

pub among_has : (S : Sheet) (n c : ℕ) → c < n → inside S.grid c ≡ true
    → Memᴰ (basin_digits S c) (units_among S n)
unfolding units_among
among_has S zero c l i = absurd (omega arith)
among_has S (suc n) c l i = go (eqb c n) refl (inside S.grid n) refl (λ k. among_has S n c k i)
  where
    go : (s : Bool) → eqb c n ≡ s → (b : Bool) → inside S.grid n ≡ b
        → (c < n → Memᴰ (basin_digits S c) (units_among S n))
        → Memᴰ (basin_digits S c) (cond b (with_unit (basin_digits S n) (units_among S n)) (units_among S n))
    go true e true q f = rw (eqb-true c n e) (with_new (basin_digits S n) (units_among S n))
    go true e false q f = absurd (true≢false (sym i ∙ ap (inside S.grid) (eqb-true c n e) ∙ q))
    go false e true q f =
        let d : c ≢ n = eqb-false c n e in
        with_old (basin_digits S n) (basin_digits S c) (units_among S n) (f (omega arith))
    go false e false q f = let d : c ≢ n = eqb-false c n e in f (omega arith)

-- an inside cell below n of the unit x
pub record CellOf (S : Sheet) (n : ℕ) (x : List ℕ) : Type 0 where
  pub cell : ℕ
  pub below : cell < n
  pub is_inside_lem : inside S.grid cell ≡ true
  pub named : basin_digits S cell ≡ x

pub among_from : (S : Sheet) (n : ℕ) (x : List ℕ) → Memᴰ x (units_among S n) → CellOf S n x
unfolding units_among
among_from S zero x m = absurd (Memᴰ.not-nil m)
among_from S (suc n) x m = go (inside S.grid n) refl m (among_from S n x)
  where
    older : CellOf S n x → CellOf S (suc n) x
    older r =
        let l = r.below in
        record { cell = r.cell; below = omega arith; is_inside_lem = r.is_inside_lem; named = r.named }

    go : (b : Bool) → inside S.grid n ≡ b
        → Memᴰ x (cond b (with_unit (basin_digits S n) (units_among S n)) (units_among S n))
        → (Memᴰ x (units_among S n) → CellOf S n x) → CellOf S (suc n) x
    go true q k f = elim (with_mem (basin_digits S n) x (units_among S n) k) [
      | inl e ↦ record { cell = n; below = omega arith; is_inside_lem = q; named = sym e }
      | inr j ↦ older (f j)
    ]
    go false q k f = older (f k)

-- ---- equal digits

pub same_true : (x y : List ℕ) → same_digits x y ≡ true → x ≡ y
unfolding same_digits
same_true [] [] e = refl
same_true [] (b ∷ y) e = absurd (true≢false (sym e))
same_true (a ∷ x) [] e = absurd (true≢false (sym e))
same_true (a ∷ x) (b ∷ y) e = go (eqb a b) refl e (same_true x y)
  where
    go : (t : Bool) → eqb a b ≡ t → cond t (same_digits x y) false ≡ true → (same_digits x y ≡ true → x ≡ y)
        → a ∷ x ≡ b ∷ y
    go true q h f = let p = eqb-true a b q in let r = f h in λ i. p i ∷ r i
    go false q h f = absurd (true≢false (sym h))

pub same_refl : (x : List ℕ) → same_digits x x ≡ true
unfolding same_digits
same_refl [] = refl
same_refl (a ∷ x) = rw (eq-eqb a a refl) (same_refl x)

pub same_equal : (x y : List ℕ) → x ≡ y → same_digits x y ≡ true
same_equal x y e = rw e (same_refl y)

-- ---- the test of a unit's cells

pub of_unit : (S : Sheet) (c : ℕ) (x : List ℕ) → inside S.grid c ≡ true → basin_digits S c ≡ x → is_of_unit S x c ≡ true
unfolding is_of_unit
of_unit S c x i e = rw i (same_equal (basin_digits S c) x e)

pub unit_of_lem : (S : Sheet) (c : ℕ) (x : List ℕ) → is_of_unit S x c ≡ true
    → (inside S.grid c ≡ true) × (basin_digits S c ≡ x)
unfolding is_of_unit
unit_of_lem S c x e =
    let b = both_true (inside S.grid c) (same_digits (basin_digits S c) x) e in (b.0, same_true _ x b.1)
