-- Laws of where two labels part.
use mathlib.Core.Path.{◌≡◌, refl}
use mathlib.Core.Bool.{Bool, true, false, cond, not}
use mathlib.Core.List.{List, [], ◌∷◌}
use Prim.Native.Nat.{ℕ, suc, ◌+◌, ◌<◌}
use native.Mathlib.Numerals.{add-one}
use native.Mathlib.Omega.{arith}
use lib.Dec.{eqb}
use lib.ListN.{length}
use Rattle.sheet.specs.Flow.{part_from, part_at}
use Rattle.std.specs.List.{position_from, zip}
use Rattle.sheet.specs.Answer.{Found}
use Rattle.std.specs.Prelude.{Some}

-- ---- where two labels part, by the pairs of their digits

abbrev pub differ : ℕ × ℕ → Bool
differ pair = not (eqb pair.0 pair.1)

pub part_zipped : (i : ℕ) (x y : List ℕ) → position_from differ i (zip x y) ≡ part_from i x y
unfolding part_from
part_zipped i [] y = refl
part_zipped i (a ∷ x) [] = refl
part_zipped i (a ∷ x) (b ∷ y) = rw (add-one i, part_zipped (suc i) x y) (go (eqb a b) (part_from (suc i) x y))
  where
    go : (same : Bool) (rest : Found) → cond (not same) (Some i) rest ≡ cond same rest (Some i)
    go true rest = refl
    go false rest = refl

-- ---- labels that part do so where both have a digit

part_in : (i : ℕ) (x y : List ℕ) (j : ℕ) → part_from i x y ≡ Some j → (j < i + length x) × (j < i + length y)
unfolding part_from
part_in i [] y j e = let z : ◌≡◌ {A = ℕ} 0 1 = cc in absurd (omega arith)
part_in i (a ∷ x) [] j e = let z : ◌≡◌ {A = ℕ} 0 1 = cc in absurd (omega arith)
part_in i (a ∷ x) (b ∷ y) j e = go (eqb a b) (part_in (suc i) x y j) e
  where
    go : (same : Bool) → (part_from (suc i) x y ≡ Some j → (j < suc i + length x) × (j < suc i + length y))
        → cond same (part_from (suc i) x y) (Some i) ≡ Some j → (j < i + suc (length x)) × (j < i + suc (length y))
    go true rest f = (omega (arith, (rest f).0), omega (arith, (rest f).1))
    go false rest f = let s : i ≡ j = cc in (omega arith, omega arith)

module _ (x y : List ℕ) (i : ℕ) (e : part_at x y ≡ Some i) where
  pub part_left : i < length x
  unfolding part_at
  part_left = omega (arith, (part_in 0 x y i e).0)

  pub part_right : i < length y
  unfolding part_at
  part_right = omega (arith, (part_in 0 x y i e).1)
