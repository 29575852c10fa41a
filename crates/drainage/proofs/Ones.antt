-- Weights that are all 1: then areas are sizes.
use mathlib.Core.Path.{◌≡◌, refl, ◌∙◌}
use mathlib.Core.Bool.{Bool, true, false}
use mathlib.Core.List.{List}
use Prim.Native.Nat.{ℕ, zero, suc, ◌<◌}
use native.Mathlib.Decide.{ℕ_discrete}
use native.Mathlib.Omega.{arith}
use lib.Dec.{eqb}
use lib.ListN.{get_or}
use borrow.Author.Tests.{eqb-true, eq-eqb}
use Rattle.sheet.specs.Sheet.{Grid, Sheet, cells, inside}
use Rattle.sheet.specs.Area.{count, drains_into, area}
use Rattle.sheet.specs.Label.{areas_of}
use Rattle.sheet.proofs.Within.{both_true}
use Rattle.claims.specs.Bounds.{Unweighted}
use Rattle.claims.proofs.Theorems.{unweighted_areas}
use Rattle.drainage.specs.Total.{all_ones, size, sizes_of}
use Rattle.drainage.proofs.Lists.{list_same}

module _ (weights : List ℕ) where
  pub ones_all : (rows : ℕ) → ((row : ℕ) → row < rows → get_or weights row 0 ≡ 1) → all_ones rows weights ≡ true
  unfolding all_ones
  ones_all zero each = refl
  ones_all (suc k) each =
      rw (ones_all k (λ row l. each row (omega arith)), eq-eqb (get_or weights k 0) 1 (each k (omega arith)))

  pub ones_at : (rows : ℕ) → all_ones rows weights ≡ true → (row : ℕ) → row < rows → get_or weights row 0 ≡ 1
  unfolding all_ones
  ones_at zero e row l = absurd (omega arith)
  ones_at (suc k) e row l =
      let b = both_true (all_ones k weights) (eqb (get_or weights k 0) 1) e in
      elim (ℕ_discrete row k) [
        | yes s ↦ rw s (eqb-true (get_or weights k 0) 1 b.1)
        | no d ↦ ones_at k b.0 row (omega arith)
      ]

size_inside : (G : Grid) (c : ℕ) → inside G c ≡ true → count (cells G) (drains_into G c) ≡ size G c
unfolding size
size_inside G c i = rw i

-- the areas of a sheet without weights
pub areas_are_sizes : (S : Sheet) → 0 < S.grid.cols → all_ones S.grid.rows S.weights ≡ true
    → areas_of S ≡ sizes_of S.grid
unfolding areas_of sizes_of area size
areas_are_sizes S some ones =
    list_same (area S) (size S.grid) (cells S.grid) (λ c l. go c (inside S.grid c) refl)
  where
    alike : Unweighted S
    alike row l = ones_at S.weights S.grid.rows ones row l

    go : (c : ℕ) (b : Bool) → inside S.grid c ≡ b → area S c ≡ size S.grid c
    go c true i = (unweighted_areas S some alike).counts c i ∙ size_inside S.grid c i
    go c false i = rw i
