-- Worked faults of sizes, computed from the definitions: 1, 2, 19 and 3, in this order.
use mathlib.Core.Path.{◌≡◌, refl}
use mathlib.Core.List.{[], ◌∷◌}
use Prim.Native.Nat.{ℕ}
use Rattle.faults.specs.declared.Sizes.{Sizes}
use Rattle.faults.specs.Faults.{sizes_fault, row_fault}

abbrev sizes : ℕ → ℕ → ℕ → ℕ → ℕ → Sizes
sizes rows cols depth least split = record { rows = rows; cols = cols; depth = depth; least = least; split = split }

-- 3 by 4 cells: one byte or one weight too few, all that is needed
pub lent_three : sizes_fault (sizes 3 4 2 1 4) 11 3 ∷ sizes_fault (sizes 3 4 2 1 4) 12 2 ∷
    sizes_fault (sizes 3 4 2 1 4) 12 3 ∷ [] ≡ 3 ∷ 3 ∷ 0 ∷ []
unfolding sizes_fault
lent_three = refl

-- 1 before 2, 2 before 19, 19 before 3
pub in_order_lem : sizes_fault (sizes 0 4 37 0 5) 0 0 ∷ sizes_fault (sizes 3 4 37 0 5) 0 0 ∷
    sizes_fault (sizes 3 4 36 0 5) 0 0 ∷ sizes_fault (sizes 3 4 36 65536000 4) 0 0 ∷ [] ≡ 1 ∷ 2 ∷ 19 ∷ 3 ∷ []
unfolding sizes_fault
in_order_lem = refl

-- 9 for a row outside the sheet after them
pub row_after : row_fault (sizes 3 4 2 0 4) 3 0 0 ∷ row_fault (sizes 3 4 2 1 4) 3 11 3 ∷
    row_fault (sizes 3 4 2 1 4) 3 12 3 ∷ row_fault (sizes 3 4 2 1 4) 2 12 3 ∷ [] ≡ 19 ∷ 3 ∷ 9 ∷ 0 ∷ []
unfolding row_fault
row_after = refl
