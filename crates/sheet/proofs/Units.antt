-- The units that a list of basins and a list of labels name: how many, and which stands at a place.
use mathlib.Core.Path.{◌≡◌, refl}
use mathlib.Core.Bool.{Bool, true}
use mathlib.Core.List.{List, [], ◌∷◌}
use Prim.Native.Nat.{ℕ, zero, suc, ◌≤◌, ◌<◌}
use native.Mathlib.Omega.{arith}
use lib.ListN.{length, get_or}
use Rattle.sheet.specs.declared.Label.{Label}
use Rattle.sheet.specs.declared.UnitName.{UnitName}
use Rattle.sheet.specs.Record.{no_digits, unit_name, units_in}
use Rattle.sheet.specs.Flow.{every}
use Rattle.sheet.proofs.Within.{both_true}

-- as many as the shorter list has entries
pub units_most : (basins : List ℕ) (labels : List Label) → length (units_in basins labels) ≤ length labels
unfolding units_in
units_most [] labels = omega arith
units_most (basin ∷ basins) [] = omega arith
units_most (basin ∷ basins) (label ∷ labels) = omega (arith, units_most basins labels)

pub units_enough : (n : ℕ) (basins : List ℕ) (labels : List Label) → n ≤ length basins → n ≤ length labels
    → n ≤ length (units_in basins labels)
unfolding units_in
units_enough n [] labels h g = h
units_enough n (basin ∷ basins) [] h g = g
units_enough zero (basin ∷ basins) (label ∷ labels) h g = omega arith
units_enough (suc n) (basin ∷ basins) (label ∷ labels) h g =
    omega (arith, units_enough n basins labels (omega arith) (omega arith))

-- as many as there are labels, where each has a basin
pub units_length : (basins : List ℕ) (labels : List Label) → length labels ≤ length basins
    → length (units_in basins labels) ≡ length labels
units_length basins labels h =
    omega (arith, units_most basins labels, units_enough (length labels) basins labels h (omega arith))

-- the unit at a place
pub unit_listed : (basins : List ℕ) (labels : List Label) (i : ℕ) → i < length basins → i < length labels
    → get_or (units_in basins labels) i (unit_name 0 no_digits) ≡ unit_name (get_or basins i 0) (get_or labels i no_digits)
unfolding units_in
unit_listed [] labels i h g = absurd (omega arith)
unit_listed (basin ∷ basins) [] i h g = absurd (omega arith)
unit_listed (basin ∷ basins) (label ∷ labels) zero h g = refl
unit_listed (basin ∷ basins) (label ∷ labels) (suc i) h g = unit_listed basins labels i (omega arith) (omega arith)

-- what every label passes, the label of every unit does
pub units_pass : (test : Label → Bool) (basins : List ℕ) (labels : List Label) → every test labels ≡ true
    → every (λ (u : UnitName). test u.label) (units_in basins labels) ≡ true
unfolding units_in every
units_pass test [] labels e = refl
units_pass test (basin ∷ basins) [] e = refl
units_pass test (basin ∷ basins) (label ∷ labels) e =
    let b = both_true (test label) (every test labels) e in rw b.0 (units_pass test basins labels b.1)
