-- The columns of the index, by the units' basins and digits.
use mathlib.Core.Path.{◌≡◌, refl, ◌∙◌, ap}
use mathlib.Core.List.{List, [], ◌∷◌, map}
use Prim.Native.Nat.{ℕ, ◌<◌}
use lib.ListN.{length, length-map, get_or, drop, get_or-append}
use Rattle.sheet.specs.Sheet.{Sheet}
use Rattle.sheet.specs.declared.Label.{Label}
use Rattle.sheet.specs.Record.{no_digits, numbers_of, label_at}
use Rattle.sheet.specs.Refusal.{written}
use Rattle.sheet.proofs.Slices.{labels_written}
use Rattle.index.specs.Units.{unit_of, UnitEntry, entry_of_unit, distinct_units, units, outlet_cell, unit_cells}
use Rattle.index.proofs.ListPlaces.{map_at}

module _ (S : Sheet) where
  pub units_long : length (units S) ≡ length (distinct_units S)
  unfolding units
  units_long = length-map (distinct_units S) (entry_of_unit S)

  label_columns : (xs : List (List ℕ))
      → map (λ (e : UnitEntry). e.unit.label) (map (entry_of_unit S) xs) ≡ map (λ x. (unit_of x).label) xs
  unfolding entry_of_unit
  label_columns [] = refl
  label_columns (x ∷ xs) = ap (λ (t : List Label). (unit_of x).label ∷ t) (label_columns xs)

  basin_columns : (xs : List (List ℕ))
      → map (λ (e : UnitEntry). e.unit.basin) (map (entry_of_unit S) xs) ≡ map (λ x. (unit_of x).basin) xs
  unfolding entry_of_unit
  basin_columns [] = refl
  basin_columns (x ∷ xs) = ap (λ (t : List ℕ). (unit_of x).basin ∷ t) (basin_columns xs)

  outlet_columns : (xs : List (List ℕ))
      → map (λ (e : UnitEntry). e.outlet) (map (entry_of_unit S) xs) ≡ map (outlet_cell S) xs
  unfolding entry_of_unit
  outlet_columns [] = refl
  outlet_columns (x ∷ xs) = ap (λ (t : List ℕ). outlet_cell S x ∷ t) (outlet_columns xs)

  count_columns : (xs : List (List ℕ))
      → map (λ (e : UnitEntry). e.count) (map (entry_of_unit S) xs) ≡ map (unit_cells S) xs
  unfolding entry_of_unit
  count_columns [] = refl
  count_columns (x ∷ xs) = ap (λ (t : List ℕ). unit_cells S x ∷ t) (count_columns xs)

  pub label_column : map (λ (e : UnitEntry). e.unit.label) (units S) ≡ map (λ x. (unit_of x).label) (distinct_units S)
  unfolding units
  label_column = label_columns (distinct_units S)

  pub basin_column : map (λ (e : UnitEntry). e.unit.basin) (units S) ≡ map (λ x. (unit_of x).basin) (distinct_units S)
  unfolding units
  basin_column = basin_columns (distinct_units S)

  pub outlet_column : map (λ (e : UnitEntry). e.outlet) (units S) ≡ map (outlet_cell S) (distinct_units S)
  unfolding units
  outlet_column = outlet_columns (distinct_units S)

  pub count_column_lem : map (λ (e : UnitEntry). e.count) (units S) ≡ map (unit_cells S) (distinct_units S)
  unfolding units
  count_column_lem = count_columns (distinct_units S)

-- what stands at a place of a written column
pub column_at_lem : (f : List ℕ → ℕ) (xs : List (List ℕ)) (new old : List ℕ) (k : ℕ) → new ≡ map f xs → k < length xs
    → get_or (written new old) k 0 ≡ f (get_or xs k [])
column_at_lem f xs new old k e l =
    get_or-append new (drop (length new) old) 0 k (rw (e, length-map xs f) l) ∙ rw e (map_at [] 0 f xs k l)

-- and of the column of labels
pub label_column_at : (xs : List (List ℕ)) (new : List Label) (old : List ℕ) (k : ℕ)
    → new ≡ map (λ x. (unit_of x).label) xs → k < length xs
    → label_at (written (numbers_of new) old) k ≡ (unit_of (get_or xs k [])).label
label_column_at xs new old k e l =
    labels_written new old k (rw (e, length-map xs (λ (x : List ℕ). (unit_of x).label)) l)
    ∙ rw e (map_at [] no_digits (λ (x : List ℕ). (unit_of x).label) xs k l)
