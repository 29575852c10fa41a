-- Document 02's units of a sheet: those of its inside cells, each once, by basin and then label, with their outlet
-- cells and their counts of cells. A unit is told here by its basin and then the digits of its label.
use Rattle.std.specs.Prelude.{Bool, true, false, cond, not, List, [], ◌∷◌, map, ℕ, zero, suc, eqb}
use Rattle.sheet.specs.Sheet.{Sheet, cells, inside, next, first}
use Rattle.sheet.specs.Water.{onward}
use Rattle.sheet.specs.Area.{count}
use Rattle.sheet.specs.declared.UnitName.{UnitName}
use Rattle.sheet.specs.Record.{record_of, no_digits, unit_name}
use Rattle.sheet.specs.Label.{cell_found}
use Rattle.sheet.specs.Basins.{basin_digits}
use Rattle.sheet.specs.Refusal.{both}
use Rattle.claims.specs.Dictionary.{is_before}

-- a unit put in its place among units in dictionary order; one that stands there already is not put again
unfoldable pub with_unit : List ℕ → List (List ℕ) → List (List ℕ)
unfolding is_before
with_unit x [] = x ∷ []
with_unit x (y ∷ ys) =
    let later : List (List ℕ) = y ∷ with_unit x ys in
    cond (is_before x y) (x ∷ y ∷ ys) (cond (is_before y x) later (y ∷ ys))

-- the distinct units of the inside ones of the first n cells, in dictionary order
unfoldable pub units_among : Sheet → ℕ → List (List ℕ)
unfolding inside basin_digits with_unit
units_among S zero = []
units_among S (suc n) =
    let r : List (List ℕ) = units_among S n in cond (inside S.grid n) (with_unit (basin_digits S n) r) r

-- "by basin and then label": "the distinct labels of a sheet in dictionary order of their digits", basin after basin
unfoldable pub distinct_units : Sheet → List (List ℕ)
unfolding units_among
distinct_units S = units_among S (cells S.grid)

-- two units are the same
unfoldable pub same_digits : List ℕ → List ℕ → Bool
same_digits [] [] = true
same_digits [] (b ∷ y) = false
same_digits (a ∷ x) [] = false
same_digits (a ∷ x) (b ∷ y) = let rest = same_digits x y in cond (eqb a b) rest false

-- c is an inside cell with the basin and the label of x: a cell of the unit x
unfoldable pub is_of_unit : Sheet → List ℕ → ℕ → Bool
unfolding inside basin_digits same_digits
is_of_unit S x c = both (inside S.grid c) (same_digits (basin_digits S c) x)

-- c is a cell of one of these units
unfoldable pub is_of_one : Sheet → List (List ℕ) → ℕ → Bool
unfolding is_of_unit
is_of_one S [] c = false
is_of_one S (x ∷ xs) c = let rest = is_of_one S xs c in cond (is_of_unit S x c) true rest

-- the water of a cell goes to no cell of the unit x
unfoldable pub leaves_unit : Sheet → List ℕ → ℕ → Bool
unfolding next onward is_of_unit
leaves_unit S x c = onward (next S.grid c) true (λ r. not (is_of_unit S x r))

-- "its outlet cell": the cell of the unit whose water goes to no cell of the unit
unfoldable pub outlet_cell : Sheet → List ℕ → ℕ
unfolding is_of_unit leaves_unit first
outlet_cell S x = cell_found (first (λ c. both (is_of_unit S x c) (leaves_unit S x c)) (cells S.grid))

-- "its count of cells"
unfoldable pub unit_cells : Sheet → List ℕ → ℕ
unfolding is_of_unit count
unit_cells S x = count (cells S.grid) (is_of_unit S x)

-- the name of the unit x: its basin, and its label as a record
unfoldable pub unit_of : List ℕ → UnitName
unfolding record_of
unit_of [] = unit_name 0 no_digits
unit_of (basin ∷ digits) = unit_name basin (record_of digits)

-- an entry of the index
pub record UnitEntry : Type 0 where
  pub unit : UnitName
  pub outlet : ℕ
  pub count : ℕ

abbrev pub unit_entry : UnitName → ℕ → ℕ → UnitEntry
unit_entry unit outlet count = record { unit = unit; outlet = outlet; count = count }

-- the entry of the unit x
unfoldable pub entry_of_unit : Sheet → List ℕ → UnitEntry
unfolding unit_of outlet_cell unit_cells
entry_of_unit S x = unit_entry (unit_of x) (outlet_cell S x) (unit_cells S x)

-- the index of a sheet's units
unfoldable pub units : Sheet → List UnitEntry
unfolding distinct_units entry_of_unit
units S = map (entry_of_unit S) (distinct_units S)
