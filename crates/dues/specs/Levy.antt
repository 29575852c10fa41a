-- Document 02's basin levy: a total of whole cents, shared among the units of one basin of a sheet by the weights of
-- their cells. The refusals of its call in order, and what the lent slices hold afterwards.
use Rattle.std.specs.Prelude.{Bool, cond, List, [], ◌∷◌, ℕ, suc, ◌*◌, ◌-◌, ◌/◌, leb, eqb, length, get_or, take, Err, Ok}
use Rattle.sheet.specs.Sheet.{Sheet, cells, inside}
use Rattle.sheet.specs.Area.{sum_over, weight}
use Rattle.sheet.specs.Record.{numbers_of}
use Rattle.sheet.specs.Label.{list_from}
use Rattle.sheet.specs.Basins.{basin_of}
use Rattle.sheet.specs.Refusal.{Lent, both, written, lent_after}
use Rattle.index.specs.Units.{is_of_one, distinct_units, units}
use Rattle.index.specs.Index.{LentIndex, indexed, if_indexed}
use Rattle.sheet.specs.Answer.{Counted, Refused}

-- the basin of a unit, which is told by its basin and then the digits of its label
abbrev pub basin_of_unit : List ℕ → ℕ
basin_of_unit x = get_or x 0 0

-- those of a list of units whose basin it is
unfoldable pub of_basin : ℕ → List (List ℕ) → List (List ℕ)
of_basin basin [] = []
of_basin basin (x ∷ xs) =
    let rest : List (List ℕ) = of_basin basin xs in cond (eqb (basin_of_unit x) basin) (x ∷ rest) rest

-- "that basin's units", in the index's order; none if the sheet lacks the basin
unfoldable pub units_of_basin : Sheet → ℕ → List (List ℕ)
unfolding distinct_units of_basin
units_of_basin S basin = of_basin basin (distinct_units S)

-- c is an inside cell of the basin
unfoldable pub is_of_basin : Sheet → ℕ → ℕ → Bool
unfolding inside basin_of
is_of_basin S basin c = both (inside S.grid c) (eqb (basin_of S.grid c) basin)

-- S(k): "the summed weight of the cells of the first k units", in the index's order
unfoldable pub weight_of_first : Sheet → ℕ → ℕ → ℕ
unfolding sum_over is_of_one units_of_basin weight
weight_of_first S basin k = sum_over (cells S.grid) (is_of_one S (take k (units_of_basin S basin))) (weight S)

-- A, "the whole": the summed weight of all cells of the basin
unfoldable pub whole_weight : Sheet → ℕ → ℕ
unfolding sum_over is_of_basin weight
whole_weight S basin = sum_over (cells S.grid) (is_of_basin S basin) (weight S)

-- what the first k units owe together: "the whole part of total × S(k) / A"
unfoldable pub due_of_first : Sheet → ℕ → ℕ → ℕ → ℕ
unfolding weight_of_first whole_weight
due_of_first S basin total k = total * weight_of_first S basin k / whole_weight S basin

-- what the unit at place k of the basin's units owes, places counted from 0: "less the whole part of" the same for the
-- units before it
unfoldable pub due : Sheet → ℕ → ℕ → ℕ → ℕ
unfolding due_of_first
due S basin total k = due_of_first S basin total (suc k) - due_of_first S basin total k

-- the dues of all units of the basin, in the index's order
unfoldable pub dues_of : Sheet → ℕ → ℕ → List ℕ
unfolding list_from due units_of_basin
dues_of S basin total = list_from (due S basin total) 0 (length (units_of_basin S basin))

-- ---- the call

-- 18: a total above this one, in cents
abbrev pub greatest_total : ℕ
greatest_total = 100000000000

unfoldable pub total_fits : ℕ → Bool
total_fits total = leb total greatest_total

-- an answer of the index call, and 3 where the dues have fewer places than the basin has units, so many
unfoldable pub with_dues : Counted → ℕ → List ℕ → Counted
with_dues (Ok units) wanted dues = cond (leb wanted (length dues)) (Ok units) (Refused 3 0)
with_dues (Err refusal) wanted dues = Err refusal

-- 18 before all else
unfoldable pub levied_on : ℕ → Counted → ℕ → List ℕ → Counted
unfolding total_fits with_dues
levied_on total answer wanted dues =
    let rest : Counted = with_dues answer wanted dues in cond (total_fits total) rest (Refused 18 0)

-- 18, then all refusals of labelling with their places, then 3 if a slice of the index has fewer places than the index
-- has units, or the dues fewer than the basin has
unfoldable pub levied : Sheet → Lent → LentIndex → ℕ → ℕ → List ℕ → Counted
unfolding indexed units_of_basin levied_on
levied S L I basin total dues = levied_on total (indexed S L I) (length (units_of_basin S basin)) dues

-- ---- what the slices hold afterwards

-- areas, labels, basins and work places: untouched if refused by 18, else as after labelling
unfoldable pub lent_after_levy : Sheet → Lent → ℕ → Lent
unfolding total_fits lent_after
lent_after_levy S L total = let labelled : Lent = lent_after S L in cond (total_fits total) labelled L

-- the four slices of the index: refused, no place of them is written
unfoldable pub index_after_levy : Sheet → Lent → LentIndex → ℕ → ℕ → List ℕ → LentIndex
unfolding levied units numbers_of
index_after_levy S L I basin total dues = if_indexed (levied S L I basin total dues) (units S) I

-- the first places of the dues written; refused, none is
abbrev pub if_levied : Counted → List ℕ → List ℕ → List ℕ
if_levied (Ok units) new old = written new old
if_levied (Err refusal) new old = old

unfoldable pub dues_after : Sheet → Lent → LentIndex → ℕ → ℕ → List ℕ → List ℕ
unfolding levied dues_of
dues_after S L I basin total old = if_levied (levied S L I basin total old) (dues_of S basin total) old
