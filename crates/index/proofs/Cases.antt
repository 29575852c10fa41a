-- Worked indexes, computed from the definitions.
use mathlib.Core.Path.{◌≡◌, refl}
use mathlib.Core.List.{List, [], ◌∷◌}
use Prim.Native.Nat.{ℕ, ◌*◌}
use lib.ListN.{replicate}
use Rattle.sheet.specs.Sheet.{Grid, Sheet, grid}
use Rattle.sheet.specs.Record.{label_of_numbers, labels_in, unit_name, unit_at}
use Rattle.sheet.specs.Refusal.{Lent, lent_after}
use Rattle.sheet.specs.Cases.{sample_a, confluences}
use Rattle.index.specs.Units.{with_unit, distinct_units, UnitEntry, unit_entry, units}
use Rattle.index.specs.Groups.{grouped}
use Rattle.index.specs.Index.{LentIndex, lent_index, indexed, index_after}
use Rattle.sheet.specs.Answer.{Refused}
use Rattle.std.specs.Prelude.{Ok}

-- a sheet with weights, and one without: each is then 1
abbrev pub weighted_sheet : Grid → ℕ → List ℕ → Sheet
weighted_sheet G depth weights = record { grid = G; depth = depth; least = 1; split = 4; weights = weights }

abbrev pub sheet : Grid → ℕ → Sheet
sheet G depth = weighted_sheet G depth (replicate G.rows 1)

-- what is lent for n cells, and for so many units, each place holding 7
abbrev pub lent_for : ℕ → Lent
lent_for n = record {
  areas = replicate n 7;
  labels = replicate (2 * n) 7;
  basins = replicate n 7;
  work = replicate (8 * n) 7;
}

abbrev pub lent_units : ℕ → LentIndex
lent_units k = lent_index (replicate (2 * k) 7) (replicate k 7) (replicate k 7) (replicate k 7)

-- an entry of a basin whose label has at most 18 digits, and one of basin 1
abbrev entry_of : ℕ → ℕ → ℕ → ℕ → UnitEntry
entry_of basin label outlet count = unit_entry (unit_name basin (label_of_numbers label 0)) outlet count

abbrev entry : ℕ → ℕ → ℕ → UnitEntry
entry label outlet count = entry_of 1 label outlet count

-- of one basin a label that begins another stands before it, and a unit that stands already is not put again
pub begins_first : with_unit (1 ∷ 2 ∷ []) (with_unit (1 ∷ 2 ∷ []) (with_unit (1 ∷ 2 ∷ 1 ∷ []) (with_unit (1 ∷ 3 ∷ [])
    (with_unit (1 ∷ []) [])))) ≡ (1 ∷ []) ∷ (1 ∷ 2 ∷ []) ∷ (1 ∷ 2 ∷ 1 ∷ []) ∷ (1 ∷ 3 ∷ []) ∷ []
unfolding with_unit
begins_first = refl

-- a later basin's label of no digits stands after all labels of an earlier basin, and the same label in two basins is
-- two units
pub basins_first : with_unit (10 ∷ []) (with_unit (9 ∷ 3 ∷ []) (with_unit (2 ∷ 3 ∷ []) []))
    ≡ (2 ∷ 3 ∷ []) ∷ (9 ∷ 3 ∷ []) ∷ (10 ∷ []) ∷ []
unfolding with_unit
basins_first = refl

-- sample A: cells 1 and 2 have label 8, cells 7 and 11 label 93
pub sample_a_units : units (sheet sample_a 2)
    ≡ entry 1 4 1 ∷ entry 2 8 1 ∷ entry 3 5 1 ∷ entry 4 9 1 ∷ entry 6 10 1 ∷ entry 8 1 2 ∷
    entry 91 6 1 ∷ entry 92 3 1 ∷ entry 93 7 2 ∷ []
unfolding units
sample_a_units = refl

-- at depth 1 cells 3, 6, 7 and 11 have label 9
pub sample_a_cut : units (sheet sample_a 1)
    ≡ entry 1 4 1 ∷ entry 2 8 1 ∷ entry 3 5 1 ∷ entry 4 9 1 ∷ entry 6 10 1 ∷ entry 8 1 2 ∷
    entry 9 6 4 ∷ []
unfolding units
sample_a_cut = refl

-- labels of two digits stand among those of one; each after its basin
pub among_shorter : distinct_units (sheet confluences 2)
    ≡ (1 ∷ 1 ∷ 1 ∷ []) ∷ (1 ∷ 1 ∷ 2 ∷ []) ∷ (1 ∷ 2 ∷ []) ∷ (1 ∷ 4 ∷ []) ∷ (1 ∷ 5 ∷ []) ∷ (1 ∷ 6 ∷ []) ∷ (1 ∷ 8 ∷ []) ∷
    (1 ∷ 9 ∷ []) ∷ []
unfolding distinct_units
among_shorter = refl

-- one unit, label 0
pub one_cell_lem : units (sheet (grid 1 1 (1 ∷ [])) 1) ≡ entry 0 0 1 ∷ []
unfolding units
one_cell_lem = refl

-- places beyond the units keep their values
pub one_cell_after : index_after (sheet (grid 1 1 (1 ∷ [])) 1) (lent_for 1) (lent_units 2)
    ≡ lent_index (0 ∷ 0 ∷ 7 ∷ 7 ∷ []) (0 ∷ 7 ∷ []) (1 ∷ 7 ∷ []) (1 ∷ 7 ∷ [])
unfolding index_after
one_cell_after = refl

-- 3 for too few places of the index; a refusal of labelling comes before it; refused, no place is written
pub too_short : indexed (sheet (grid 1 1 (1 ∷ [])) 1) (lent_for 1) (lent_index (7 ∷ 7 ∷ []) (7 ∷ []) [] (7 ∷ []))
    ≡ Refused 3 0
unfolding indexed
too_short = refl

pub basins_too_short : indexed (sheet (grid 1 1 (1 ∷ [])) 1) (lent_for 1)
    (lent_index (7 ∷ 7 ∷ []) (7 ∷ []) (7 ∷ []) []) ≡ Refused 3 0
unfolding indexed
basins_too_short = refl

pub labelling_first : indexed (sheet (grid 1 2 (1 ∷ 16 ∷ [])) 1) (lent_for 2) (lent_units 0) ≡ Refused 6 0
unfolding indexed
labelling_first = refl

pub none_written : index_after (sheet (grid 1 1 (1 ∷ [])) 1) (lent_for 1) (lent_index (7 ∷ 7 ∷ []) (7 ∷ []) [] (7 ∷ []))
    ≡ lent_index (7 ∷ 7 ∷ []) (7 ∷ []) [] (7 ∷ [])
unfolding index_after
none_written = refl

-- an odd number at the end is no place, and keeps its value; one number less than two a unit gives 3
pub odd_kept : index_after (sheet (grid 1 1 (1 ∷ [])) 1) (lent_for 1)
    (lent_index (7 ∷ 7 ∷ 7 ∷ []) (7 ∷ []) (7 ∷ []) (7 ∷ []))
    ≡ lent_index (0 ∷ 0 ∷ 7 ∷ []) (0 ∷ []) (1 ∷ []) (1 ∷ [])
unfolding index_after
odd_kept = refl

pub odd_too_short : indexed (sheet (grid 1 1 (1 ∷ [])) 1) (lent_for 1) (lent_index (7 ∷ []) (7 ∷ []) (7 ∷ []) (7 ∷ []))
    ≡ Refused 3 0
unfolding indexed
odd_too_short = refl

-- labels that part at the 19th digit are two units
abbrev eighteen : ℕ
eighteen = 111111111111111111

pub second_numbers : grouped (unit_at (1 ∷ 1 ∷ 1 ∷ []) (eighteen ∷ 1 ∷ eighteen ∷ 2 ∷ eighteen ∷ 2 ∷ []))
    (0 ∷ 1 ∷ 2 ∷ [])
    ≡ unit_entry (unit_name 1 (label_of_numbers eighteen 1)) 0 1 ∷ unit_entry (unit_name 1 (label_of_numbers eighteen 2)) 1 2 ∷
    []
unfolding grouped labels_in
second_numbers = refl

-- neighbours with the same label in two basins are two units
pub same_label_apart : grouped (unit_at (1 ∷ 2 ∷ 2 ∷ []) (0 ∷ 0 ∷ 0 ∷ 0 ∷ 0 ∷ 0 ∷ [])) (0 ∷ 1 ∷ 2 ∷ [])
    ≡ entry_of 1 0 0 1 ∷ entry_of 2 0 1 2 ∷ []
unfolding grouped labels_in
same_label_apart = refl

pub sample_a_accepted : indexed (sheet sample_a 2) (lent_for 12) (lent_units 9) ≡ Ok 9
unfolding indexed
sample_a_accepted = refl

-- ---- several basins

-- the 1 by 2 sheet of codes 16 and 1: two basins of one cell, each with label 0
pub two_cells : index_after (sheet (grid 1 2 (16 ∷ 1 ∷ [])) 1) (lent_for 2) (lent_units 3)
    ≡ lent_index (0 ∷ 0 ∷ 0 ∷ 0 ∷ 7 ∷ 7 ∷ []) (0 ∷ 1 ∷ 7 ∷ []) (1 ∷ 1 ∷ 7 ∷ []) (1 ∷ 2 ∷ 7 ∷ [])
unfolding index_after
two_cells = refl

-- the outlets are cells 1 and 3: basin 1 is cells 1, 0 and 2, with labels 1, 2 and 3, and basin 2 cells 3 and 4
pub two_basins_lem : units (sheet (grid 2 3 (1 ∷ 64 ∷ 16 ∷ 16 ∷ 16 ∷ 0 ∷ [])) 1)
    ≡ entry_of 1 1 1 1 ∷ entry_of 1 2 0 1 ∷ entry_of 1 3 2 1 ∷ entry_of 2 0 3 2 ∷ []
unfolding units
two_basins_lem = refl

-- ---- weights

-- the outlet is cell 2; cell 0, to which cell 1 flows, and cell 4 flow into it
abbrev pub two_streams : Grid
two_streams = grid 3 2 (4 ∷ 16 ∷ 16 ∷ 0 ∷ 64 ∷ 0 ∷ [])

-- without weights the river is the stream of two cells
pub without_weights : units (sheet two_streams 1) ≡ entry 1 2 1 ∷ entry 2 4 1 ∷ entry 3 0 2 ∷ []
unfolding units
without_weights = refl

-- with weights it is cell 4, whose area is 5: labels and outlets are others, and counts are still of cells
pub weights_choose : units (weighted_sheet two_streams 1 (1 ∷ 1 ∷ 5 ∷ []))
    ≡ entry 1 2 1 ∷ entry 2 0 2 ∷ entry 3 4 1 ∷ []
unfolding units
weights_choose = refl

-- of equal areas, 2 and 2, the larger cell number is the river
pub equal_areas : units (weighted_sheet two_streams 1 (1 ∷ 1 ∷ 2 ∷ []))
    ≡ entry 1 2 1 ∷ entry 2 0 2 ∷ entry 3 4 1 ∷ []
unfolding units
equal_areas = refl

pub weighted_after : index_after (weighted_sheet two_streams 1 (1 ∷ 1 ∷ 5 ∷ [])) (lent_for 6) (lent_units 4)
    ≡ lent_index (1 ∷ 0 ∷ 2 ∷ 0 ∷ 3 ∷ 0 ∷ 7 ∷ 7 ∷ []) (2 ∷ 0 ∷ 4 ∷ 7 ∷ []) (1 ∷ 2 ∷ 1 ∷ 7 ∷ []) (1 ∷ 1 ∷ 1 ∷ 7 ∷ [])
unfolding index_after
weighted_after = refl

-- refused by 17 no place of the index, no area and no label is written, and the work places are 0
pub weight_refused : indexed (weighted_sheet two_streams 1 (1 ∷ 0 ∷ 1 ∷ [])) (lent_for 6) (lent_units 3) ≡ Refused 17 0
unfolding indexed
weight_refused = refl

pub weight_refused_index : index_after (weighted_sheet two_streams 1 (1 ∷ 0 ∷ 1 ∷ [])) (lent_for 6) (lent_units 3)
    ≡ lent_units 3
unfolding index_after
weight_refused_index = refl

pub weight_refused_lent : lent_after (weighted_sheet two_streams 1 (1 ∷ 0 ∷ 1 ∷ [])) (lent_for 6)
    ≡ record { areas = replicate 6 7; labels = replicate 12 7; basins = replicate 6 7; work = replicate 48 0 }
unfolding lent_after
weight_refused_lent = refl

-- 3 for too few weights is tested before 17, and 3 for too few places of the index after it
pub slices_first : indexed (weighted_sheet two_streams 1 (1 ∷ 0 ∷ [])) (lent_for 6) (lent_units 3) ≡ Refused 3 0
unfolding indexed
slices_first = refl

pub weight_first : indexed (weighted_sheet two_streams 1 (1 ∷ 1 ∷ 1001 ∷ [])) (lent_for 6) (lent_units 0) ≡ Refused 17 0
unfolding indexed
weight_first = refl
