-- Worked levies, computed from the definitions.
use mathlib.Core.Path.{◌≡◌, refl}
use mathlib.Core.List.{List, [], ◌∷◌}
use Prim.Native.Nat.{ℕ}
use lib.ListN.{replicate}
use Rattle.sheet.specs.Sheet.{Sheet, grid}
use Rattle.intake.specs.declared.Stage.TheVariants.{TakingCells, Ended}
use Rattle.names.specs.Columns.{cell_columns}
use Rattle.index.specs.Index.{lent_index}
use Rattle.index.proofs.Cases.{weighted_sheet, sheet, lent_for, lent_units, two_streams}
use Rattle.index.proofs.IntakeCases.{one, two, sizes, with_weight}
use Rattle.dues.specs.Levy.{units_of_basin, weight_of_first, whole_weight, dues_of, levied, lent_after_levy}
use Rattle.dues.specs.Levy.{index_after_levy, dues_after}
use Rattle.dues.specs.FromIntake.{intake_levied, intake_lent_after_levy, intake_index_after_levy, intake_dues_after}
use Rattle.sheet.specs.Answer.{Refused}
use Rattle.std.specs.Prelude.{Ok}

-- the units 1, 2 and 3 have the cell 2, the cells 0 and 1, and the cell 4: weights 1, 2 and 5
abbrev streams : Sheet
streams = weighted_sheet two_streams 1 (1 ∷ 1 ∷ 5 ∷ [])

-- ---- S and A

pub first_one : weight_of_first streams 1 1 ≡ 1
unfolding weight_of_first
first_one = refl

pub first_two : weight_of_first streams 1 2 ≡ 3
unfolding weight_of_first
first_two = refl

pub first_three : weight_of_first streams 1 3 ≡ 8
unfolding weight_of_first
first_three = refl

pub whole : whole_weight streams 1 ≡ 8
unfolding whole_weight
whole = refl

-- ---- dues

-- the whole parts of 7/8, 21/8 and 56/8 are 0, 2 and 7. Each share rounded by itself would be 0, 1 and 4; with the rest
-- for the last unit 0, 1 and 6; by counts of cells 1, 4 and 2; with the units in the reading order of their outlets the
-- first would owe 1
pub seven : dues_of streams 1 7 ≡ 0 ∷ 2 ∷ 5 ∷ []
unfolding dues_of
seven = refl

-- without weights the units 2 and 3 are the cell 4 and the cells 0 and 1
pub without_weights : dues_of (sheet two_streams 1) 1 7 ≡ 1 ∷ 2 ∷ 4 ∷ []
unfolding dues_of
without_weights = refl

pub nothing : dues_of streams 1 0 ≡ 0 ∷ 0 ∷ 0 ∷ []
unfolding dues_of
nothing = refl

pub one_cent : dues_of streams 1 1 ≡ 0 ∷ 0 ∷ 1 ∷ []
unfolding dues_of
one_cent = refl

pub greatest : dues_of streams 1 100000000000 ≡ 12500000000 ∷ 25000000000 ∷ 62500000000 ∷ []
unfolding dues_of
greatest = refl

-- one unit owes all
pub one_unit : dues_of (sheet (grid 1 1 (1 ∷ [])) 1) 1 99999999977 ≡ 99999999977 ∷ []
unfolding dues_of
one_unit = refl

-- ---- the call

-- four places, each holding 9
abbrev four : List ℕ
four = 9 ∷ 9 ∷ 9 ∷ 9 ∷ []

-- a sheet of two cells that flow into each other, which labelling refuses
abbrev circle : Sheet
circle = sheet (grid 1 2 (1 ∷ 16 ∷ [])) 1

pub accepted : levied streams (lent_for 6) (lent_units 4) 1 7 four ≡ Ok 3
unfolding levied
accepted = refl

-- places beyond the units keep their values
pub accepted_dues : dues_after streams (lent_for 6) (lent_units 4) 1 7 four ≡ 0 ∷ 2 ∷ 5 ∷ 9 ∷ []
unfolding dues_after
accepted_dues = refl

pub accepted_index : index_after_levy streams (lent_for 6) (lent_units 4) 1 7 four
    ≡ lent_index (1 ∷ 0 ∷ 2 ∷ 0 ∷ 3 ∷ 0 ∷ 7 ∷ 7 ∷ []) (2 ∷ 0 ∷ 4 ∷ 7 ∷ []) (1 ∷ 2 ∷ 1 ∷ 7 ∷ [])
    (1 ∷ 1 ∷ 1 ∷ 7 ∷ [])
unfolding index_after_levy
accepted_index = refl

-- areas, labels, basins and work places are as after labelling, also where 3 follows for the dues
pub accepted_lent : lent_after_levy streams (lent_for 6) 7 ≡ record {
  areas = 2 ∷ 1 ∷ 8 ∷ 0 ∷ 5 ∷ 0 ∷ [];
  labels = 2 ∷ 0 ∷ 2 ∷ 0 ∷ 1 ∷ 0 ∷ 0 ∷ 0 ∷ 3 ∷ 0 ∷ 0 ∷ 0 ∷ [];
  basins = 1 ∷ 1 ∷ 1 ∷ 0 ∷ 1 ∷ 0 ∷ [];
  work = replicate 48 0;
}
unfolding lent_after_levy
accepted_lent = refl

-- the greatest total is accepted, and no larger one; then nothing is written, no work place either
pub greatest_accepted : levied streams (lent_for 6) (lent_units 3) 1 100000000000 four ≡ Ok 3
unfolding levied
greatest_accepted = refl

pub too_large : levied streams (lent_for 6) (lent_units 3) 1 100000000001 four ≡ Refused 18 0
unfolding levied
too_large = refl

pub too_large_lent : lent_after_levy streams (lent_for 6) 100000000001 ≡ lent_for 6
unfolding lent_after_levy
too_large_lent = refl

pub too_large_index : index_after_levy streams (lent_for 6) (lent_units 3) 1 100000000001 four ≡ lent_units 3
unfolding index_after_levy
too_large_index = refl

pub too_large_dues : dues_after streams (lent_for 6) (lent_units 3) 1 100000000001 four ≡ four
unfolding dues_after
too_large_dues = refl

-- 18 before a refusal of labelling, which comes before 3
pub eighteen_first : levied circle (lent_for 2) (lent_units 0) 1 18446744073709551615 [] ≡ Refused 18 0
unfolding levied
eighteen_first = refl

pub labelling_next : levied circle (lent_for 2) (lent_units 0) 1 7 [] ≡ Refused 6 0
unfolding levied
labelling_next = refl

-- 3 for one of the five slices; then no place of them is written
pub dues_short : levied streams (lent_for 6) (lent_units 3) 1 7 (9 ∷ 9 ∷ []) ≡ Refused 3 0
unfolding levied
dues_short = refl

pub dues_short_kept : dues_after streams (lent_for 6) (lent_units 3) 1 7 (9 ∷ 9 ∷ []) ≡ 9 ∷ 9 ∷ []
unfolding dues_after
dues_short_kept = refl

pub dues_short_index : index_after_levy streams (lent_for 6) (lent_units 3) 1 7 (9 ∷ 9 ∷ []) ≡ lent_units 3
unfolding index_after_levy
dues_short_index = refl

-- an odd number at the end of the units' labels is no place, and keeps its value; one number less than two a unit gives
-- 3
pub odd_kept : index_after_levy streams (lent_for 6)
    (lent_index (replicate 7 7) (replicate 3 7) (replicate 3 7) (replicate 3 7)) 1 7 four
    ≡ lent_index (1 ∷ 0 ∷ 2 ∷ 0 ∷ 3 ∷ 0 ∷ 7 ∷ []) (2 ∷ 0 ∷ 4 ∷ []) (1 ∷ 2 ∷ 1 ∷ []) (1 ∷ 1 ∷ 1 ∷ [])
unfolding index_after_levy
odd_kept = refl

pub odd_short : levied streams (lent_for 6)
    (lent_index (replicate 5 7) (replicate 3 7) (replicate 3 7) (replicate 3 7)) 1 7 four
    ≡ Refused 3 0
unfolding levied
odd_short = refl

pub index_short : levied streams (lent_for 6) (lent_units 2) 1 7 four ≡ Refused 3 0
unfolding levied
index_short = refl

pub index_short_dues : dues_after streams (lent_for 6) (lent_units 2) 1 7 four ≡ four
unfolding dues_after
index_short_dues = refl

-- ---- from an intake

pub before_end : intake_levied (record { stage = TakingCells sizes cell_columns }) (with_weight 1) one two 1 7 four
    ≡ Refused 15 0
unfolding intake_levied
before_end = refl

-- 18 before 15
pub too-large-before-end
    : intake_levied (record { stage = TakingCells sizes cell_columns }) (with_weight 1) one two 1 100000000001 four
    ≡ Refused 18 0
unfolding intake_levied
too-large-before-end = refl

pub ended : intake_levied (record { stage = Ended sizes }) (with_weight 1000) one two 1 7 four ≡ Ok 1
unfolding intake_levied
ended = refl

pub ended_dues : intake_dues_after (record { stage = Ended sizes }) (with_weight 1000) one two 1 7 four
    ≡ 7 ∷ 9 ∷ 9 ∷ 9 ∷ []
unfolding intake_dues_after
ended_dues = refl

pub ended_index : intake_index_after_levy (record { stage = Ended sizes }) (with_weight 1000) one two 1 7 four
    ≡ lent_index (0 ∷ 0 ∷ 7 ∷ 7 ∷ []) (0 ∷ 7 ∷ []) (1 ∷ 7 ∷ []) (1 ∷ 7 ∷ [])
unfolding intake_index_after_levy
ended_index = refl

pub ended_too_large : intake_lent_after_levy (record { stage = Ended sizes }) (with_weight 1000) one 100000000001 ≡ one
unfolding intake_lent_after_levy
ended_too_large = refl

-- ---- several basins

-- the outlets are cells 1 and 3: basin 1 is cells 1, 0 and 2, with labels 1, 2 and 3, and basin 2 cells 3 and 4, with
-- label 0; a cell of row 0 weighs 2, one of row 1 weighs 3
abbrev two_basins : Sheet
two_basins = weighted_sheet (grid 2 3 (1 ∷ 64 ∷ 16 ∷ 16 ∷ 16 ∷ 0 ∷ [])) 1 (2 ∷ 3 ∷ [])

pub first_basin : units_of_basin two_basins 1 ≡ (1 ∷ 1 ∷ []) ∷ (1 ∷ 2 ∷ []) ∷ (1 ∷ 3 ∷ []) ∷ []
unfolding units_of_basin
first_basin = refl

pub second_basin : units_of_basin two_basins 2 ≡ (2 ∷ []) ∷ []
unfolding units_of_basin
second_basin = refl

pub wholes : whole_weight two_basins 1 ≡ 6
unfolding whole_weight
wholes = refl

-- each basin's units owe the whole total
pub first_dues : dues_of two_basins 1 100 ≡ 33 ∷ 33 ∷ 34 ∷ []
unfolding dues_of
first_dues = refl

pub second_dues : dues_of two_basins 2 100 ≡ 100 ∷ []
unfolding dues_of
second_dues = refl

-- the answer is the number of all units; the second basin's due stands at the first place, and one place is enough
pub second_levied : levied two_basins (lent_for 6) (lent_units 4) 2 100 (9 ∷ []) ≡ Ok 4
unfolding levied
second_levied = refl

pub second_after : dues_after two_basins (lent_for 6) (lent_units 4) 2 100 four ≡ 100 ∷ 9 ∷ 9 ∷ 9 ∷ []
unfolding dues_after
second_after = refl

pub second_index : index_after_levy two_basins (lent_for 6) (lent_units 4) 2 100 (9 ∷ [])
    ≡ lent_index (1 ∷ 0 ∷ 2 ∷ 0 ∷ 3 ∷ 0 ∷ 0 ∷ 0 ∷ []) (1 ∷ 0 ∷ 2 ∷ 3 ∷ []) (1 ∷ 1 ∷ 1 ∷ 2 ∷ []) (1 ∷ 1 ∷ 1 ∷ 2 ∷ [])
unfolding index_after_levy
second_index = refl

pub first_short : levied two_basins (lent_for 6) (lent_units 4) 1 100 (9 ∷ 9 ∷ []) ≡ Refused 3 0
unfolding levied
first_short = refl

-- a basin that the sheet lacks, 0 too, gets no dues and is no refusal
pub no_third : dues_of two_basins 3 100 ≡ []
unfolding dues_of
no_third = refl

pub third_levied : levied two_basins (lent_for 6) (lent_units 4) 3 100 [] ≡ Ok 4
unfolding levied
third_levied = refl

pub third_after : dues_after two_basins (lent_for 6) (lent_units 4) 3 100 four ≡ four
unfolding dues_after
third_after = refl

pub none_levied : levied two_basins (lent_for 6) (lent_units 4) 0 100 [] ≡ Ok 4
unfolding levied
none_levied = refl

pub none_after : dues_after two_basins (lent_for 6) (lent_units 4) 0 100 four ≡ four
unfolding dues_after
none_after = refl
