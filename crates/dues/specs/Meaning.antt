-- What the dues as the call wrote them say of an accepted sheet.
use Rattle.std.specs.Prelude.{◌≡◌, List, ℕ, suc, ◌+◌, ◌*◌, ◌-◌, ◌/◌, ◌^◌, ◌≤◌, ◌<◌, length, get_or, take, Ok, Some}
use Rattle.sheet.specs.Sheet.{Sheet, cells, inside}
use Rattle.sheet.specs.Area.{sum_over, weight}
use Rattle.sheet.specs.Record.{same_unit, unit_at}
use Rattle.sheet.specs.Refusal.{Lent, both}
use Rattle.claims.specs.Bounds.{sum}
use Rattle.claims.specs.Alone.{basin_count}
use Rattle.faults.specs.declared.Sizes.{Sizes}
use Rattle.intake.specs.declared.Intake.{Intake}
use Rattle.intake.specs.Intake.{LentSheet, ended_sizes}
use Rattle.labelling.specs.FromIntake.{sheet_of}
use Rattle.labelling.specs.Demand.{OfIntake}
use Rattle.index.specs.Index.{LentIndex, indexed}
use Rattle.index.specs.FromIntake.{intake_indexed}
use Rattle.index.specs.Meaning.{index_unit, index_basin, IndexMeaning}
use Rattle.dues.specs.Levy.{greatest_total, units_of_basin, weight_of_first, whole_weight, levied, lent_after_levy}
use Rattle.dues.specs.Levy.{index_after_levy, dues_after}
use Rattle.dues.specs.FromIntake.{intake_levied, intake_lent_after_levy, intake_index_after_levy, intake_dues_after}

-- the sheet has the basin
pub record HasBasin (S : Sheet) (basin : ℕ) : Type 0 where
  pub some : 1 ≤ basin
  pub most : basin ≤ basin_count S.grid

-- exactly the places of the index from `start` on, `number` of them, have units of the basin
pub record BasinPlaces (I : LentIndex) (units basin start number : ℕ) : Type 0 where
  pub within : start + number ≤ units
  pub its : (k : ℕ) → k < number → index_basin I (start + k) ≡ basin
  pub no_other : (k : ℕ) → k < units → index_basin I k ≡ basin → (start ≤ k) × (k < start + number)

-- the weight of the unit at a place of the index: the summed weight of the cells with its basin and label
abbrev pub index_weight : Sheet → List ℕ → List ℕ → LentIndex → ℕ → ℕ
index_weight S basins labels I k =
    sum_over (cells S.grid) (λ c. both (inside S.grid c) (same_unit (unit_at basins labels c) (index_unit I k)))
    (weight S)

-- what the unit at place k of the basin's units owes
abbrev pub due_at : List ℕ → ℕ → ℕ
due_at dues k = get_or dues k 0

-- the dues of a basin that the sheet has; its units are those from `start` on, `number` of them
pub record BasinShared (S : Sheet) (basins labels : List ℕ) (basin total start number : ℕ) (I : LentIndex)
    (dues : List ℕ) : Type 0 where
  -- S(k) sums the weights of the first k units of the basin, and that of all of them is A, which is not 0
  pub first_none : weight_of_first S basin 0 ≡ 0
  pub first_more : (k : ℕ) → k < number
      → weight_of_first S basin (suc k) ≡ weight_of_first S basin k + index_weight S basins labels I (start + k)
  pub first_all : weight_of_first S basin number ≡ whole_weight S basin
  pub whole_some : 0 < whole_weight S basin
  -- unit k owes the whole part of total × S(k) / A, less the whole part of total × S(k − 1) / A; here k is counted
  -- from 0
  pub owes : (k : ℕ) → k < number → due_at dues k
      ≡ total * weight_of_first S basin (suc k) / whole_weight S basin
      - total * weight_of_first S basin k / whole_weight S basin
  -- the dues add up to the total
  pub dues_add : sum (λ m. m) (take number dues) ≡ total
  -- each lies less than one cent above and below the exact share, total × (the unit's weight) / A: both times A
  pub cent_above : (k : ℕ) → k < number
      → due_at dues k * whole_weight S basin
      < total * index_weight S basins labels I (start + k) + whole_weight S basin
  pub cent_below : (k : ℕ) → k < number
      → total * index_weight S basins labels I (start + k)
      < due_at dues k * whole_weight S basin + whole_weight S basin

-- basins and labels are those that were written for the cells, the first `units` places of I the index, and the first
-- `number` places of `dues` the dues, written over what D held
pub record LevyMeaning (S : Sheet) (basins labels : List ℕ) (basin total units : ℕ) (I : LentIndex) (D dues : List ℕ)
    : Type 0 where
  pub index : IndexMeaning S basins labels units I
  -- the basin's units stand side by side in the index
  pub start : ℕ
  pub number : ℕ
  pub places : BasinPlaces I units basin start number
  pub shared : HasBasin S basin → BasinShared S basins labels basin total start number I dues
  -- a basin that the sheet lacks has no units, and no due is written
  pub lacking : ¬ HasBasin S basin → (number ≡ 0) × (dues ≡ D)
  pub total_most : total ≤ greatest_total
  -- no product overflows 64 bits
  pub products_fit : (k : ℕ) → total * weight_of_first S basin k < 2 ^ 63

-- what the contract of `levy` promises where it is accepted: L, I and D were lent, and L', I' and D' are what the
-- slices hold afterwards
pub record LeviedDirectly (S : Sheet) (L : Lent) (I : LentIndex) (basin total : ℕ) (D : List ℕ) (L' : Lent)
    (I' : LentIndex) (D' : List ℕ) (units : ℕ) : Type 0 where
  pub answer : levied S L I basin total D ≡ Ok units
  pub lent : L' ≡ lent_after_levy S L total
  pub index : I' ≡ index_after_levy S L I basin total D
  pub dues : D' ≡ dues_after S L I basin total D

-- and that of `levy_intake`
pub record LeviedFrom (i : Intake) (T : LentSheet) (L : Lent) (I : LentIndex) (basin total : ℕ) (D : List ℕ)
    (L' : Lent) (I' : LentIndex) (D' : List ℕ) (units : ℕ) : Type 0 where
  pub answer : intake_levied i T L I basin total D ≡ Ok units
  pub lent : L' ≡ intake_lent_after_levy i T L total
  pub index : I' ≡ intake_index_after_levy i T L I basin total D
  pub dues : D' ≡ intake_dues_after i T L I basin total D

-- about the sheet of an intake that had ended, and what was written for it
abbrev pub LevyMeaningFrom : Intake → LentSheet → Lent → ℕ → ℕ → ℕ → LentIndex → List ℕ → List ℕ → Type 0
LevyMeaningFrom i T L basin total units I D dues =
    OfIntake (λ S written. LevyMeaning S written.basins written.labels basin total units I D dues) i T L

-- what the dues say, for every basin, every total up to the bound and all accepted sheets, weighted or not, however
-- they were filled
pub record LevyMeaningWhole : Type 1 where
  pub directly : (S : Sheet) (L : Lent) (I : LentIndex) (basin total : ℕ) (D : List ℕ) (L' : Lent) (I' : LentIndex)
      (D' : List ℕ) (units : ℕ) → LeviedDirectly S L I basin total D L' I' D' units
      → LevyMeaning S L'.basins L'.labels basin total units I' D D'
  pub from_intake : (i : Intake) (T : LentSheet) (L : Lent) (I : LentIndex) (basin total : ℕ) (D : List ℕ) (L' : Lent)
      (I' : LentIndex) (D' : List ℕ) (units : ℕ) → LeviedFrom i T L I basin total D L' I' D' units
      → LevyMeaningFrom i T L' basin total units I' D D'
  -- every total up to the bound is accepted where the index call is accepted and the dues have a place for each unit of
  -- the basin
  pub accepts : (S : Sheet) (L : Lent) (I : LentIndex) (basin total : ℕ) (D : List ℕ) (units : ℕ)
      → total ≤ greatest_total → indexed S L I ≡ Ok units → length (units_of_basin S basin) ≤ length D
      → levied S L I basin total D ≡ Ok units
  pub accepts_from : (i : Intake) (T : LentSheet) (L : Lent) (I : LentIndex) (basin total : ℕ) (D : List ℕ)
      (units : ℕ) (sizes : Sizes) → total ≤ greatest_total → intake_indexed i T L I ≡ Ok units
      → ended_sizes i.stage ≡ Some sizes → length (units_of_basin (sheet_of sizes T) basin) ≤ length D
      → intake_levied i T L I basin total D ≡ Ok units
