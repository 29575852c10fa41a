-- The check of a survey plan on the index that the index call wrote for a basin of an accepted sheet: by the water
-- itself.
use Rattle.std.specs.Prelude.{◌≡◌, List, ◌≢◌, ◌↔◌, ℕ, ◌≤◌, ◌<◌, length, take}
use Rattle.sheet.specs.Sheet.{Sheet, next}
use Rattle.sheet.specs.Water.{Passes}
use Rattle.sheet.specs.declared.Label.{Label}
use Rattle.sheet.specs.Record.{no_digits, labels_in, unit_name}
use Rattle.sheet.specs.Refusal.{Lent}
use Rattle.lookup.specs.Lookup.{lookup_part}
use Rattle.intake.specs.declared.Intake.{Intake}
use Rattle.intake.specs.Intake.{LentSheet}
use Rattle.labelling.specs.Demand.{OfIntake}
use Rattle.index.specs.Index.{LentIndex}
use Rattle.index.specs.Meaning.{index_unit, index_outlet, HasUnit, IndexedDirectly, IndexedFrom}
use Rattle.plan.specs.Plan.{plan_answer}
use Rattle.plan.specs.Meaning.{GoodIndex, Stands, GoodPlan}
use Rattle.sheet.specs.Answer.{Accepted}

-- the labels of a basin's index: those that a lookup without leading digits hands back, of the first `units` places
-- of the index. In the lent slice they are what `lookup` hands back, two numbers each (sheet/proofs/Slices.antt:
-- labels-numbers)
abbrev pub basin_index : LentIndex → ℕ → ℕ → List Label
basin_index I units basin =
    lookup_part (unit_name basin no_digits) (take units (labels_in I.labels)) (take units I.basins)

-- water from a cell of the unit q passes the outlet of the unit p, both of the basin
pub record WaterPasses (S : Sheet) (basins labels : List ℕ) (units : ℕ) (I : LentIndex) (basin : ℕ) (q p : Label)
    : Type 0 where
  pub place : ℕ
  pub within : place < units
  pub is : index_unit I place ≡ unit_name basin p
  pub cell : ℕ
  pub from : HasUnit S basins labels (unit_name basin q) cell
  pub passes : Passes (next S.grid) cell (index_outlet I place)

-- basins and labels are those that were written for the cells, and the first `units` places of I the index
pub record SurveyMeaning (S : Sheet) (basins labels : List ℕ) (units : ℕ) (I : LentIndex) : Type 0 where
  -- a basin's index has the labels of exactly its units, and is never refused
  pub holds : (basin : ℕ) (p : Label) → Stands (basin_index I units basin) (length (basin_index I units basin)) p
      ↔ ((c : ℕ) × HasUnit S basins labels (unit_name basin p) c)
  pub never_refused : (basin : ℕ) → GoodIndex (basin_index I units basin)
  -- a plan is accepted exactly if each unit stands in it once, after every other unit whose water passes its outlet
  pub accepted : (basin : ℕ) (plan : List Label) (places : ℕ) → length (basin_index I units basin) ≤ places
      → (plan_answer (basin_index I units basin) plan places ≡ Accepted)
      ↔ GoodPlan (WaterPasses S basins labels units I basin) (basin_index I units basin) plan
  -- of two different units, if water from one cell of q passes the outlet of p, water from every cell of q does
  pub whole_units : (basin : ℕ) (q p : Label) → q ≢ p → WaterPasses S basins labels units I basin q p
      → (c : ℕ) → HasUnit S basins labels (unit_name basin q) c → (k : ℕ) → k < units
      → index_unit I k ≡ unit_name basin p → Passes (next S.grid) c (index_outlet I k)

-- for all accepted sheets, however the index was filled
pub record SurveyMeaningWhole : Type 1 where
  pub directly : (S : Sheet) (L : Lent) (I : LentIndex) (L' : Lent) (I' : LentIndex) (units : ℕ)
      → IndexedDirectly S L I L' I' units → SurveyMeaning S L'.basins L'.labels units I'
  pub from_intake : (i : Intake) (T : LentSheet) (L : Lent) (I : LentIndex) (L' : Lent) (I' : LentIndex) (units : ℕ)
      → IndexedFrom i T L I L' I' units
      → OfIntake (λ S written. SurveyMeaning S written.basins written.labels units I') i T L'
