-- What the index as the call wrote it says of an accepted sheet.
use Rattle.std.specs.Prelude.{◌≡◌, true, List, ℕ, ◌<◌, get_or, take, Ok}
-- some of these only must-fail edits need
use Rattle.sheet.specs.Sheet.{Sheet, cells, inside, next}
use Rattle.sheet.specs.Water.{DrainsTo}
use Rattle.sheet.specs.Area.{count}
use Rattle.sheet.specs.declared.Label.{Label}
use Rattle.sheet.specs.declared.UnitName.{UnitName}
use Rattle.sheet.specs.Record.{digits_of, labels_in, label_at, same_unit, unit_at, basin_and_digits}
use Rattle.sheet.specs.Refusal.{Lent, both, lent_after}
use Rattle.sheet.specs.Flow.{is_label}
use Rattle.claims.specs.Dictionary.{is_before}
use Rattle.claims.specs.Bounds.{sum}
use Rattle.claims.specs.Demand.{OneOutlet, Inside, digits_at, basin_at, OfBasin}
use Rattle.intake.specs.declared.Intake.{Intake}
use Rattle.intake.specs.Intake.{LentSheet}
use Rattle.labelling.specs.FromIntake.{intake_lent}
use Rattle.labelling.specs.Demand.{OfIntake}
use Rattle.lookup.specs.Lookup.{greatest_depth}
use Rattle.lookup.specs.Exactly.{LookupFinds}
use Rattle.index.specs.Index.{LentIndex, indexed, index_after}
use Rattle.index.specs.FromIntake.{intake_indexed, intake_index_after}

-- the unit at a place of the index, its basin, its label, its outlet cell and its count of cells
abbrev pub index_unit : LentIndex → ℕ → UnitName
index_unit I k = unit_at I.basins I.labels k

abbrev pub index_basin : LentIndex → ℕ → ℕ
index_basin I k = get_or I.basins k 0

abbrev pub index_label : LentIndex → ℕ → Label
index_label I k = label_at I.labels k

abbrev pub index_outlet : LentIndex → ℕ → ℕ
index_outlet I k = get_or I.outlets k 0

abbrev pub index_count : LentIndex → ℕ → ℕ
index_count I k = get_or I.counts k 0

-- an inside cell with a basin and a label
pub record HasUnit (S : Sheet) (basins labels : List ℕ) (unit : UnitName) (c : ℕ) : Type 0 where
  pub is_inside_lem : Inside S c
  pub named : unit_at basins labels c ≡ unit

-- basins and labels are those that were written for the cells, and the first `units` places of I the index
pub record IndexMeaning (S : Sheet) (basins labels : List ℕ) (units : ℕ) (I : LentIndex) : Type 0 where
  -- the units are strictly rising by basin and then label
  pub rising : (i k : ℕ) → i < k → k < units
      → is_before (basin_and_digits (index_unit I i)) (basin_and_digits (index_unit I k)) ≡ true
  -- every inside cell's unit stands in it exactly once, and no other unit does
  pub stands : (c : ℕ) → Inside S c → (k : ℕ) × (k < units) × (index_unit I k ≡ unit_at basins labels c)
  pub once : (i k : ℕ) → i < units → k < units → index_unit I i ≡ index_unit I k → i ≡ k
  pub no_other : (k : ℕ) → k < units → (c : ℕ) × HasUnit S basins labels (index_unit I k) c
  -- each outlet is the cell to which the cells of that basin with that label drain, through each other: that of the
  -- one-outlet statement about the cells of that basin
  pub outlet : (k : ℕ) → k < units
      → DrainsTo (next S.grid) (HasUnit S basins labels (index_unit I k)) (index_outlet I k)
  pub one_outlet : (k : ℕ) → k < units
      → (o : OneOutlet (next S.grid) (OfBasin S basins (index_basin I k)) (digits_at labels)
      (digits_of (index_label I k)))
      × (o.cell ≡ index_outlet I k)
  -- and the one that the outlet question is about (OutletFlowMeaning, outlet), for every cell p of that unit
  pub unit_outlet_lem : (k : ℕ) → k < units → (p : ℕ) → HasUnit S basins labels (index_unit I k) p
      → (o : OneOutlet (next S.grid) (OfBasin S basins (basin_at basins p)) (digits_at labels) (digits_at labels p))
      → o.cell ≡ index_outlet I k
  -- the counts are those of the cells of that basin with that label, and add up to the number of inside cells
  pub counts : (k : ℕ) → k < units
      → index_count I k
      ≡ count (cells S.grid) (λ c. both (inside S.grid c) (same_unit (unit_at basins labels c) (index_unit I k)))
  pub counts_add : sum (λ m. m) (take units I.counts) ≡ count (cells S.grid) (inside S.grid)
  -- a lookup in it is never refused for leading digits that are a label, and hands back exactly that basin's labels
  -- that begin so; its labels are those of the first 2 × units numbers (sheet/proofs/Slices.antt: labels-take)
  pub lookups : (leading : UnitName) → is_label greatest_depth leading.label ≡ true
      → LookupFinds leading (take units (labels_in I.labels)) (take units I.basins)

-- what the contract of `index` promises where it is accepted: L and I were lent, and L' and I' are what the slices
-- hold afterwards
pub record IndexedDirectly (S : Sheet) (L : Lent) (I : LentIndex) (L' : Lent) (I' : LentIndex) (units : ℕ)
    : Type 0 where
  pub answer : indexed S L I ≡ Ok units
  pub lent : L' ≡ lent_after S L
  pub index : I' ≡ index_after S L I

-- and that of `index_intake`
pub record IndexedFrom (i : Intake) (T : LentSheet) (L : Lent) (I : LentIndex) (L' : Lent) (I' : LentIndex) (units : ℕ)
    : Type 0 where
  pub answer : intake_indexed i T L I ≡ Ok units
  pub lent : L' ≡ intake_lent i T L
  pub index : I' ≡ intake_index_after i T L I

-- about the sheet of an intake that had ended, and what was written for it
abbrev pub IndexMeaningFrom : Intake → LentSheet → Lent → ℕ → LentIndex → Type 0
IndexMeaningFrom i T L units I =
    OfIntake (λ S written. IndexMeaning S written.basins written.labels units I) i T L

-- what the index says, for all accepted sheets, however it was filled
pub record IndexMeaningWhole : Type 1 where
  pub directly : (S : Sheet) (L : Lent) (I : LentIndex) (L' : Lent) (I' : LentIndex) (units : ℕ)
      → IndexedDirectly S L I L' I' units → IndexMeaning S L'.basins L'.labels units I'
  pub from_intake : (i : Intake) (T : LentSheet) (L : Lent) (I : LentIndex) (L' : Lent) (I' : LentIndex) (units : ℕ)
      → IndexedFrom i T L I L' I' units → IndexMeaningFrom i T L' units I'
