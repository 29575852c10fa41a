-- What the steps of the index call ask and promise.
use Rattle.std.specs.Prelude.{◌≡◌, List, ◌∷◌, ℕ, ◌+◌, ◌*◌, ◌-◌, ◌^◌, ◌≤◌, ◌<◌, length, get_or, drop, replicate}
use Rattle.sheet.specs.Sheet.{Sheet, cells}
use Rattle.sheet.specs.Record.{label_places, unit_at}
use Rattle.sheet.specs.Label.{areas_of, labels_of}
use Rattle.sheet.specs.Basins.{basins_of}
use Rattle.sheet.specs.Refusal.{Lent, outcome_from17, if_accepted}
use Rattle.directions.specs.Sizes.{most_cells}
use Rattle.upstream.specs.Work.{cells_part}
use Rattle.order.specs.Places.{cells_in}
use Rattle.index.specs.Units.{UnitEntry, unit_entry, units}
use Rattle.index.specs.Groups.{grouped}
use Rattle.index.specs.Index.{LentIndex, indexed_on, if_indexed}
use Rattle.sheet.specs.Answer.{Counted}

-- cells that have labels and basins, so few that a count of them fits 32 bits
pub record CellsLabelled (cells labels basins : List ℕ) : Type 0 where
  pub few : length cells < 2 ^ 32
  pub on : (j : ℕ) → j < length cells → get_or cells j 0 < label_places (length labels)
  pub numbered : (j : ℕ) → j < length cells → get_or cells j 0 < length basins

-- the groups of a list of cells, by their labels and basins
abbrev pub groups_of : List ℕ → List ℕ → List ℕ → List UnitEntry
groups_of cells labels basins = grouped (unit_at basins labels) cells

-- the cells at positions first to last are a group of their own
pub record Group (cells labels basins : List ℕ) (first last : ℕ) : Type 0 where
  pub from : first ≤ last
  pub to : last < length cells
  pub is : groups_of (drop first cells) labels basins
      ≡ unit_entry (unit_at basins labels (get_or cells first 0)) (get_or cells first 0) (last - first + 1)
      ∷ groups_of (drop (last + 1) cells) labels basins

-- each of the four slices has a place for each of so many units
pub record Room (units : ℕ) (I : LentIndex) : Type 0 where
  pub labels : units ≤ label_places (length I.labels)
  pub outlets : units ≤ length I.outlets
  pub counts : units ≤ length I.counts
  pub basins : units ≤ length I.basins

-- what the order along rivers hands over: so many cells stand in their part of the work places, with labels and basins
pub record InOrder (n : ℕ) (work labels basins : List ℕ) (queued : ℕ) : Type 0 where
  pub small : n ≤ most_cells
  pub room : cells_part * n + queued ≤ length work
  pub labelled : CellsLabelled (cells_in n work queued) labels basins

-- what the call leaves of a sheet that passed the first checks: L and I were lent, and L' and I' are what the slices
-- hold then
pub record IndexedFitting (S : Sheet) (L L' : Lent) (I I' : LentIndex) (r : Counted) : Type 0 where
  pub answer : r ≡ indexed_on (outcome_from17 S) (length (units S)) I
  pub areas : L'.areas ≡ if_accepted (outcome_from17 S) (areas_of S) L.areas
  pub labels : L'.labels ≡ if_accepted (outcome_from17 S) (labels_of S) L.labels
  pub basins : L'.basins ≡ if_accepted (outcome_from17 S) (basins_of S.grid) L.basins
  pub work : L'.work ≡ replicate (8 * cells S.grid) 0
  pub index : I' ≡ if_indexed r (units S) I
