-- A direct call's sheet and lent slices, and what its steps ask and promise.
use Rattle.std.specs.Prelude.{◌≡◌, true, cond, List, ℕ, suc, ◌+◌, ◌*◌, ◌≤◌, ◌<◌, leb, eqb, length, get_or}
use Rattle.sheet.specs.Sheet.{Sheet, grid, cells, inside}
use Rattle.directions.specs.Sizes.{Sized}
use Rattle.sheet.specs.Record.{label_places}
use Rattle.sheet.specs.Label.{areas_of, labels_of}
use Rattle.sheet.specs.Basins.{basins_of}
use Rattle.sheet.specs.Refusal.{Lent, both, sheet_fault, outcome_on, outcome_from17, if_accepted}
use Rattle.sheet.specs.River.{network}
use Rattle.upstream.specs.Search.{Drained}
use Rattle.drainage.specs.declared.Inspection.{Inspection}
use Rattle.rivers.specs.Layout.{LayoutOf}
use Rattle.order.specs.Places.{BasinAt, Arranged}
use Rattle.sheet.specs.Answer.{Outcome, Accepted, Refused}

abbrev pub sheet : ℕ → ℕ → ℕ → ℕ → ℕ → List ℕ → List ℕ → Sheet
sheet rows cols depth least split dirs weights = record {
  grid = grid rows cols dirs;
  depth = depth;
  least = least;
  split = split;
  weights = weights;
}

abbrev pub lent : List ℕ → List ℕ → List ℕ → List ℕ → Lent
lent areas labels basins work = record { areas = areas; labels = labels; basins = basins; work = work }

-- checks 1, 2, 19 and 3, in this order; of the slices only the lengths count
unfoldable pub checked_first : ℕ → ℕ → ℕ → ℕ → ℕ → ℕ → ℕ → ℕ → ℕ → ℕ → ℕ → Outcome
unfolding sheet_fault label_places
checked_first rows cols depth least split dirs weights areas labels basins work =
    let n = rows * cols in
    let written =
    both (leb n areas) (both (leb n (label_places labels)) (both (leb n basins) (leb (8 * n) work))) in
    let fit = both (leb n dirs) (both (leb rows weights) written) in
    let fault : ℕ = sheet_fault rows cols depth least split in
    cond (eqb fault 0) (cond fit Accepted (Refused 3 0)) (Refused fault 0)

abbrev pub first_checks : Sheet → Lent → Outcome
first_checks S L =
    checked_first S.grid.rows S.grid.cols S.depth S.least S.split (length S.grid.dirs)
    (length S.weights) (length L.areas) (length L.labels) (length L.basins) (length L.work)

-- checks 1, 2, 19 and 3 are passed, and exactly the work places that are needed are lent
pub record Fitting (S : Sheet) (L : Lent) : Type 0 where
  pub sized : Sized S.grid.rows S.grid.cols S.grid.dirs
  pub depth_most : S.depth ≤ 36
  pub least_most : S.least ≤ 65536000
  pub split_some : 1 ≤ S.split
  pub split_most : S.split ≤ 4
  pub weights : S.grid.rows ≤ length S.weights
  pub areas : cells S.grid ≤ length L.areas
  pub labels : cells S.grid ≤ label_places (length L.labels)
  pub basins : cells S.grid ≤ length L.basins
  pub work : length L.work ≡ 8 * cells S.grid

-- checks 17 and 4 to 6 are passed, and the work places hold the search
pub record Inspected (S : Sheet) (work : List ℕ) (queued : ℕ) : Type 0 where
  pub accepted : outcome_from17 S ≡ Accepted
  pub drained : Drained S.grid work queued

-- a sheet whose basins stand one after the other in an order along rivers, with the areas of its cells
pub record BasinsOf (cell size area : List ℕ) (depth split least : ℕ) : Type 0 where
  pub sheet : Sheet
  pub accepted : outcome_on sheet.grid ≡ Accepted
  pub depth_is : sheet.depth ≡ depth
  pub depth_most : depth ≤ 36
  pub laid_out : LayoutOf (network sheet) cell size area split least
  pub few : length cell ≤ 65536
  pub are_inside : (j : ℕ) → j < length cell → inside sheet.grid (get_or cell j 0) ≡ true
  pub first : 0 < length cell → BasinAt sheet.grid cell 0 1
  pub onward : (j k : ℕ) → BasinAt sheet.grid cell j k → j + get_or size j 0 < length cell
      → BasinAt sheet.grid cell (j + get_or size j 0) (suc k)

-- what these checks answer; where they are passed, the work places hold the search
pub record InspectedAs (S : Sheet) (work : List ℕ) (r : Inspection) : Type 0 where
  pub outcome : r.outcome ≡ outcome_from17 S
  pub passed : r.outcome ≡ Accepted → Inspected S work r.queued

-- what labelling leaves before the work places are cleared: L was lent, and L' is what the slices hold then; areas and
-- labels as they are worked out on the whole sheet
pub record LabelledInOrder (S : Sheet) (L L' : Lent) (r : Inspection) : Type 0 where
  pub outcome : r.outcome ≡ outcome_from17 S
  pub areas : L'.areas ≡ if_accepted r.outcome (areas_of S) L.areas
  pub labels : L'.labels ≡ if_accepted r.outcome (labels_of S) L.labels
  pub basins : L'.basins ≡ if_accepted r.outcome (basins_of S.grid) L.basins
  -- of an accepted sheet, the order along rivers of as many cells as were queued
  pub order : r.outcome ≡ Accepted → Arranged S.grid L'.areas L'.work r.queued
