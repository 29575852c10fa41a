-- What the steps of the levy's call ask and promise.
use Rattle.std.specs.Prelude.{◌≡◌, List, [], ◌∷◌, map, ℕ, zero, suc, ◌+◌, ◌*◌, ◌-◌, ◌/◌, ◌^◌, ◌≤◌, ◌<◌, length, get_or, take, drop, replicate}
use Rattle.sheet.specs.Sheet.{Sheet, cells}
use Rattle.sheet.specs.Area.{row_weight}
use Rattle.sheet.specs.Label.{areas_of, labels_of}
use Rattle.sheet.specs.Basins.{basins_of}
use Rattle.sheet.specs.Refusal.{Lent, outcome_from17, if_accepted}
use Rattle.directions.specs.Sizes.{most_cells}
use Rattle.claims.specs.Bounds.{sum, most_area}
use Rattle.upstream.specs.Work.{ordered_sizes_part}
use Rattle.order.specs.Places.{cells_in, sizes_in}
use Rattle.index.specs.Units.{UnitEntry, units}
use Rattle.index.specs.Index.{LentIndex, indexed_on, if_indexed}
use Rattle.index.specs.Steps.{CellsLabelled, groups_of, InOrder}
use Rattle.dues.specs.declared.Part.{Part}
use Rattle.dues.specs.Levy.{greatest_total, units_of_basin, dues_of, with_dues, if_levied}
use Rattle.sheet.specs.Answer.{Outcome, Counted}

-- ---- the cells of one basin, in an order in which one basin stands after the other, by the sizes at each position

-- the position where the cells of so many basins end
unfoldable pub end_of_basins : List ℕ → ℕ → ℕ
end_of_basins sizes zero = 0
end_of_basins sizes (suc k) = let end = end_of_basins sizes k in end + get_or sizes end 0

-- the position where a basin begins: where those before it end; where there is no such basin, where all end
unfoldable pub basin_start : List ℕ → ℕ → ℕ
unfolding end_of_basins
basin_start sizes zero = length sizes
basin_start sizes (suc k) = end_of_basins sizes k

-- how many cells it has
unfoldable pub basin_size : List ℕ → ℕ → ℕ
unfolding basin_start
basin_size sizes basin = get_or sizes (basin_start sizes basin) 0

-- its cells
abbrev pub basin_cells : List ℕ → List ℕ → ℕ → List ℕ
basin_cells cells sizes basin = take (basin_size sizes basin) (drop (basin_start sizes basin) cells)

-- no size is 0, and none leads past the end; so few that a count of them fits 32 bits
pub record Sizes (sizes : List ℕ) : Type 0 where
  pub few : length sizes + 1 < 2 ^ 32
  pub some : (j : ℕ) → j < length sizes → 1 ≤ get_or sizes j 0
  pub within : (j : ℕ) → j < length sizes → j + get_or sizes j 0 ≤ length sizes

-- what the order along rivers hands over: so many cells, and their sizes, stand in their parts of the work places
pub record Ordered (n : ℕ) (work : List ℕ) (queued : ℕ) : Type 0 where
  pub small : n ≤ most_cells
  pub room : ordered_sizes_part * n + queued ≤ length work
  pub sizes : Sizes (sizes_in n work queued)

-- a part of the work places that holds the cells of one basin
pub record HoldsBasin (n : ℕ) (work : List ℕ) (queued basin : ℕ) (part : Part) : Type 0 where
  pub from : part.first ≤ part.end
  pub to : part.end ≤ length work
  pub is : take (part.end - part.first) (drop part.first work)
      ≡ basin_cells (cells_in n work queued) (sizes_in n work queued) basin

-- ---- dues

-- cells whose rows have weights; together they weigh no more than a sheet can
pub record Weighed (cols : ℕ) (weights cells : List ℕ) : Type 0 where
  pub some : 0 < cols
  pub rows : (j : ℕ) → j < length cells → get_or cells j 0 / cols < length weights
  pub small : sum (row_weight cols weights) cells ≤ most_area

-- the summed weights f of cells, taken from a list one unit after the other: so many cells each
unfoldable pub part_weights : (ℕ → ℕ) → List ℕ → List ℕ → List ℕ
unfolding sum
part_weights f [] cells = []
part_weights f (count ∷ counts) cells = sum f (take count cells) ∷ part_weights f counts (drop count cells)

-- the counts of entries
abbrev pub counts_of : List UnitEntry → List ℕ
counts_of entries = map (λ (e : UnitEntry). e.count) entries

-- the summed weights f of the groups of cells
abbrev pub group_weights : (ℕ → ℕ) → List ℕ → List ℕ → List ℕ → List ℕ
group_weights f cells labels basins = part_weights f (counts_of (groups_of cells labels basins)) cells

-- the dues of units with these weights, of a whole; the units before them weigh `before`
unfoldable pub dues_by : ℕ → ℕ → ℕ → List ℕ → List ℕ
dues_by total whole before [] = []
dues_by total whole before (w ∷ ws) =
    (total * (before + w) / whole - total * before / whole) ∷ dues_by total whole (before + w) ws

-- cells with labels, basins and weights, a total within its bound, and a place for the due of each of their groups
pub record Shared (total whole cols : ℕ) (weights cells labels basins dues : List ℕ) : Type 0 where
  pub weighed : Weighed cols weights cells
  pub labelled : CellsLabelled cells labels basins
  pub total_most : total ≤ greatest_total
  pub whole_some : 0 < whole
  pub room : length (groups_of cells labels basins) ≤ length dues

-- of such cells, where there are any, the first is the outlet, whose area is their weight
pub record OutletFirst (total cols : ℕ) (weights areas cells labels basins dues : List ℕ) : Type 0 where
  pub outlet_on : get_or cells 0 0 < length areas
  pub outlet_area : get_or areas (get_or cells 0 0) 0 ≡ sum (row_weight cols weights) cells
  pub shared : Shared total (sum (row_weight cols weights) cells) cols weights cells labels basins dues

-- ---- the call after labelling

-- what labelling hands over of an accepted sheet: the order along rivers, with labels and basins; where the basin has
-- cells and its dues have places, the first of these cells is the outlet
pub record LevyInOrder (n queued basin total cols : ℕ) (weights areas labels basins work dues : List ℕ)
    : Type 0 where
  pub ordered : Ordered n work queued
  pub in_order_lem : InOrder n work labels basins queued
  pub labelled : CellsLabelled (basin_cells (cells_in n work queued) (sizes_in n work queued) basin) labels basins
  pub outlet_first : 0 < length (basin_cells (cells_in n work queued) (sizes_in n work queued) basin)
      → length (groups_of (basin_cells (cells_in n work queued) (sizes_in n work queued) basin) labels basins)
      ≤ length dues
      → OutletFirst total cols weights areas
      (basin_cells (cells_in n work queued) (sizes_in n work queued) basin) labels basins dues

-- what is answered and written, where labelling came to an outcome with these cells in order, of which `part` are the
-- basin's: I and D were lent, and I' and D' are what the slices hold then
pub record LeviedInOrder (outcome : Outcome) (total cols : ℕ) (weights labels basins cells part : List ℕ)
    (I I' : LentIndex) (D D' : List ℕ) (r : Counted) : Type 0 where
  pub answer : r
      ≡ with_dues (indexed_on outcome (length (groups_of cells labels basins)) I) (length (groups_of part labels basins)) D
  pub index : I' ≡ if_indexed r (groups_of cells labels basins) I
  pub dues : D'
      ≡ if_levied r (dues_by total (sum (row_weight cols weights) part) 0
      (group_weights (row_weight cols weights) part labels basins)) D

-- what the call leaves of a sheet that passed the first checks: L, I and D were lent, and L', I' and D' are what the
-- slices hold then
pub record LeviedFitting (S : Sheet) (L L' : Lent) (I I' : LentIndex) (basin total : ℕ) (D D' : List ℕ) (r : Counted)
    : Type 0 where
  pub answer : r
      ≡ with_dues (indexed_on (outcome_from17 S) (length (units S)) I) (length (units_of_basin S basin)) D
  pub areas : L'.areas ≡ if_accepted (outcome_from17 S) (areas_of S) L.areas
  pub labels : L'.labels ≡ if_accepted (outcome_from17 S) (labels_of S) L.labels
  pub basins : L'.basins ≡ if_accepted (outcome_from17 S) (basins_of S.grid) L.basins
  pub work : L'.work ≡ replicate (8 * cells S.grid) 0
  pub index : I' ≡ if_indexed r (units S) I
  pub dues : D' ≡ if_levied r (dues_of S basin total) D
