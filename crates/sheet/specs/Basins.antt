-- Document 02's basins: the number of a cell's basin, the sheet on which all other basins are set to 0, and areas and
-- labels on it.
use Rattle.std.specs.Prelude.{cond, List, ◌∷◌, ℕ, suc, eqb}
use Rattle.sheet.specs.declared.Label.{Label}
use Rattle.sheet.specs.Sheet.{Grid, Sheet, grid, cells, dir_at, inside, is_outlet}
use Rattle.sheet.specs.Area.{count, area}
use Rattle.sheet.specs.Record.{numbers_of}
use Rattle.sheet.specs.Label.{outlet_of, label_digits, label_of, list_from}

-- basins are "numbered from 1 by their outlets in reading order": how many outlets there are up to this one
unfoldable pub basin_number : Grid → ℕ → ℕ
unfolding count is_outlet
basin_number G outlet = count (suc outlet) (is_outlet G)

-- the basin of a cell: that of the outlet to which its water comes; outside cells have 0
unfoldable pub basin_of : Grid → ℕ → ℕ
unfolding inside basin_number outlet_of
basin_of G c = cond (inside G c) (basin_number G (outlet_of G c)) 0

-- the basin of an inside cell and then the digits of its label, worked out on the whole sheet: in the dictionary order
-- of these, cells stand "by basin and then label"
unfoldable pub basin_digits : Sheet → ℕ → List ℕ
unfolding basin_of label_digits
basin_digits S c = basin_of S.grid c ∷ label_digits S c

-- the same grid with all other basins set to 0
unfoldable pub basin_grid : Grid → ℕ → Grid
unfolding list_from basin_of
basin_grid G basin =
    grid G.rows G.cols (list_from (λ c. cond (eqb (basin_of G c) basin) (dir_at G c) 0) 0 (cells G))

-- the same sheet with all other basins set to 0
abbrev pub basin_sheet : Sheet → ℕ → Sheet
basin_sheet S basin = record {
  grid = basin_grid S.grid basin;
  depth = S.depth;
  least = S.least;
  split = S.split;
  weights = S.weights;
}

-- the area of a cell: that it has "if all others were set to 0 on the same sheet"
unfoldable pub basin_area : Sheet → ℕ → ℕ
unfolding basin_of basin_grid area
basin_area S c = area (basin_sheet S (basin_of S.grid c)) c

-- the label of a cell, in the same way
unfoldable pub basin_label : Sheet → ℕ → Label
unfolding basin_of basin_grid label_of
basin_label S c = label_of (basin_sheet S (basin_of S.grid c)) c

-- the areas, the labels and the basins of all cells, in reading order; of the labels, the numbers that a slice holds
unfoldable pub basin_areas : Sheet → List ℕ
unfolding list_from basin_area
basin_areas S = list_from (basin_area S) 0 (cells S.grid)

unfoldable pub basin_labels : Sheet → List ℕ
unfolding list_from basin_label numbers_of
basin_labels S = numbers_of (list_from (basin_label S) 0 (cells S.grid))

unfoldable pub basins_of : Grid → List ℕ
unfolding list_from basin_of
basins_of G = list_from (basin_of G) 0 (cells G)
