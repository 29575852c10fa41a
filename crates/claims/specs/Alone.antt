-- What document 02 says of basins, of the numbers that were written: their order, and that areas and labels are those
-- of the sheet on which all other basins are set to 0; where there is one basin, they are those of document 01.
use Rattle.std.specs.Prelude.{◌≡◌, true, false, List, ℕ, suc, ◌≤◌, ◌<◌, get_or, Some}
use Rattle.sheet.specs.Sheet.{Grid, Sheet, cells, inside, is_outlet, next}
use Rattle.sheet.specs.Area.{count, area}
use Rattle.sheet.specs.Record.{label_at}
use Rattle.sheet.specs.Label.{label_of, areas_of, labels_of}
use Rattle.sheet.specs.Basins.{basin_sheet, basin_areas, basin_labels}
use Rattle.claims.specs.Demand.{Inside, basin_at}

-- worked out on the whole sheet, areas and labels are those that each basin has by itself
pub record AloneIsDirect (S : Sheet) : Type 0 where
  pub areas : basin_areas S ≡ areas_of S
  pub labels : basin_labels S ≡ labels_of S

-- how many basins a sheet has
abbrev pub basin_count : Grid → ℕ
basin_count G = count (cells G) (is_outlet G)

-- what the basins that were written for a sheet say
pub record BasinsMeaning (S : Sheet) (basins : List ℕ) : Type 0 where
  -- from 1 to the number of outlets
  pub some : (c : ℕ) → Inside S c → 1 ≤ basin_at basins c
  pub most : (c : ℕ) → Inside S c → basin_at basins c ≤ basin_count S.grid
  -- outside cells have 0
  pub outside : (c : ℕ) → c < cells S.grid → inside S.grid c ≡ false → basin_at basins c ≡ 0
  -- an outlet's is the count of outlets up to it, in reading order
  pub numbered : (o : ℕ) → is_outlet S.grid o ≡ true → basin_at basins o ≡ count (suc o) (is_outlet S.grid)
  -- water stays in its basin
  pub stays : (c r : ℕ) → next S.grid c ≡ Some r → basin_at basins c ≡ basin_at basins r
  -- a later outlet has a larger number, so that a basin has one outlet
  pub rising : (o p : ℕ) → is_outlet S.grid o ≡ true → is_outlet S.grid p ≡ true → o < p
      → basin_at basins o < basin_at basins p

-- the areas and labels that were written for a cell are those that it has where all other basins are set to 0
pub record AloneMeaning (S : Sheet) (areas labels basins : List ℕ) : Type 0 where
  pub area_alone : (c : ℕ) → Inside S c → get_or areas c 0 ≡ area (basin_sheet S (basin_at basins c)) c
  pub label_alone : (c : ℕ) → Inside S c → label_at labels c ≡ label_of (basin_sheet S (basin_at basins c)) c

-- and those that it has on the sheet itself: on a sheet of one basin, those of document 01
pub record DirectMeaning (S : Sheet) (areas labels : List ℕ) : Type 0 where
  pub area_direct : (c : ℕ) → Inside S c → get_or areas c 0 ≡ area S c
  pub label_direct : (c : ℕ) → Inside S c → label_at labels c ≡ label_of S c
