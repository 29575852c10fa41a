-- What pages are: the lines of a sheet's inside cells, each once and in reading order, under lines of names.
use Rattle.std.specs.Prelude.{◌≡◌, true, List, [], ◌++◌, ℕ, zero, suc, ◌<◌, ◌≤◌, length, get_or}
use Rattle.sheet.specs.Sheet.{Grid, inside}
use Rattle.pages.specs.Line.{Texts, texts_fit, line_columns, names}
use Rattle.pages.specs.Page.{inside_cells, page_size, page_cells, page_count, pages_up_to, atlas_from, page_text}
use Rattle.pages.specs.Writing.{page_fits}

-- the cells of the first k pages
unfoldable pub cells_up_to : ℕ → List ℕ → List ℕ
unfolding page_cells
cells_up_to zero cs = []
cells_up_to (suc k) cs = cells_up_to k cs ++ page_cells (suc k) cs

-- a place of a list where the cell stands
pub record StandsIn (c : ℕ) (cs : List ℕ) : Type 0 where
  pub place : ℕ
  pub place_on : place < length cs
  pub is : get_or cs place 0 ≡ c

-- the inside cells of a grid, each once and in reading order, and no others
pub record InReadingOrder (G : Grid) : Type 0 where
  pub rising : (i j : ℕ) → i < j → j < length (inside_cells G) → get_or (inside_cells G) i 0 < get_or (inside_cells G) j 0
  pub only : (c : ℕ) → StandsIn c (inside_cells G) → inside G c ≡ true
  pub each : (c : ℕ) → inside G c ≡ true → StandsIn c (inside_cells G)

pub record PagesMeaning : Type 0 where
  -- "exactly 72 columns", for every line whose texts fit their fields, and that of names is one
  pub columns : (t : Texts) → texts_fit t ≡ true → length (line_columns t) ≡ 72
  pub names_fit : texts_fit names ≡ true
  -- all cells stand on the pages, once each and in their order
  pub cells : (cs : List ℕ) → cells_up_to (page_count cs) cs ≡ cs
  -- each page but the last has 59 cell lines; "the last page may hold fewer", at least one
  pub full : (k : ℕ) (cs : List ℕ) → 0 < k → k < page_count cs → length (page_cells k cs) ≡ page_size
  pub last : (cs : List ℕ) → 0 < length cs
      → (0 < length (page_cells (page_count cs) cs)) × (length (page_cells (page_count cs) cs) ≤ page_size)
  -- there are no others
  pub no_more : (k : ℕ) (cs : List ℕ) → page_count cs < k → page_cells k cs ≡ []
  pub none_before_1 : (cs : List ℕ) → page_cells 0 cs ≡ []
  -- the pages up to the first that has no cell are the atlas, in which a line of names stands before every 59 lines of
  -- cells
  pub atlas : (line : ℕ → List ℕ) (cs : List ℕ) (k : ℕ) → page_cells (suc k) cs ≡ []
      → pages_up_to k line cs ≡ atlas_from 0 line cs
  pub reading_order : (G : Grid) → InReadingOrder G
  -- a page has at most 60 lines of 73 bytes
  pub most : (G : Grid) (areas labels basins : List ℕ) (k : ℕ) → page_fits G areas labels basins k ≡ true
      → length (page_text G areas labels basins k) ≤ 4380
