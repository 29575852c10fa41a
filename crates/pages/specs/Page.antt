-- Document 02's atlas pages of a sheet, and its atlas, which is all of them one after the other.
use Rattle.std.specs.Prelude.{cond, List, [], ◌∷◌, ◌++◌, ℕ, zero, suc, ◌+◌, ◌*◌, ◌/◌, ◌%◌, eqb, length, take, drop}
use Rattle.sheet.specs.Sheet.{Grid, cells, inside}
use Rattle.pages.specs.Line.{page_line, names, cell_texts}

-- ---- the cells of a page

-- the inside cells among the first n, in reading order
unfoldable pub inside_below : Grid → ℕ → List ℕ
unfolding inside
inside_below G zero = []
inside_below G (suc n) = inside_below G n ++ cond (inside G n) (n ∷ []) []

-- the inside cells of a sheet, in reading order
unfoldable pub inside_cells : Grid → List ℕ
unfolding inside_below
inside_cells G = inside_below G (cells G)

-- "59 cell lines" a page
abbrev pub page_size : ℕ
page_size = 59

-- those of the given cells that stand on the page of this number; pages are numbered from 1
unfoldable pub page_cells : ℕ → List ℕ → List ℕ
page_cells zero cs = []
page_cells (suc k) cs = take page_size (drop (k * page_size) cs)

-- how many pages there are: the cells by 59, rounded up
unfoldable pub page_count : List ℕ → ℕ
page_count cs = (length cs + 58) / page_size

-- ---- its text; the line of each cell is given

-- the lines of cells, one after the other
unfoldable pub cell_lines : (ℕ → List ℕ) → List ℕ → List ℕ
cell_lines line [] = []
cell_lines line (c ∷ cs) = line c ++ cell_lines line cs

-- "a page is one line of the column names", then cell lines; without cells there is no page
unfoldable pub page_of : (ℕ → List ℕ) → List ℕ → List ℕ
unfolding cell_lines page_line
page_of line [] = []
page_of line (c ∷ cs) = page_line names ++ cell_lines line (c ∷ cs)

-- the first k pages, each straight after the one before: "the next page follows directly"
unfoldable pub pages_up_to : ℕ → (ℕ → List ℕ) → List ℕ → List ℕ
unfolding page_of page_cells
pages_up_to zero line cs = []
pages_up_to (suc k) line cs = pages_up_to k line cs ++ page_of line (page_cells (suc k) cs)

-- The atlas, cell by cell: the line of names stands before the first cell line, and before each that comes after 59,
-- 118 and so on. `i` is how many cell lines there are before these.
unfoldable pub atlas_from : ℕ → (ℕ → List ℕ) → List ℕ → List ℕ
unfolding page_line
atlas_from i line [] = []
atlas_from i line (c ∷ cs) =
    let rest : List ℕ = line c ++ atlas_from (suc i) line cs in cond (eqb (i % page_size) 0) (page_line names ++ rest) rest

-- ---- of a sheet

-- the line of the cell c
unfoldable pub atlas_line : Grid → List ℕ → List ℕ → List ℕ → ℕ → List ℕ
unfolding page_line cell_texts
atlas_line G areas labels basins c = page_line (cell_texts G areas labels basins c)

-- the page of this number; no text where there is no such page
unfoldable pub page_text : Grid → List ℕ → List ℕ → List ℕ → ℕ → List ℕ
unfolding page_of page_cells inside_cells atlas_line
page_text G areas labels basins k = page_of (atlas_line G areas labels basins) (page_cells k (inside_cells G))

unfoldable pub atlas_text : Grid → List ℕ → List ℕ → List ℕ → List ℕ
unfolding atlas_from inside_cells atlas_line
atlas_text G areas labels basins = atlas_from 0 (atlas_line G areas labels basins) (inside_cells G)
