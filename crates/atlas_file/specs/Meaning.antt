-- What the atlas of an accepted sheet and of a file is.
use Rattle.std.specs.Prelude.{◌≡◌, true, List, [], ◌↔◌, ℕ, suc, ◌<◌, length, Ok}
use Rattle.lines.specs.Fields.{line_bytes}
use Rattle.sheet.specs.Sheet.{Sheet}
use Rattle.sheet.specs.Basins.{basin_areas, basin_labels, basins_of}
use Rattle.sheet.specs.Refusal.{Lent, outcome, lent_after}
use Rattle.faults.specs.declared.Sizes.{Sizes}
use Rattle.intake.specs.Intake.{LentSheet}
use Rattle.claims.specs.Demand.{Inside}
use Rattle.listing.specs.Listing.{refusal_text}
use Rattle.listing.specs.Writing.{accepted}
use Rattle.pages.specs.Line.{Texts, texts_fit, line_columns, names, cell_texts}
use Rattle.pages.specs.Page.{atlas_text}
use Rattle.pages.specs.Writing.{page_fits}
use Rattle.reading.specs.Feed.{largest_count}
use Rattle.reading.specs.Pieces.{NoFeed, joined, read_pieces}
use Rattle.report.specs.Report.{verdict_of, read_lent, file_verdict, report}
use Rattle.report.specs.Demand.{file_sheet, program_cells, program_bytes}
use Rattle.atlas_file.specs.Atlas.{verdict_page_into, file_atlas, file_page, file_pages}
use Rattle.sheet.specs.Answer.{Accepted, Refused}

-- the texts of a cell's values, with the areas, labels and basins that labelling wrote
abbrev pub written_texts : Sheet → Lent → ℕ → Texts
written_texts S L c =
    let after = lent_after S L in cell_texts S.grid after.areas after.labels after.basins c

-- "every number fits its field, and this is to be shown for all accepted sheets"
pub record NumbersFit (S : Sheet) (L : Lent) : Type 0 where
  pub fit : (c : ℕ) → Inside S c → texts_fit (written_texts S L c) ≡ true
  -- so that every line has "exactly 72 columns before its line feed", and no page is refused for a number that is too
  -- wide
  pub columns : (c : ℕ) → Inside S c → length (line_columns (written_texts S L c)) ≡ 72
  pub no_feed : (c : ℕ) → NoFeed (line_columns (written_texts S L c))
  pub pages : (k : ℕ)
      → let after = lent_after S L in page_fits S.grid after.areas after.labels after.basins k ≡ true

-- the atlas of a sheet with the areas, labels and basins of the definition
abbrev pub sheet_atlas : Sheet → List ℕ
sheet_atlas S = atlas_text S.grid (basin_areas S) (basin_labels S) (basins_of S.grid)

-- how many pages the program asks for: 2,048 cells fill no more
abbrev pub program_pages : ℕ
program_pages = 35

pub record AtlasMeaning : Type 0 where
  pub numbers_fit : (S : Sheet) (L : Lent) → outcome S L ≡ Accepted → NumbersFit S L
  -- the line of names has 72 columns before its line feed too
  pub names_line_lem : (length (line_columns names) ≡ 72) × NoFeed (line_columns names)
  -- the atlas of a refused file is the two lines with its number and place
  pub refused : (T : LentSheet) (L : Lent) (bytes : List ℕ) (number place : ℕ)
      → file_verdict T L bytes ≡ Refused number place → file_atlas T L bytes ≡ refusal_text number place
  -- that of a labelled one is the atlas of its sheet
  pub labelled : (T : LentSheet) (L : Lent) (bytes : List ℕ) (z : Sizes) → file_verdict T L bytes ≡ Ok z
      → file_atlas T L bytes ≡ sheet_atlas (file_sheet T bytes z)
  -- "its two lines after a refusal": refused exactly when its listing is, with the same number and place
  pub as_listing : (T : LentSheet) (L : Lent) (bytes : List ℕ) (number place : ℕ)
      → (file_atlas T L bytes ≡ refusal_text number place) ↔ (report T L bytes ≡ refusal_text number place)
  -- the pages up to the first that is empty, one after the other, are the atlas
  pub pages : (T : LentSheet) (L : Lent) (bytes : List ℕ) (k : ℕ) → file_page T L bytes (suc k) ≡ []
      → file_pages T L bytes k ≡ file_atlas T L bytes
  -- what the calls write from a file that was read in chunks, however it is cut, into the program's buffer: every page
  -- is accepted
  pub written : (pieces : List (List ℕ)) (line buffer : List ℕ) (T : LentSheet) (L : Lent) (k : ℕ)
      → length line ≡ line_bytes → length (joined pieces) < largest_count → length buffer ≡ program_bytes
      → let f = read_pieces line T pieces in
      let after = read_lent f.read f.lent L in
      verdict_page_into (verdict_of f.read f.lent L) f.lent.dirs after.areas after.labels after.basins
      k buffer
      ≡ accepted (file_page T L (joined pieces) k) buffer
  -- and where 2,048 direction bytes are lent, as the program does, the pages that it prints are the atlas
  pub printed : (T : LentSheet) (L : Lent) (bytes : List ℕ) → length bytes < largest_count
      → length T.dirs ≡ program_cells → file_pages T L bytes program_pages ≡ file_atlas T L bytes
