-- The first demand about files: "A grid file, whatever bytes it holds, gets its full listing or exactly one numbered
-- refusal, by document 01's conditions and order".
use Rattle.std.specs.Prelude.{◌≡◌, true, List, ℕ, ◌<◌, ◌≤◌, length, Ok}
use Rattle.lines.specs.Fields.{line_bytes}
use Rattle.sheet.specs.Sheet.{Grid, Sheet}
use Rattle.sheet.specs.Label.{areas_of, labels_of}
use Rattle.sheet.specs.Basins.{basin_areas, basin_labels, basins_of}
use Rattle.sheet.specs.Refusal.{Lent}
use Rattle.faults.specs.declared.Sizes.{Sizes}
use Rattle.intake.specs.Intake.{LentSheet}
use Rattle.claims.specs.Alone.{basin_count}
use Rattle.claims.specs.AsBefore.{number_labels}
use Rattle.labelling.specs.FromIntake.{sheet_of}
use Rattle.listing.specs.Listing.{listing_text, refusal_text}
use Rattle.listing.specs.AsBefore.{label_texts, listing_before, listing_of_numbers, with_basin1}
use Rattle.listing.specs.Writing.{text_into, accepted}
use Rattle.reading.specs.Lines.{read_file}
use Rattle.reading.specs.Feed.{largest_count}
use Rattle.reading.specs.Pieces.{joined, read_pieces}
use Rattle.report.specs.Report.{file_verdict, file_lent, report, reported_as, report_into}
use Rattle.report.specs.Conditions.{one_of, file_numbers, Ending}
use Rattle.sheet.specs.Answer.{Refused}

-- a file that is refused with the number, where this is lent
pub record RefusedWith (number : ℕ) : Type 0 where
  pub sheet : LentSheet
  pub lent : Lent
  pub bytes : List ℕ
  pub place : ℕ
  pub verdict : file_verdict sheet lent bytes ≡ Refused number place

-- which numbers a refusal of a file can have
pub record FileRefusals : Type 0 where
  pub only : (T : LentSheet) (L : Lent) (bytes : List ℕ) (number place : ℕ)
      → file_verdict T L bytes ≡ Refused number place → one_of file_numbers number ≡ true
  pub each : (number : ℕ) → one_of file_numbers number ≡ true → RefusedWith number

-- the sheet that a file's lines leave, and its listing with the areas, labels and basins of the definition
abbrev pub file_sheet : LentSheet → List ℕ → Sizes → Sheet
file_sheet T bytes z = sheet_of z (read_file T bytes).lent

abbrev pub sheet_listing : Sheet → List ℕ
sheet_listing S = listing_text S.grid (basin_areas S) (basin_labels S) (basins_of S.grid)

-- its listing before basins; and as document 01 has it, with a label as one decimal number
abbrev pub sheet_listing_before : Sheet → List ℕ
sheet_listing_before S = listing_before S.grid (areas_of S) (label_texts (labels_of S))

abbrev pub number_listing : Sheet → List ℕ
number_listing S = listing_of_numbers S.grid (areas_of S) (number_labels S)

-- what the program lends: 2,048 direction bytes (and 256 weights, on which the length of a report does not depend), and
-- a buffer for a heading and 60 bytes a cell, which is enough for basins of up to 5 digits, areas of up to 8 and labels
-- of up to 36
abbrev pub program_cells : ℕ
program_cells = 2048

abbrev pub program_bytes : ℕ
program_bytes = 122905

pub record DemandOne : Type 0 where
  -- a file is labelled or refused, by document 01's conditions and in its order
  pub ending : (T : LentSheet) (L : Lent) (bytes : List ℕ) → Ending T L bytes (file_verdict T L bytes)
  pub numbers : FileRefusals
  -- the report of a refused file is the two lines with its number and place
  pub refused : (T : LentSheet) (L : Lent) (bytes : List ℕ) (number place : ℕ)
      → file_verdict T L bytes ≡ Refused number place → report T L bytes ≡ refusal_text number place
  -- the report of a labelled one is its full listing
  pub listed : (T : LentSheet) (L : Lent) (bytes : List ℕ) (z : Sizes)
      → file_verdict T L bytes ≡ Ok z → report T L bytes ≡ sheet_listing (file_sheet T bytes z)
  -- a sheet of one basin lists the same bytes as before, with its first column in front
  pub one_basin : (T : LentSheet) (L : Lent) (bytes : List ℕ) (z : Sizes) → file_verdict T L bytes ≡ Ok z
      → let S = file_sheet T bytes z in basin_count S.grid ≡ 1 → report T L bytes ≡ with_basin1 (sheet_listing_before S)
  -- and those of document 01 where "a sheet of depth 18 or less lists the same bytes"
  pub as_before : (T : LentSheet) (L : Lent) (bytes : List ℕ) (z : Sizes) → file_verdict T L bytes ≡ Ok z
      → let S = file_sheet T bytes z in basin_count S.grid ≡ 1
      → z.depth ≤ 18 → report T L bytes ≡ with_basin1 (number_listing S)
  -- no text is both
  pub apart : (G : Grid) (areas labels basins : List ℕ) (number place : ℕ)
      → listing_text G areas labels basins ≡ refusal_text number place → ⊥
  -- the calls that read a file in chunks and write its report give that report, however the file is cut
  pub in_pieces : (pieces : List (List ℕ)) (line buffer : List ℕ) (T : LentSheet) (L : Lent)
      → length line ≡ line_bytes → length (joined pieces) < largest_count
      → report_into (read_pieces line T pieces).read (read_pieces line T pieces).lent L buffer
      ≡ reported_as (report T L (joined pieces)) buffer (file_lent T L (joined pieces))
  -- the program's buffer is long enough for every file
  pub fits : (T : LentSheet) (L : Lent) (bytes buffer : List ℕ)
      → length bytes < largest_count → length T.dirs ≡ program_cells → length buffer ≡ program_bytes
      → text_into (report T L bytes) buffer ≡ accepted (report T L bytes) buffer
