-- Reports tried by computation.
use mathlib.Core.Path.{◌≡◌, refl}
use mathlib.Core.List.{[]}
use lib.ListN.{replicate}
use Rattle.decimal.specs.Ascii.{ascii}
use Rattle.sheet.specs.Refusal.{Lent}
use Rattle.intake.specs.Intake.{LentSheet, lent_sheet, line_after, end_taken}
use Rattle.labelling.specs.FromIntake.{intake_lent}
use Rattle.listing.specs.Listing.{listing_text, refusal_text}
use Rattle.reading.specs.Lines.{lines_of, end_after, read_from, read_file}
use Rattle.reading.proofs.Cases.{sample_a}
use Rattle.report.specs.Report.{verdict_of, read_lent, report_text, report}

-- what is lent for 3 rows of 4 cells
abbrev pub sheet12 : LentSheet
sheet12 = lent_sheet (replicate 12 0) (replicate 3 0)

abbrev pub lent12 : Lent
lent12 = record { areas = replicate 12 0; labels = replicate 24 0; basins = replicate 12 0; work = replicate 96 0 }

-- what document 01 prints for sample A, with its basin
pub sample_report : report sheet12 lent12 sample_a
    ≡ ascii "basin,row,col,area,label\n1,0,1,2,8\n1,0,2,1,8\n1,0,3,1,92\n1,1,0,11,1\n1,1,1,9,3\n1,1,2,4,91\n1,1,3,2,93\n1,2,0,1,2\n1,2,1,1,4\n1,2,2,1,6\n1,2,3,1,93\n"
unfolding report read_file lines_of read_from line_after end_after end_taken verdict_of read_lent intake_lent report_text listing_text
sample_report = refl

pub empty_report : report (lent_sheet [] []) lent12 [] ≡ ascii "refused,place\n14,1\n"
unfolding report read_file lines_of read_from line_after end_after end_taken verdict_of read_lent report_text refusal_text
empty_report = refl

-- two basins of area 1, label 0
pub two_basins_lem : report sheet12 lent12 (
    ascii "rows,cols,depth\n1,2,1\nrow,col,dir\n0,0,16\n0,1,1\n")
    ≡ ascii "basin,row,col,area,label\n1,0,0,1,0\n2,0,1,1,0\n"
unfolding report read_file lines_of read_from line_after end_after end_taken verdict_of read_lent intake_lent report_text listing_text
two_basins_lem = refl

-- Three cells in a column, the outer two of which flow into the middle one. Without weights the last is the heavier of
-- the two; with them the first is.
pub three_cells : report sheet12 lent12 (ascii "rows,cols,depth\n3,1,1\nrow,col,dir\n0,0,4\n1,0,16\n2,0,64\n")
    ≡ ascii "basin,row,col,area,label\n1,0,0,1,2\n1,1,0,3,1\n1,2,0,1,3\n"
unfolding report read_file lines_of read_from line_after end_after end_taken verdict_of read_lent intake_lent report_text listing_text
three_cells = refl

pub three_weighted : report sheet12 lent12 (
    ascii "rows,cols,depth\n3,1,1\nweight\n1000\n1\n7\nrow,col,dir\n0,0,4\n1,0,16\n2,0,64\n")
    ≡ ascii "basin,row,col,area,label\n1,0,0,1000,3\n1,1,0,1008,1\n1,2,0,7,2\n"
unfolding report read_file lines_of read_from line_after end_after end_taken verdict_of read_lent intake_lent report_text listing_text
three_weighted = refl

-- a weight that is too large: the place is its line
pub weight_refused : report sheet12 lent12 (ascii "rows,cols,depth\n3,1,1\nweight\n1000\n1001\n")
    ≡ ascii "refused,place\n17,5\n"
unfolding report read_file lines_of read_from line_after end_after end_taken verdict_of read_lent report_text refusal_text
weight_refused = refl

-- the same three cells with least and split: the mouth of area 1 is not counted at least 2, so all is one unit
pub three_cells_least : report sheet12 lent12 (
    ascii "least,rows,cols,depth,split\n2,3,1,1,4\nrow,col,dir\n0,0,4\n1,0,16\n2,0,64\n")
    ≡ ascii "basin,row,col,area,label\n1,0,0,1,0\n1,1,0,3,0\n1,2,0,1,0\n"
unfolding report read_file lines_of read_from line_after end_after end_taken verdict_of read_lent intake_lent report_text listing_text
three_cells_least = refl

pub least_refused : report sheet12 lent12 (ascii "least,rows,cols,depth,split\n65536001,3,1,1,4\n")
    ≡ ascii "refused,place\n19,2\n"
unfolding report read_file lines_of read_from line_after end_after end_taken verdict_of read_lent report_text refusal_text
least_refused = refl

-- a depth of 36 is the largest
pub depth_36 : report sheet12 lent12 (ascii "rows,cols,depth\n1,2,36\nrow,col,dir\n0,0,16\n0,1,16\n")
    ≡ ascii "basin,row,col,area,label\n1,0,0,2,0\n1,0,1,1,0\n"
unfolding report read_file lines_of read_from line_after end_after end_taken verdict_of read_lent intake_lent report_text listing_text
depth_36 = refl

pub depth_37 : report sheet12 lent12 (ascii "rows,cols,depth\n1,2,37\n") ≡ ascii "refused,place\n2,2\n"
unfolding report read_file lines_of read_from line_after end_after end_taken verdict_of read_lent report_text refusal_text
depth_37 = refl

-- 3 where three numbers are lent for the labels of two cells
pub labels_short : report sheet12
    (record { areas = replicate 12 0; labels = replicate 3 0; basins = replicate 12 0; work = replicate 96 0 })
    (ascii "rows,cols,depth\n1,2,36\nrow,col,dir\n0,0,16\n0,1,16\n")
    ≡ ascii "refused,place\n3,0\n"
unfolding report read_file lines_of read_from line_after end_after end_taken verdict_of read_lent intake_lent report_text listing_text refusal_text
labels_short = refl

-- and where one place is lent for the basins of two
pub basins_short : report sheet12
    (record { areas = replicate 12 0; labels = replicate 24 0; basins = replicate 1 0; work = replicate 96 0 })
    (ascii "rows,cols,depth\n1,2,36\nrow,col,dir\n0,0,16\n0,1,16\n")
    ≡ ascii "refused,place\n3,0\n"
unfolding report read_file lines_of read_from line_after end_after end_taken verdict_of read_lent intake_lent report_text listing_text refusal_text
basins_short = refl
