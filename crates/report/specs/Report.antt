-- The report of a file: a verdict on it, and the text that tells it. It is what the program pfafstetter prints.
use Rattle.std.specs.Prelude.{List, ℕ, Err, Ok, None, Option, Some}
use Rattle.sheet.specs.Sheet.{grid}
use Rattle.sheet.specs.Refusal.{Lent, outcome}
use Rattle.faults.specs.declared.Sizes.{Sizes}
use Rattle.intake.specs.Intake.{LentSheet, ended_sizes}
use Rattle.labelling.specs.FromIntake.{sheet_of, intake_lent}
use Rattle.listing.specs.Listing.{listing_text, refusal_text}
use Rattle.listing.specs.Writing.{Listed, text_into, listing_into, refusal_into}
use Rattle.reading.specs.Lines.{FileRead, read_file}
use Rattle.sheet.specs.Answer.{Outcome, Counted, Accepted, Refused}
use Rattle.reading.specs.Answer.{Read}
use Rattle.report.specs.Answer.{Verdict}

-- ---- the verdict

-- document 01's number and place of a verdict, both 0 where it is no refusal, and the sizes of the labelled sheet, else
-- 0
pub record VerdictValues : Type 0 where
  pub number : ℕ
  pub place : ℕ
  pub rows : ℕ
  pub cols : ℕ
  pub depth : ℕ
  pub least : ℕ
  pub split : ℕ

abbrev pub verdict_values : Verdict → VerdictValues
verdict_values (Err refusal) = record {
  number = refusal.number;
  place = refusal.place;
  rows = 0;
  cols = 0;
  depth = 0;
  least = 0;
  split = 0;
}
verdict_values (Ok z) = record {
  number = 0;
  place = 0;
  rows = z.rows;
  cols = z.cols;
  depth = z.depth;
  least = z.least;
  split = z.split;
}

-- labelled, or refused with "the place that labelling gave"
unfoldable pub sheet_verdict : Sizes → Outcome → Verdict
sheet_verdict z Accepted = Ok z
sheet_verdict z (Err refusal) = Err refusal

-- 15 without sizes, which an intake has once it has ended; else by labelling a sheet of these sizes, with the
-- direction bytes and weights that were lent to the intake
unfoldable pub sizes_verdict : Option Sizes → LentSheet → Lent → Verdict
unfolding outcome sheet_verdict
sizes_verdict None T L = Refused 15 0
sizes_verdict (Some z) T L = sheet_verdict z (outcome (sheet_of z T) L)

-- the verdict on a file that was read, where this is lent to labelling
unfoldable pub verdict_of : Read → LentSheet → Lent → Verdict
unfolding sizes_verdict ended_sizes
verdict_of (Err refusal) T L = Err refusal
verdict_of (Ok i) T L = sizes_verdict (ended_sizes i.stage) T L

-- what is lent to labelling, afterwards: with the areas, labels and basins of a labelled sheet
unfoldable pub read_lent : Read → LentSheet → Lent → Lent
read_lent (Err refusal) T L = L
read_lent (Ok i) T L = intake_lent i T L

-- ---- its text

-- the listing of a labelled sheet, or the two lines after a refusal
unfoldable pub report_text : Verdict → List ℕ → Lent → List ℕ
report_text (Err refusal) dirs L = refusal_text refusal.number refusal.place
report_text (Ok z) dirs L = listing_text (grid z.rows z.cols dirs) L.areas L.labels L.basins

-- the text of any verdict in a lent buffer
unfoldable pub verdict_into : Verdict → List ℕ → List ℕ → List ℕ → List ℕ → List ℕ → Listed
verdict_into (Err refusal) dirs areas labels basins buffer = refusal_into refusal.number refusal.place buffer
verdict_into (Ok z) dirs areas labels basins buffer =
    listing_into (grid z.rows z.cols dirs) areas labels basins buffer

-- ---- a file

-- the verdict on a file with these bytes, what is lent afterwards, and its report
unfoldable pub file_verdict : LentSheet → Lent → List ℕ → Verdict
file_verdict T L bytes = let f : FileRead = read_file T bytes in verdict_of f.read f.lent L

unfoldable pub file_lent : LentSheet → Lent → List ℕ → Lent
file_lent T L bytes = let f : FileRead = read_file T bytes in read_lent f.read f.lent L

unfoldable pub report : LentSheet → Lent → List ℕ → List ℕ
unfolding file_verdict file_lent
report T L bytes = report_text (file_verdict T L bytes) (read_file T bytes).lent.dirs (file_lent T L bytes)

-- ---- the call that writes a report

-- its answer, the buffer, and what was lent to labelling; a buffer that is too short is refused by 3
pub record Reported : Type 0 where
  pub answer : Counted
  pub buffer : List ℕ
  pub lent : Lent

abbrev pub reported_as : List ℕ → List ℕ → Lent → Reported
reported_as text buffer L =
    record { answer = (text_into text buffer).answer; buffer = (text_into text buffer).buffer; lent = L }

unfoldable pub report_into : Read → LentSheet → Lent → List ℕ → Reported
report_into read T L buffer =
    let after : Lent = read_lent read T L in
    reported_as (report_text (verdict_of read T L) T.dirs after) buffer after
