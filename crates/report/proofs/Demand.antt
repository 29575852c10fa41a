-- The first demand about files, proved.
use mathlib.Core.Path.{◌≡◌, refl, ap}
use mathlib.Core.Bool.{true}
use mathlib.Core.List.{List, []}
use Prim.Native.Nat.{ℕ}
use lib.ListN.{replicate}
use Rattle.decimal.specs.Ascii.{ascii}
use Rattle.sheet.specs.Refusal.{Lent}
use Rattle.intake.specs.Intake.{LentSheet, lent_sheet, line_after, end_taken}
use Rattle.reading.specs.Lines.{FileRead, lines_of, end_after, read_from, read_file}
use Rattle.reading.proofs.Whole.{read_in_pieces}
use Rattle.report.specs.Report.{verdict_of, file_verdict, file_lent, report, report_into}
use Rattle.report.specs.Conditions.{one_of, line_numbers, end_numbers, sheet_numbers, file_numbers, Ending}
use Rattle.report.specs.Conditions.{line_refused, end_refused, sheet_refused, labelled}
use Rattle.report.specs.Demand.{RefusedWith, FileRefusals, DemandOne}
use Rattle.report.proofs.Numbers.{AllOf, one_of_lem}
use Rattle.report.proofs.Endings.{file_ending, listing_no_refusal}
use Rattle.report.proofs.Files.{file_refused, file_listed}
use Rattle.report.proofs.Lengths.{program_report}
use Rattle.report.proofs.AsBefore.{file_one_basin, file_as_before}
use Rattle.report.specs.Answer.{Verdict}
use Rattle.sheet.specs.Answer.{Refused}
use Rattle.std.specs.Prelude.{Err, Ok}

-- ---- which numbers a refusal can have

abbrev InFile : ℕ → Type 0
InFile number = one_of file_numbers number ≡ true

abbrev Numbered : Verdict → Type 0
Numbered (Err refusal) = InFile refusal.number
Numbered (Ok z) = Unit

ending_numbered : {T : LentSheet} {L : Lent} {bytes : List ℕ} {v : Verdict} → Ending T L bytes v → Numbered v
ending_numbered (line_refused {number} {place} r) =
    one_of_lem InFile line_numbers (refl, (refl, (refl, (refl, (refl, (refl, (refl, (refl, (refl, tt))))))))) number
    r.number_is
ending_numbered (end_refused {number} {place} r) = one_of_lem InFile end_numbers (refl, tt) number r.number_is
ending_numbered (sheet_refused {number} {place} r) =
    one_of_lem InFile sheet_numbers (refl, (refl, (refl, (refl, tt)))) number r.number_is
ending_numbered (labelled {z} r) = tt

-- a file for each number, where a row of two cells is lent
abbrev sheet2 : LentSheet
sheet2 = lent_sheet (replicate 2 0) (replicate 1 0)

abbrev lent2 : Lent
lent2 = record { areas = replicate 2 0; labels = replicate 4 0; basins = replicate 2 0; work = replicate 16 0 }

abbrev refused_with : (number place : ℕ) (bytes : List ℕ) → file_verdict sheet2 lent2 bytes ≡ Refused number place
    → RefusedWith number
refused_with number place bytes e = record { sheet = sheet2; lent = lent2; bytes = bytes; place = place; verdict = e }

refused_each : AllOf RefusedWith file_numbers
unfolding file_verdict read_file lines_of read_from line_after end_after end_taken verdict_of
refused_each = (
  refused_with 1 2 (ascii "rows,cols,depth\n0,1,1\n") refl,
  (
    refused_with 2 2 (ascii "rows,cols,depth\n1,1,0\n") refl,
    (
      refused_with 3 2 (ascii "rows,cols,depth\n1,3,1\n") refl,
      (
        refused_with 4 4 (ascii "rows,cols,depth\n1,1,1\nrow,col,dir\n0,0,3\n") refl,
        (
          refused_with 5 0 (ascii "rows,cols,depth\n1,1,1\nrow,col,dir\n") refl,
          (
            refused_with 6 0 (ascii "rows,cols,depth\n1,2,1\nrow,col,dir\n0,0,1\n0,1,16\n") refl,
            (
              refused_with 8 1 (ascii "\n") refl,
              (
                refused_with 9 4 (ascii "rows,cols,depth\n1,1,1\nrow,col,dir\n1,0,1\n") refl,
                (
                  refused_with 10 5 (ascii "rows,cols,depth\n1,1,1\nrow,col,dir\n0,0,1\n0,0,1\n") refl,
                  (
                    refused_with 14 1 [] refl,
                    (
                      refused_with 17 4 (ascii "rows,cols,depth\n1,1,1\nweight\n0\n") refl,
                      (refused_with 19 2 (ascii "split,rows,cols,least,depth\n5,1,1,1,1\n") refl, tt),
                    ),
                  ),
                ),
              ),
            ),
          ),
        ),
      ),
    ),
  ),
)

pub file_refusals : FileRefusals
file_refusals = record {
  only = λ T L bytes number place e. rw e at (ending_numbered (file_ending T L bytes));
  each = λ number e. one_of_lem RefusedWith file_numbers refused_each number e;
}

-- ---- the demand

pub demand_one : DemandOne
unfolding report_into report file_verdict file_lent
demand_one = record {
  ending = file_ending;
  numbers = file_refusals;
  refused = file_refused;
  listed = file_listed;
  one_basin = file_one_basin;
  as_before = file_as_before;
  apart = listing_no_refusal;
  in_pieces = λ pieces line buffer T L room few.
      ap (λ (f : FileRead). report_into f.read f.lent L buffer)
      (read_in_pieces.as_lines pieces line T room few);
  fits = program_report;
}
