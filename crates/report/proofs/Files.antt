-- A file's report, by the verdict on it.
use mathlib.Core.Path.{◌≡◌, refl, ap, ◌∙◌}
use mathlib.Core.List.{List}
use Prim.Native.Nat.{ℕ}
use native.Mathlib.Omega.{arith}
use Rattle.sheet.specs.Refusal.{Lent, outcome, lent_after}
use Rattle.faults.specs.declared.Sizes.{Sizes}
use Rattle.intake.specs.Intake.{LentSheet, ended_sizes}
use Rattle.labelling.specs.FromIntake.{sheet_of, lent_with, intake_lent}
use Rattle.listing.specs.Listing.{refusal_text}
use Rattle.reading.specs.Lines.{read_file}
use Rattle.report.specs.Report.{sheet_verdict, sizes_verdict, verdict_of, read_lent, report_text, file_verdict}
use Rattle.report.specs.Report.{file_lent, report}
use Rattle.report.specs.Demand.{file_sheet, sheet_listing}
use Rattle.report.proofs.ReportLaws.{read_listed}
use Rattle.sheet.specs.Answer.{Outcome, Accepted, Refused}
use Rattle.reading.specs.Answer.{Read}
use Rattle.report.specs.Answer.{Verdict}
use Rattle.std.specs.Prelude.{Err, Ok, None, Option, Some}

-- a labelled sheet was accepted
sizes_accepted : (o : Option Sizes) (T : LentSheet) (L : Lent) (z : Sizes) → sizes_verdict o T L ≡ Ok z
    → outcome (sheet_of z T) L ≡ Accepted
unfolding sizes_verdict sheet_verdict
sizes_accepted None T L z e = let y : ◌≡◌ {A = ℕ} 0 1 = cc in absurd (omega arith)
sizes_accepted (Some x) T L z e = go (outcome (sheet_of x T) L) refl e
  where
    go : (o : Outcome) → outcome (sheet_of x T) L ≡ o → sheet_verdict x o ≡ Ok z
        → outcome (sheet_of z T) L ≡ Accepted
    go Accepted a e = let same : x ≡ z = cc in rw (← same) a
    go (Err refusal) a e = let y : ◌≡◌ {A = ℕ} 0 1 = cc in absurd (omega arith)

read_accepted : (read : Read) (T : LentSheet) (L : Lent) (z : Sizes) → verdict_of read T L ≡ Ok z
    → outcome (sheet_of z T) L ≡ Accepted
unfolding verdict_of
read_accepted (Err refusal) T L z e = let y : ◌≡◌ {A = ℕ} 0 1 = cc in absurd (omega arith)
read_accepted (Ok i) T L z e = sizes_accepted (ended_sizes i.stage) T L z e

-- what is lent afterwards is what labelling that sheet leaves
sizes_lent : (o : Option Sizes) (T : LentSheet) (L : Lent) (z : Sizes) → sizes_verdict o T L ≡ Ok z
    → lent_with o T L ≡ lent_after (sheet_of z T) L
unfolding sizes_verdict sheet_verdict lent_with
sizes_lent None T L z e = let y : ◌≡◌ {A = ℕ} 0 1 = cc in absurd (omega arith)
sizes_lent (Some x) T L z e = go (outcome (sheet_of x T) L) e
  where
    go : (o : Outcome) → sheet_verdict x o ≡ Ok z → lent_after (sheet_of x T) L ≡ lent_after (sheet_of z T) L
    go Accepted e = let same : x ≡ z = cc in ap (λ (y : Sizes). lent_after (sheet_of y T) L) same
    go (Err refusal) e = let y : ◌≡◌ {A = ℕ} 0 1 = cc in absurd (omega arith)

read_lent_lem : (read : Read) (T : LentSheet) (L : Lent) (z : Sizes) → verdict_of read T L ≡ Ok z
    → read_lent read T L ≡ lent_after (sheet_of z T) L
unfolding verdict_of read_lent intake_lent
read_lent_lem (Err refusal) T L z e = let y : ◌≡◌ {A = ℕ} 0 1 = cc in absurd (omega arith)
read_lent_lem (Ok i) T L z e = sizes_lent (ended_sizes i.stage) T L z e

module _ (T : LentSheet) (L : Lent) (bytes : List ℕ) where
  report_is : {v : Verdict} → file_verdict T L bytes ≡ v
      → report T L bytes ≡ report_text v (read_file T bytes).lent.dirs (file_lent T L bytes)
  unfolding report
  report_is e = ap (λ (v : Verdict). report_text v (read_file T bytes).lent.dirs (file_lent T L bytes)) e

  pub file_refused : (number place : ℕ) → file_verdict T L bytes ≡ Refused number place
      → report T L bytes ≡ refusal_text number place
  unfolding report_text
  file_refused number place e = report_is e

  pub file_listed : (z : Sizes) → file_verdict T L bytes ≡ Ok z
      → report T L bytes ≡ sheet_listing (file_sheet T bytes z)
  unfolding file_verdict file_lent
  file_listed z e = report_is e ∙ read_listed (read_file T bytes).read (read_file T bytes).lent L z e

  pub file_accepted : (z : Sizes) → file_verdict T L bytes ≡ Ok z
      → outcome (file_sheet T bytes z) L ≡ Accepted
  unfolding file_verdict
  file_accepted z e = read_accepted (read_file T bytes).read (read_file T bytes).lent L z e

  pub file_lent_lem : (z : Sizes) → file_verdict T L bytes ≡ Ok z
      → file_lent T L bytes ≡ lent_after (file_sheet T bytes z) L
  unfolding file_verdict file_lent
  file_lent_lem z e = read_lent_lem (read_file T bytes).read (read_file T bytes).lent L z e
