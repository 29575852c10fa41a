-- The text of a verdict in a buffer, and what a file's report is.
use mathlib.Core.Path.{◌≡◌, refl, sym, ap, ◌∙◌}
use mathlib.Core.List.{List}
use Prim.Native.Nat.{ℕ, suc, ◌*◌, ◌≤◌}
use native.Mathlib.Omega.{arith}
use borrow.Author.Tests.{leb-true}
use lib.Dec.{leb}
use lib.ListN.{length, drop, length-append}
use Rattle.sheet.specs.Sheet.{Sheet, cells}
use Rattle.sheet.specs.Record.{label_places, label_at}
use Rattle.sheet.specs.Basins.{basin_of, basin_area, basin_label, basin_areas, basin_labels, basins_of}
use Rattle.sheet.specs.Refusal.{Lent, slices_fit, outcome, if_accepted, lent_after}
use Rattle.sheet.proofs.Within.{both_true}
use Rattle.faults.specs.declared.Sizes.{Sizes}
use Rattle.intake.specs.Intake.{LentSheet, ended_sizes}
use Rattle.claims.specs.Demand.{Inside}
use Rattle.claims.proofs.Sheets.{accepted_passed}
use Rattle.sheet.proofs.Cells.{inside_lt}
use Rattle.sheet.proofs.Lists.{length_list}
use Rattle.sheet.proofs.Slices.{numbers_enough, label_kept, numbers_listed_length}
use Rattle.labelling.specs.FromIntake.{sheet_of, lent_with, intake_lent}
use Rattle.listing.specs.Listing.{listing_text}
use Rattle.listing.specs.Writing.{listing_values, Listed, text_into, listing_into, refusal_into}
use Rattle.listing.proofs.Answers.{listing_into_lem}
use Rattle.listing.proofs.Lengths.{listing_written}
use Rattle.report.specs.Report.{sheet_verdict, sizes_verdict, verdict_of, read_lent, report_text, verdict_into}
use Rattle.report.specs.Report.{Reported, report_into}
use Rattle.report.specs.Demand.{sheet_listing}
use Rattle.sheet.specs.Answer.{Outcome, Counted, Accepted, Refused}
use Rattle.reading.specs.Answer.{Read}
use Rattle.report.specs.Answer.{Verdict}
use Rattle.std.specs.Prelude.{Err, Ok, None, Option, Some}

-- ---- an accepted sheet can be listed

module _ (S : Sheet) (L : Lent) (accepted : outcome S L ≡ Accepted) where
  pub dirs_long : cells S.grid ≤ length S.grid.dirs
  unfolding slices_fit
  dirs_long =
      leb-true _ _
      (both_true (leb (cells S.grid) (length S.grid.dirs)) _ (accepted_passed S L accepted).slices).0

  written_long : (new old : List ℕ) → length new ≤ length (if_accepted (outcome S L) new old)
  written_long new old = rw accepted (simp length-append (omega arith))

  -- an area, two numbers of a label and a basin for each cell
  pub areas_length : length (basin_areas S) ≡ cells S.grid
  unfolding basin_areas
  areas_length = length_list (basin_area S) 0 (cells S.grid)

  pub labels_length : length (basin_labels S) ≡ 2 * cells S.grid
  unfolding basin_labels
  labels_length = numbers_listed_length (basin_label S) 0 (cells S.grid)

  pub basins_length : length (basins_of S.grid) ≡ cells S.grid
  unfolding basins_of
  basins_length = length_list (basin_of S.grid) 0 (cells S.grid)

  pub areas_long : cells S.grid ≤ length (lent_after S L).areas
  unfolding lent_after
  areas_long = omega (arith, written_long (basin_areas S) L.areas, areas_length)

  pub labels_long : cells S.grid ≤ label_places (length (lent_after S L).labels)
  unfolding lent_after
  labels_long =
      numbers_enough (cells S.grid) (length (lent_after S L).labels)
      (omega (arith, written_long (basin_labels S) L.labels, labels_length))

  pub basins_long : cells S.grid ≤ length (lent_after S L).basins
  unfolding lent_after
  basins_long = omega (arith, written_long (basins_of S.grid) L.basins, basins_length)

  -- the label that the listing of the sheet has is the one that was written
  pub label_listed : (c : ℕ) → Inside S c → label_at (basin_labels S) c ≡ label_at (lent_after S L).labels c
  unfolding lent_after
  label_listed c i =
      rw accepted
      (sym (label_kept (basin_labels S) (drop (length (basin_labels S)) L.labels) c
      (numbers_enough (suc c) (length (basin_labels S)) (omega (arith, labels_length, inside_lt S.grid c i)))))

  -- its listing is in the buffer, if it fits
  sheet_into : (buffer : List ℕ)
      → let after = lent_after S L in listing_into S.grid after.areas after.labels after.basins buffer
      ≡ text_into (listing_text S.grid after.areas after.labels after.basins) buffer
  sheet_into buffer =
      listing_into_lem S.grid.rows S.grid.cols S.grid.dirs (lent_after S L).areas (lent_after S L).labels
      (lent_after S L).basins buffer (accepted_passed S L accepted).sizes dirs_long areas_long labels_long basins_long

  -- it has the areas, labels and basins of the definition
  sheet_text : listing_text S.grid (lent_after S L).areas (lent_after S L).labels (lent_after S L).basins
      ≡ sheet_listing S
  unfolding lent_after
  sheet_text =
      rw accepted
      (listing_written S.grid (basin_areas S) L.areas (basin_labels S) L.labels (basins_of S.grid)
      L.basins areas_length labels_length basins_length)

-- ---- the verdict and its text

-- the verdict by what labelling answered
module _ (z : Sizes) (T : LentSheet) (L : Lent) {o : Outcome} (answered : o ≡ outcome (sheet_of z T) L) where
  by_answer : sheet_verdict z o ≡ sizes_verdict (Some z) T L
  unfolding sizes_verdict
  by_answer = ap (sheet_verdict z) answered

  pub labelled_sheet : o ≡ Accepted → Ok z ≡ sizes_verdict (Some z) T L
  unfolding sheet_verdict
  labelled_sheet e = sym (ap (sheet_verdict z) e) ∙ by_answer

  pub refused_sheet : {number place : ℕ} → o ≡ Refused number place
      → Refused number place ≡ sizes_verdict (Some z) T L
  unfolding sheet_verdict
  refused_sheet e = sym (ap (sheet_verdict z) e) ∙ by_answer

-- the text of a verdict that was given on a sheet, in a buffer
abbrev Told : Verdict → List ℕ → Lent → List ℕ → Type 0
Told v dirs L buffer =
    verdict_into v dirs L.areas L.labels L.basins buffer ≡ text_into (report_text v dirs L) buffer

sizes_told : (o : Option Sizes) (T : LentSheet) (L : Lent) (buffer : List ℕ)
    → Told (sizes_verdict o T L) T.dirs (lent_with o T L) buffer
unfolding sizes_verdict sheet_verdict lent_with verdict_into report_text refusal_into
sizes_told None T L buffer = refl
sizes_told (Some z) T L buffer = go (outcome S L) refl
  where
    S : Sheet
    S = sheet_of z T

    go : (o : Outcome) → outcome S L ≡ o → Told (sheet_verdict z o) T.dirs (lent_after S L) buffer
    go Accepted e = sheet_into S L e buffer
    go (Err refusal) e = refl

read_told : (read : Read) (T : LentSheet) (L : Lent) (buffer : List ℕ)
    → Told (verdict_of read T L) T.dirs (read_lent read T L) buffer
unfolding verdict_of read_lent intake_lent verdict_into report_text refusal_into
read_told (Err refusal) T L buffer = refl
read_told (Ok i) T L buffer = sizes_told (ended_sizes i.stage) T L buffer

module _ (read : Read) (T : LentSheet) (buffer : List ℕ) (L : Lent) where
  -- what was written from a verdict and what is lent afterwards is the report
  reported : {v : Verdict} {lent : Lent} {w : Listed} → v ≡ verdict_of read T L → lent ≡ read_lent read T L
      → w ≡ verdict_into v T.dirs lent.areas lent.labels lent.basins buffer
      → ◌≡◌ {A = Reported} (record { answer = w.answer; buffer = w.buffer; lent = lent })
      (report_into read T L buffer)
  unfolding report_into
  reported {v} {lent} {w} ve le we =
      let e : w ≡ text_into (report_text (verdict_of read T L) T.dirs (read_lent read T L)) buffer =
      we
      ∙ ap (λ (x : Verdict). verdict_into x T.dirs lent.areas lent.labels lent.basins buffer) ve
      ∙ ap (λ (x : Lent). verdict_into (verdict_of read T L) T.dirs x.areas x.labels x.basins buffer) le
      ∙ read_told read T L buffer in
      λ k. record { answer = (e k).answer; buffer = (e k).buffer; lent = le k }

  pub promises : {v : Verdict} {lent : Lent} {answer : Counted} {after : List ℕ} → v ≡ verdict_of read T L
      → lent ≡ read_lent read T L
      → record { answer = answer; buffer = after }
      ≡ verdict_into v T.dirs lent.areas lent.labels lent.basins buffer
      → (◌≡◌ {A = Reported} (record { answer = answer; buffer = after; lent = lent }) (report_into read T L buffer))
      × (listing_values answer ≡ listing_values (report_into read T L buffer).answer)
  promises ve le we =
      let e = reported ve le we in
      (e, ap (λ (r : Reported). listing_values r.answer) e)

-- ---- the listing of a labelled file

sizes_listed : (o : Option Sizes) (T : LentSheet) (L : Lent) (z : Sizes) → sizes_verdict o T L ≡ Ok z
    → report_text (Ok z) T.dirs (lent_with o T L) ≡ sheet_listing (sheet_of z T)
unfolding sizes_verdict sheet_verdict lent_with report_text
sizes_listed None T L z e = let y : ◌≡◌ {A = ℕ} 0 1 = cc in absurd (omega arith)
sizes_listed (Some x) T L z e = go (outcome S L) refl e
  where
    S : Sheet
    S = sheet_of x T

    go : (o : Outcome) → outcome S L ≡ o → sheet_verdict x o ≡ Ok z
        → listing_text (sheet_of z T).grid (lent_after S L).areas (lent_after S L).labels (lent_after S L).basins
        ≡ sheet_listing (sheet_of z T)
    go Accepted a e = let same : x ≡ z = cc in rw (← same) (sheet_text S L a)
    go (Err refusal) a e = let y : ◌≡◌ {A = ℕ} 0 1 = cc in absurd (omega arith)

pub read_listed : (read : Read) (T : LentSheet) (L : Lent) (z : Sizes) → verdict_of read T L ≡ Ok z
    → report_text (Ok z) T.dirs (read_lent read T L) ≡ sheet_listing (sheet_of z T)
unfolding verdict_of read_lent intake_lent
read_listed (Err refusal) T L z e = let y : ◌≡◌ {A = ℕ} 0 1 = cc in absurd (omega arith)
read_listed (Ok i) T L z e = sizes_listed (ended_sizes i.stage) T L z e
