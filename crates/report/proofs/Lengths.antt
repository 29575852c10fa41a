-- The most bytes that a report can have.
use mathlib.Core.Path.{◌≡◌, refl, ap, ◌∙◌}
use mathlib.Core.Bool.{Bool, true, false}
use mathlib.Core.List.{List, [], ◌∷◌}
use Prim.Native.Nat.{ℕ, suc, ◌+◌, ◌*◌, ◌^◌, ◌<◌, ◌≤◌}
use native.Mathlib.Nat.{mul-le-mul_right, zero-add}
use native.Mathlib.Omega.{arith}
use lib.Dec.{eqb}
use lib.ListN.{length, get_or, length-append}
use Rattle.sheet.specs.Sheet.{Sheet, cells, inside, is_outlet}
use Rattle.sheet.specs.Area.{area}
use Rattle.sheet.specs.Record.{digits_of, label_at}
use Rattle.sheet.specs.Basins.{basin_of, basin_area, basin_areas, basin_labels, basins_of}
use Rattle.sheet.specs.Refusal.{Lent, outcome}
use Rattle.sheet.proofs.Cells.{inside_lt, cells_most}
use Rattle.faults.specs.declared.Sizes.{Sizes}
use Rattle.intake.specs.declared.Intake.{Intake}
use Rattle.intake.specs.Intake.{LentSheet}
use Rattle.intake.proofs.Laws.{line_long}
use Rattle.claims.proofs.Theorems.{area_bounds}
use Rattle.claims.proofs.Sheets.{accepted_passed}
use Rattle.claims.proofs.Counts.{count_le}
use Rattle.claims.proofs.BasinNumbers.{basin_most}
use Rattle.claims.proofs.Alone.{area_alone}
use Rattle.sheet.proofs.Lists.{list_at}
use Rattle.claims.specs.Demand.{Inside}
use Rattle.claims.proofs.Written.{grid_checks, at_most_depth, digits_written}
use Rattle.lines.specs.Fields.{longer}
use Rattle.listing.specs.Writing.{text_into, accepted}
use Rattle.sheet.proofs.Within.{rows_cols_most, depth_most}
use Rattle.listing.proofs.Answers.{text_into_lem}
use Rattle.listing.proofs.Lengths.{refusal_most, listing_most_36_digits}
use Rattle.reading.specs.Lines.{lines_of}
use Rattle.reading.specs.Feed.{largest_count}
use Rattle.report.specs.Report.{file_verdict, report}
use Rattle.intake.specs.Takes.{Takes, takes_none, takes_line}
use Rattle.report.specs.Conditions.{one_of, line_numbers, end_numbers, sheet_numbers}
use Rattle.report.specs.Conditions.{Ending, line_refused, end_refused, sheet_refused, labelled}
use Rattle.report.specs.Demand.{file_sheet, sheet_listing, program_cells, program_bytes}
use Rattle.report.proofs.Numbers.{AllOf, one_of_lem, file_number, file_fits}
use Rattle.report.proofs.Endings.{file_ending}
use Rattle.report.proofs.ReportLaws.{label_listed}
use Rattle.report.proofs.Files.{file_refused, file_listed, file_accepted}
use Rattle.report.specs.Answer.{Verdict}
use Rattle.sheet.specs.Answer.{Accepted, Refused}
use Rattle.std.specs.Prelude.{Err, Ok}

-- ---- lines

longer_length : (b : ℕ) (ls : List (List ℕ)) → length (longer b ls) ≤ suc (length ls)
longer_length b [] = omega arith
longer_length b (l ∷ ls) = omega arith

-- a file has at most as many lines as bytes
pub lines_most : (bytes : List ℕ) → length (lines_of bytes) ≤ length bytes
unfolding lines_of
lines_most [] = omega arith
lines_most (b ∷ s) = go (eqb b 10) refl (lines_most s)
  where
    go : (t : Bool) → eqb b 10 ≡ t → length (lines_of s) ≤ length s → length (lines_of (b ∷ s)) ≤ suc (length s)
    go true e h = rw e (omega arith)
    go false e h = rw e (omega (arith, longer_length b (lines_of s)))

takes_length : {i j : Intake} {T U : LentSheet} {lines : List (List ℕ)} → Takes i T lines j U
    → length U.dirs ≡ length T.dirs
takes_length takes_none = refl
takes_length (takes_line {i} {j} {T} line e t) = takes_length t ∙ (line_long i line T).dirs_long

-- ---- the listing of an accepted sheet

module _ (S : Sheet) (L : Lent) (accepted : outcome S L ≡ Accepted) where
  -- an area has at most 8 digits
  area_small : (c : ℕ) → area S c < 10 ^ 8
  unfolding area
  area_small c = go (inside S.grid c) refl
    where
      go : (t : Bool) → inside S.grid c ≡ t → area S c < 10 ^ 8
      go true e = let b = area_bounds S L accepted in omega (arith, b.most c e, b.most_of_all)
      go false e = rw e (omega arith)

  pub label_short : (c : ℕ) → Inside S c → length (digits_of (label_at (basin_labels S) c)) ≤ 36
  label_short c i =
      rw (label_listed S L accepted c i, digits_written S L accepted c i)
      (omega (
        arith,
        at_most_depth S L accepted c,
        depth_most S.depth (accepted_passed S L accepted).depth,
      ))

  pub area_listed : (c : ℕ) → Inside S c → get_or (basin_areas S) c 0 < 10 ^ 8
  unfolding basin_areas
  area_listed c i =
      rw (
        list_at (basin_area S) 0 (cells S.grid) c (inside_lt S.grid c i),
        area_alone S (grid_checks S L accepted) (0 + c),
      )
      (area_small (0 + c))

  pub rows_and_cols : (S.grid.rows ≤ 256) × (S.grid.cols ≤ 256)
  rows_and_cols = rows_cols_most S.grid.rows S.grid.cols (accepted_passed S L accepted).sizes

  -- there are at most as many basins as cells, so that a basin has at most 5 digits
  basin_small : (c : ℕ) → Inside S c → basin_of S.grid c < 10 ^ 5
  basin_small c i =
      omega (
        arith,
        basin_most S.grid (grid_checks S L accepted) c i,
        count_le (cells S.grid) (is_outlet S.grid),
        cells_most rows_and_cols.0 rows_and_cols.1,
      )

  pub basin_listed : (c : ℕ) → Inside S c → get_or (basins_of S.grid) c 0 < 10 ^ 5
  unfolding basins_of
  basin_listed c i =
      rw (list_at (basin_of S.grid) 0 (cells S.grid) c (inside_lt S.grid c i), zero-add) (basin_small c i)

  pub listed_most : length (sheet_listing S) ≤ 25 + cells S.grid * 60
  listed_most =
      listing_most_36_digits S.grid (basin_areas S) (basin_labels S) (basins_of S.grid) rows_and_cols.0
      rows_and_cols.1 area_listed label_short basin_listed

-- ---- the report

small : (numbers : List ℕ) → AllOf (λ n. n ≤ 19) numbers → (number : ℕ) → one_of numbers number ≡ true → number ≤ 19
small = one_of_lem (λ n. n ≤ 19)

module _ (T : LentSheet) (L : Lent) (bytes : List ℕ) (few : length bytes < largest_count) where
  -- a refusal's number and place are small, and a labelled sheet has a direction byte lent for each cell
  abbrev Small : Verdict → Type 0
  Small (Err refusal) = (refusal.number ≤ 19) × (refusal.place < 2 ^ 64)
  Small (Ok z) = z.rows * z.cols ≤ length T.dirs

  ending_small : {v : Verdict} → Ending T L bytes v → Small v
  ending_small (line_refused {number} {place} r) = (
    small line_numbers (
      omega arith,
      (
        omega arith,
        (omega arith, (omega arith, (omega arith, (omega arith, (omega arith, (omega arith, (omega arith, tt))))))),
      ),
    ) number r.number_is,
    omega (arith, r.place_is, lines_most bytes, ap length r.lines ∙ length-append r.before (r.line ∷ r.after)),
  )
  ending_small (end_refused {number} {place} r) = (
    small end_numbers (omega arith, tt) number r.number_is,
    omega (arith, r.place_is, lines_most bytes),
  )
  ending_small (sheet_refused {number} {place} r) = (
    small sheet_numbers (
      omega arith,
      (omega arith, (omega arith, (omega arith, tt))),
    ) number r.number_is,
    omega (arith, (file_number r.file L number place r.refused).1),
  )
  ending_small (labelled {z} r) = omega (arith, (file_fits r.file).dirs_enough, takes_length r.file.lines.takes)

  verdict_small : {v : Verdict} → file_verdict T L bytes ≡ v → Small v
  verdict_small e = rw e at (ending_small (file_ending T L bytes))

  -- of a refused file
  pub refusal_small : (number place : ℕ) → file_verdict T L bytes ≡ Refused number place
      → (number ≤ 19) × (place < 2 ^ 64)
  refusal_small number place e = verdict_small e

  -- of a labelled one
  pub cells_lent : (z : Sizes) → file_verdict T L bytes ≡ Ok z → z.rows * z.cols ≤ length T.dirs
  cells_lent z e = verdict_small e

  module _ (most : ℕ) (refusal : 39 ≤ most) (listing : 25 + length T.dirs * 60 ≤ most) where
    verdict_most : (v : Verdict) → file_verdict T L bytes ≡ v → Small v → length (report T L bytes) ≤ most
    verdict_most (Err r) e s =
        rw (file_refused T L bytes r.number r.place e) (omega (
          arith,
          refusal_most r.number r.place (omega (arith, s.0)) s.1,
        ))
    verdict_most (Ok z) e s =
        rw (file_listed T L bytes z e)
        (omega (arith, listed_most (file_sheet T bytes z) L (file_accepted T L bytes z e), mul-le-mul_right 60 s))

    pub report_most : length (report T L bytes) ≤ most
    report_most = verdict_most (file_verdict T L bytes) refl (verdict_small refl)

-- the program lends 2,048 direction bytes and a buffer of 25 + 2,048 × 60 bytes: no report is longer
pub program_report : (T : LentSheet) (L : Lent) (bytes buffer : List ℕ) → length bytes < largest_count
    → length T.dirs ≡ program_cells → length buffer ≡ program_bytes
    → text_into (report T L bytes) buffer ≡ accepted (report T L bytes) buffer
program_report T L bytes buffer few lent room =
    text_into_lem (report T L bytes) buffer (rw room (report_most T L bytes few program_bytes (omega arith) (omega arith)))
