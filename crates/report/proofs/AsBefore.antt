-- A sheet of one basin lists the same bytes as before, with its first column in front; and at a depth of 18 or less
-- those of document 01.
use mathlib.Core.Path.{◌≡◌, sym, ap, ◌∙◌}
use mathlib.Core.List.{List}
use Prim.Native.Nat.{ℕ, ◌^◌, ◌<◌, ◌≤◌}
use native.Mathlib.Nat.{zero-add}
use native.Mathlib.Omega.{arith}
use lib.ListN.{get_or}
use Rattle.sheet.specs.Sheet.{Sheet, cells}
use Rattle.sheet.specs.Record.{label_of_numbers, label_at}
use Rattle.sheet.specs.Label.{areas_of, labels_of}
use Rattle.sheet.specs.Basins.{basin_of, basin_areas, basin_labels, basins_of}
use Rattle.sheet.specs.Refusal.{Lent, outcome}
use Rattle.sheet.proofs.Cells.{inside_lt}
use Rattle.sheet.proofs.Lists.{list_at}
use Rattle.faults.specs.declared.Sizes.{Sizes}
use Rattle.intake.specs.Intake.{LentSheet}
use Rattle.claims.specs.Demand.{Inside}
use Rattle.claims.specs.Alone.{AloneIsDirect, basin_count}
use Rattle.claims.specs.AsBefore.{number_label, number_labels}
use Rattle.claims.proofs.Alone.{alone_is_direct}
use Rattle.claims.proofs.AsBefore.{one_number}
use Rattle.claims.proofs.BasinNumbers.{basin_some, basin_most}
use Rattle.claims.proofs.Written.{checks, grid_checks, first_number_fits}
use Rattle.listing.specs.AsBefore.{label_texts, listing_before, with_basin1}
use Rattle.listing.proofs.AsBefore.{one_basin, numbers_as_before}
use Rattle.report.specs.Report.{file_verdict, report}
use Rattle.report.specs.Demand.{file_sheet, sheet_listing, sheet_listing_before, number_listing}
use Rattle.report.proofs.ReportLaws.{label_listed}
use Rattle.report.proofs.Files.{file_listed, file_accepted}
use Rattle.sheet.specs.Answer.{Accepted}
use Rattle.std.specs.Prelude.{Ok}

module _ (S : Sheet) (L : Lent) (accepted : outcome S L ≡ Accepted) where
  direct : AloneIsDirect S
  direct = alone_is_direct S (checks S L accepted).rest

  -- ---- one basin

  basin_1 : basin_count S.grid ≡ 1 → (c : ℕ) → Inside S c → basin_of S.grid c ≡ 1
  basin_1 one c i =
      let P = grid_checks S L accepted in
      omega (arith, one, basin_some S.grid P c i, basin_most S.grid P c i)

  basin_listed : basin_count S.grid ≡ 1 → (c : ℕ) → Inside S c → get_or (basins_of S.grid) c 0 ≡ 1
  unfolding basins_of
  basin_listed one c i =
      list_at (basin_of S.grid) 0 (cells S.grid) c (inside_lt S.grid c i)
      ∙ ap (basin_of S.grid) (zero-add c)
      ∙ basin_1 one c i

  sheet_one_basin : basin_count S.grid ≡ 1 → sheet_listing S ≡ with_basin1 (sheet_listing_before S)
  sheet_one_basin one =
      one_basin.column_alone S.grid (basin_areas S) (basin_labels S) (basins_of S.grid) (basin_listed one)
      ∙ ap (λ (areas : List ℕ). with_basin1 (listing_before S.grid areas (label_texts (basin_labels S))))
      direct.areas
      ∙ ap (λ (labels : List ℕ). with_basin1 (listing_before S.grid (areas_of S) (label_texts labels)))
      direct.labels

  -- ---- labels that are one number each

  module _ (few : S.depth ≤ 18) where
    number_at : (c : ℕ) → Inside S c → get_or (number_labels S) c 0 ≡ number_label S c
    unfolding number_labels
    number_at c i =
        list_at (number_label S) 0 (cells S.grid) c (inside_lt S.grid c i) ∙ ap (number_label S) (zero-add c)

    number_small : (c : ℕ) → Inside S c → get_or (number_labels S) c 0 < 2 ^ 64
    number_small c i =
        rw (number_at c i) (rw ((one_number S L accepted).same_number few c i) at (first_number_fits S L accepted c i))

    label_is_number : (c : ℕ) → Inside S c → label_at (labels_of S) c ≡ label_of_numbers (get_or (number_labels S) c 0) 0
    label_is_number c i =
        ap (λ (labels : List ℕ). label_at labels c) (sym direct.labels)
        ∙ label_listed S L accepted c i
        ∙ (one_number S L accepted).same_number few c i
        ∙ ap (λ (m : ℕ). label_of_numbers m 0) (sym (number_at c i))

    sheet_as_before : sheet_listing_before S ≡ number_listing S
    sheet_as_before =
        numbers_as_before S.grid (areas_of S) (labels_of S) (number_labels S) number_small label_is_number

module _ (T : LentSheet) (L : Lent) (bytes : List ℕ) (z : Sizes) (e : file_verdict T L bytes ≡ Ok z) where
  pub file_one_basin : basin_count (file_sheet T bytes z).grid ≡ 1
      → report T L bytes ≡ with_basin1 (sheet_listing_before (file_sheet T bytes z))
  file_one_basin one =
      file_listed T L bytes z e
      ∙ sheet_one_basin (file_sheet T bytes z) L (file_accepted T L bytes z e) one

  pub file_as_before : basin_count (file_sheet T bytes z).grid ≡ 1 → z.depth ≤ 18
      → report T L bytes ≡ with_basin1 (number_listing (file_sheet T bytes z))
  file_as_before one few =
      file_one_basin one
      ∙ ap with_basin1 (sheet_as_before (file_sheet T bytes z) L (file_accepted T L bytes z e) few)
