-- Every number of an accepted sheet fits its field.
use mathlib.Core.Path.{◌≡◌, ap, ◌∙◌}
use mathlib.Core.Bool.{true}
use mathlib.Core.List.{List, [], ◌∷◌}
use Prim.Native.Nat.{ℕ, ◌/◌, ◌%◌, ◌<◌, ◌≤◌}
use native.Mathlib.Nat.{mod-lt}
use native.Mathlib.Omega.{arith}
use borrow.Author.Tests.{le-leb}
use lib.ListN.{length, get_or}
use Rattle.decimal.specs.Text.{decimal_text}
use Rattle.decimal.proofs.TextLaws.{text_few}
use Rattle.sheet.specs.Record.{label_at}
use Rattle.sheet.specs.Sheet.{Sheet}
use Rattle.sheet.specs.Basins.{basin_areas, basin_labels, basins_of}
use Rattle.sheet.specs.Refusal.{Lent, outcome, lent_after}
use Rattle.sheet.proofs.Cells.{inside_lt, row_lt}
use Rattle.sheet.proofs.Within.{cols_some}
use Rattle.claims.specs.Demand.{Inside}
use Rattle.claims.proofs.Sheets.{accepted_passed}
use Rattle.listing.specs.Listing.{label_text}
use Rattle.listing.proofs.LabelText.{label_few}
use Rattle.listing.proofs.AsBefore.{OneLine}
use Rattle.pages.specs.Line.{texts_fit, line_columns, cell_texts, value_texts}
use Rattle.pages.specs.Page.{atlas_text}
use Rattle.pages.proofs.Fields.{fit_of, line_length}
use Rattle.pages.proofs.OneLine.{cell_one_line}
use Rattle.pages.proofs.Inside.{pages_fit, columns_written, atlas_written}
use Rattle.reading.specs.Pieces.{NoFeed}
use Rattle.report.proofs.ReportLaws.{areas_length, labels_length, basins_length}
use Rattle.report.proofs.Lengths.{area_listed, label_short, basin_listed, rows_and_cols}
use Rattle.atlas_file.specs.Meaning.{written_texts, NumbersFit, sheet_atlas}
use Rattle.sheet.specs.Answer.{Accepted}

pub no_feed_in : (s : List ℕ) → OneLine s → NoFeed s
no_feed_in [] o = tt
no_feed_in (b ∷ s) o = (λ e. omega (arith, o.0), no_feed_in s o.1)

module _ (S : Sheet) (L : Lent) (accepted : outcome S L ≡ Accepted) where
  -- the texts of the values that labelling wrote are those of the definition
  written_is : (c : ℕ) → Inside S c
      → written_texts S L c ≡ cell_texts S.grid (basin_areas S) (basin_labels S) (basins_of S.grid) c
  unfolding lent_after
  written_is c i =
      rw accepted
      (columns_written S.grid (basin_areas S) L.areas (basin_labels S) L.labels (basins_of S.grid)
      L.basins (areas_length S L accepted) (labels_length S L accepted) (basins_length S L accepted) c i)

  some_cols : 0 < S.grid.cols
  some_cols = cols_some S.grid.rows S.grid.cols (accepted_passed S L accepted).sizes

  values_fit_lem : (c : ℕ) → Inside S c
      → texts_fit (cell_texts S.grid (basin_areas S) (basin_labels S) (basins_of S.grid) c) ≡ true
  unfolding texts_fit cell_texts value_texts
  values_fit_lem c i =
      let row-few : length (decimal_text (c / S.grid.cols)) ≤ 3 =
      text_few 3 (c / S.grid.cols) (omega arith)
      (omega (arith, row_lt some_cols (inside_lt S.grid c i), (rows_and_cols S L accepted).0)) in
      let col-few : length (decimal_text (c % S.grid.cols)) ≤ 3 =
      text_few 3 (c % S.grid.cols) (omega arith)
      (omega (arith, mod-lt c some_cols, (rows_and_cols S L accepted).1)) in
      let area-few : length (decimal_text (get_or (basin_areas S) c 0)) ≤ 8 =
      text_few 8 (get_or (basin_areas S) c 0) (omega arith) (area_listed S L accepted c i) in
      rw (
        le-leb (length (decimal_text (get_or (basins_of S.grid) c 0))) 5
            (text_few 5 (get_or (basins_of S.grid) c 0) (omega arith) (basin_listed S L accepted c i)),
        le-leb (length (decimal_text (c / S.grid.cols))) 4 (omega arith),
        le-leb (length (decimal_text (c % S.grid.cols))) 4 (omega arith),
        le-leb (length (decimal_text (get_or (basin_areas S) c 0))) 9 (omega arith),
        le-leb (length (label_text (label_at (basin_labels S) c))) 36
            (label_few 36 (label_at (basin_labels S) c) (omega arith) (label_short S L accepted c i)),
      )

  cell_fits : (c : ℕ) → Inside S c → texts_fit (written_texts S L c) ≡ true
  cell_fits c i = ap texts_fit (written_is c i) ∙ values_fit_lem c i

  pub numbers_fit : NumbersFit S L
  numbers_fit = record {
    fit = cell_fits;
    no_feed = λ c.
        no_feed_in (line_columns (written_texts S L c))
        (cell_one_line S.grid (lent_after S L).areas (lent_after S L).labels (lent_after S L).basins c);
    columns = λ c i. line_length (written_texts S L c) (fit_of (written_texts S L c) (cell_fits c i));
    pages = pages_fit S.grid (lent_after S L).areas (lent_after S L).labels (lent_after S L).basins cell_fits;
  }

  -- the atlas with what labelling wrote is that of the definition
  pub sheet_atlas_lem : atlas_text S.grid (lent_after S L).areas (lent_after S L).labels (lent_after S L).basins
      ≡ sheet_atlas S
  unfolding lent_after
  sheet_atlas_lem =
      rw accepted
      (atlas_written S.grid (basin_areas S) L.areas (basin_labels S) L.labels (basins_of S.grid) L.basins
      (areas_length S L accepted) (labels_length S L accepted) (basins_length S L accepted))
