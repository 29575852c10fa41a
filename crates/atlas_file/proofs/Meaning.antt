-- What the atlas of an accepted sheet and of a file is, proved.
use mathlib.Core.Path.{◌≡◌, refl, sym, ap, ◌∙◌}
use mathlib.Core.Bool.{Bool, true, false, cond}
use mathlib.Core.List.{List, []}
use mathlib.Core.Logic.{◌↔◌}
use Prim.Native.Nat.{ℕ, ◌^◌, ◌<◌}
use native.Mathlib.Omega.{arith}
use lib.Dec.{eqb}
use lib.ListN.{length}
use Rattle.sheet.specs.Refusal.{Lent, lent_after}
use Rattle.claims.proofs.Sheets.{accepted_passed}
use Rattle.faults.specs.declared.Sizes.{Sizes}
use Rattle.intake.specs.Intake.{LentSheet}
use Rattle.listing.specs.Listing.{refusal_text}
use Rattle.listing.specs.Writing.{accepted, refusal_into}
use Rattle.listing.proofs.Answers.{text_into_lem, none_fails, refusal_accepted}
use Rattle.pages.specs.Page.{page_text}
use Rattle.pages.specs.Line.{line_columns, names}
use Rattle.pages.proofs.Answers.{page_into_lem, page_most}
use Rattle.pages.proofs.Meaning.{pages_meaning}
use Rattle.pages.proofs.OneLine.{names_one_line}
use Rattle.reading.specs.Feed.{largest_count}
use Rattle.reading.specs.Lines.{read_file}
use Rattle.reading.specs.Pieces.{joined}
use Rattle.reading.proofs.Whole.{read_in_pieces}
use Rattle.report.specs.Report.{file_verdict, file_lent, report}
use Rattle.report.specs.Demand.{file_sheet, program_cells, program_bytes}
use Rattle.report.proofs.Endings.{listing_no_refusal}
use Rattle.report.proofs.Files.{file_refused, file_listed, file_accepted, file_lent_lem}
use Rattle.report.proofs.Lengths.{refusal_small, cells_lent}
use Rattle.report.proofs.ReportLaws.{dirs_long, areas_long, labels_long, basins_long}
use Rattle.atlas_file.specs.Atlas.{verdict_atlas, verdict_page, refusal_page_into, verdict_page_into}
use Rattle.atlas_file.specs.Atlas.{file_atlas, file_page, file_pages}
use Rattle.atlas_file.specs.Meaning.{sheet_atlas, program_pages, AtlasMeaning}
use Rattle.atlas_file.proofs.Fit.{no_feed_in, numbers_fit, sheet_atlas_lem}
use Rattle.atlas_file.proofs.Pages.{Few, verdict_pages_lem, verdict_few, atlas_no_refusal}
use Rattle.report.specs.Answer.{Verdict}
use Rattle.sheet.specs.Answer.{Refused}
use Rattle.std.specs.Prelude.{Err, Ok}

module _ (T : LentSheet) (L : Lent) (bytes : List ℕ) where
  -- ---- the atlas, by the verdict

  atlas_is : {v : Verdict} → file_verdict T L bytes ≡ v
      → file_atlas T L bytes ≡ verdict_atlas v (read_file T bytes).lent.dirs (file_lent T L bytes)
  unfolding file_atlas
  atlas_is e = ap (λ (v : Verdict). verdict_atlas v (read_file T bytes).lent.dirs (file_lent T L bytes)) e

  atlas_refused : (number place : ℕ) → file_verdict T L bytes ≡ Refused number place
      → file_atlas T L bytes ≡ refusal_text number place
  unfolding verdict_atlas
  atlas_refused number place e = atlas_is e

  atlas_labelled : (z : Sizes) → file_verdict T L bytes ≡ Ok z
      → file_atlas T L bytes ≡ sheet_atlas (file_sheet T bytes z)
  unfolding verdict_atlas
  atlas_labelled z e =
      atlas_is e
      ∙ ap (λ (K : Lent). verdict_atlas (Ok z) (read_file T bytes).lent.dirs K) (file_lent_lem T L bytes z e)
      ∙ sheet_atlas_lem (file_sheet T bytes z) L (file_accepted T L bytes z e)

  alike : (number place : ℕ)
      → (file_atlas T L bytes ≡ refusal_text number place) ↔ (report T L bytes ≡ refusal_text number place)
  alike number place = go (file_verdict T L bytes) refl
    where
      go : (v : Verdict) → file_verdict T L bytes ≡ v
          → (file_atlas T L bytes ≡ refusal_text number place) ↔ (report T L bytes ≡ refusal_text number place)
      go (Err refusal) e =
          let same = file_refused T L bytes refusal.number refusal.place e ∙ sym (atlas_refused refusal.number refusal.place e) in
          (λ h. same ∙ h, λ h. sym same ∙ h)
      go (Ok z) e = (
        λ h. absurd (atlas_no_refusal _ _ z number place (sym (atlas_is e) ∙ h)),
        λ h. absurd (listing_no_refusal _ _ _ _ number place (sym (file_listed T L bytes z e) ∙ h)),
      )

  -- ---- its pages in a buffer

  module _ (few : length bytes < largest_count) where
    module _ (lent : length T.dirs ≡ program_cells) where
      few_pages : (v : Verdict) → file_verdict T L bytes ≡ v → Few program_pages v
      few_pages (Err refusal) e = tt
      few_pages (Ok z) e = omega (arith, cells_lent T L bytes few z e)

      file_printed : file_pages T L bytes program_pages ≡ file_atlas T L bytes
      unfolding file_pages file_atlas
      file_printed =
          let v = file_verdict T L bytes in
          verdict_pages_lem (read_file T bytes).lent.dirs (file_lent T L bytes) v program_pages
          (verdict_few (read_file T bytes).lent.dirs (file_lent T L bytes) v program_pages (omega arith)
          (few_pages v refl))

    module _ (buffer : List ℕ) (room : length buffer ≡ program_bytes) (k : ℕ) where
      -- a page of a verdict in the buffer
      abbrev InBuffer : Verdict → Lent → Type 0
      InBuffer v K =
          verdict_page_into v (read_file T bytes).lent.dirs K.areas K.labels K.basins k buffer
          ≡ accepted (verdict_page v (read_file T bytes).lent.dirs K k) buffer

      refused_in : (number place : ℕ) → number < 256 → place < 2 ^ 64
          → InBuffer (Refused number place) (file_lent T L bytes)
      unfolding verdict_page_into refusal_page_into verdict_page
      refused_in number place h g = go (eqb k 1)
        where
          go : (t : Bool)
              → cond t (refusal_into number place buffer) (accepted [] buffer)
              ≡ accepted (cond t (refusal_text number place) []) buffer
          go true = refusal_accepted number place buffer h g (omega arith)
          go false = refl

      labelled_in : (z : Sizes) → file_verdict T L bytes ≡ Ok z
          → InBuffer (Ok z) (lent_after (file_sheet T bytes z) L)
      unfolding verdict_page_into verdict_page
      labelled_in z e =
          let S = file_sheet T bytes z in
          let a = file_accepted T L bytes z e in
          let K = lent_after S L in
          let fits = (numbers_fit S L a).pages k in
          let none = none_fails z.rows z.cols S.grid.dirs K.areas K.labels K.basins
          (accepted_passed S L a).sizes (dirs_long S L a) (areas_long S L a) (labels_long S L a) (basins_long S L a) in
          page_into_lem S.grid K.areas K.labels K.basins k buffer none fits
          ∙ text_into_lem (page_text S.grid K.areas K.labels K.basins k) buffer
          (omega (arith, page_most S.grid K.areas K.labels K.basins k fits, room))

      in_buffer : (v : Verdict) → file_verdict T L bytes ≡ v → InBuffer v (file_lent T L bytes)
      in_buffer (Err refusal) e =
          let small = refusal_small T L bytes few refusal.number refusal.place e in
          refused_in refusal.number refusal.place (omega (arith, small.0)) small.1
      in_buffer (Ok z) e = rw (file_lent_lem T L bytes z e) (labelled_in z e)

      file_written : InBuffer (file_verdict T L bytes) (file_lent T L bytes)
      file_written = in_buffer (file_verdict T L bytes) refl

pub atlas_meaning : AtlasMeaning
unfolding file_page file_pages file_atlas file_verdict file_lent
atlas_meaning = record {
  numbers_fit = numbers_fit;
  names_line_lem = (pages_meaning.columns names pages_meaning.names_fit, no_feed_in (line_columns names) names_one_line);
  refused = atlas_refused;
  labelled = atlas_labelled;
  as_listing = alike;
  pages = λ T L bytes k e.
      verdict_pages_lem (read_file T bytes).lent.dirs (file_lent T L bytes) (file_verdict T L bytes) k e;
  written = λ pieces line buffer T L k long few room.
      rw (read_in_pieces.as_lines pieces line T long few) (file_written T L (joined pieces) few buffer room k);
  printed = file_printed;
}
