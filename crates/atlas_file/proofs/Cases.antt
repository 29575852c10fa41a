-- Atlases of files tried by computation.
use mathlib.Core.Path.{◌≡◌, refl}
use mathlib.Core.List.{[], ◌∷◌, map}
use Rattle.decimal.specs.Ascii.{ascii}
use Rattle.intake.specs.Intake.{lent_sheet, line_after, end_taken}
use Rattle.labelling.specs.FromIntake.{intake_lent}
use Rattle.listing.specs.Listing.{refusal_text}
use Rattle.pages.specs.Field.{to_right, to_left}
use Rattle.pages.specs.Line.{fields, page_line}
use Rattle.pages.specs.Page.{page_text, atlas_text}
use Rattle.pages.proofs.Cases.{sample_page}
use Rattle.reading.specs.Lines.{lines_of, end_after, read_from, read_file}
use Rattle.reading.proofs.Cases.{sample_a}
use Rattle.report.specs.Report.{verdict_of, read_lent}
use Rattle.report.proofs.Cases.{sheet12, lent12}
use Rattle.atlas_file.specs.Atlas.{file_atlas, file_page}

pub sample_atlas : file_atlas sheet12 lent12 sample_a ≡ sample_page
unfolding file_atlas read_file lines_of read_from line_after end_after end_taken verdict_of read_lent intake_lent atlas_text page_line fields to_right to_left
sample_atlas = refl

-- the first pages of its atlas: page 0, page 1 and page 2
pub sample_pages : map (file_page sheet12 lent12 sample_a) (0 ∷ 1 ∷ 2 ∷ []) ≡ [] ∷ sample_page ∷ [] ∷ []
unfolding file_page read_file lines_of read_from line_after end_after end_taken verdict_of read_lent intake_lent page_text fields to_right to_left
sample_pages = refl

-- the two lines after a refusal are the only page
pub empty_pages : map (file_page (lent_sheet [] []) lent12 []) (0 ∷ 1 ∷ 2 ∷ [])
    ≡ [] ∷ ascii "refused,place\n14,1\n" ∷ [] ∷ []
unfolding file_page read_file lines_of read_from line_after end_after end_taken verdict_of read_lent refusal_text
empty_pages = refl
