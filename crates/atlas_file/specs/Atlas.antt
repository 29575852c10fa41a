-- The atlas of a file: the pages of its sheet, or the two lines after a refusal. It is what the program atlas prints.
use Rattle.std.specs.Prelude.{cond, List, [], ◌++◌, ℕ, zero, suc, eqb, Err, Ok}
use Rattle.sheet.specs.Sheet.{grid}
use Rattle.sheet.specs.Refusal.{Lent}
use Rattle.intake.specs.Intake.{LentSheet}
use Rattle.listing.specs.Listing.{refusal_text}
use Rattle.listing.specs.Writing.{Listed, accepted, refusal_into}
use Rattle.pages.specs.Page.{page_text, atlas_text}
use Rattle.pages.specs.Writing.{page_into}
use Rattle.reading.specs.Lines.{read_file}
use Rattle.report.specs.Report.{file_verdict, file_lent}
use Rattle.report.specs.Answer.{Verdict}

-- ---- of a verdict

-- the atlas of a labelled sheet, or the two lines after a refusal
unfoldable pub verdict_atlas : Verdict → List ℕ → Lent → List ℕ
verdict_atlas (Err refusal) dirs L = refusal_text refusal.number refusal.place
verdict_atlas (Ok z) dirs L = atlas_text (grid z.rows z.cols dirs) L.areas L.labels L.basins

-- its page of this number, from 1; the two lines after a refusal are its only page
unfoldable pub verdict_page : Verdict → List ℕ → Lent → ℕ → List ℕ
verdict_page (Err refusal) dirs L k = cond (eqb k 1) (refusal_text refusal.number refusal.place) []
verdict_page (Ok z) dirs L k = page_text (grid z.rows z.cols dirs) L.areas L.labels L.basins k

-- its first k pages, one after the other
unfoldable pub verdict_pages : Verdict → List ℕ → Lent → ℕ → List ℕ
unfolding verdict_page
verdict_pages v dirs L zero = []
verdict_pages v dirs L (suc k) = verdict_pages v dirs L k ++ verdict_page v dirs L (suc k)

-- the two lines after a refusal, as the only page, in a lent buffer
unfoldable pub refusal_page_into : ℕ → ℕ → ℕ → List ℕ → Listed
unfolding refusal_into
refusal_page_into number place k buffer = cond (eqb k 1) (refusal_into number place buffer) (accepted [] buffer)

-- a page of any verdict in a lent buffer
unfoldable pub verdict_page_into : Verdict → List ℕ → List ℕ → List ℕ → List ℕ → ℕ → List ℕ → Listed
verdict_page_into (Err refusal) dirs areas labels basins k buffer = refusal_page_into refusal.number refusal.place k buffer
verdict_page_into (Ok z) dirs areas labels basins k buffer =
    page_into (grid z.rows z.cols dirs) areas labels basins k buffer

-- ---- of a file

-- the atlas of a file with these bytes, its page of a number, and its first k pages one after the other
unfoldable pub file_atlas : LentSheet → Lent → List ℕ → List ℕ
unfolding file_verdict file_lent verdict_atlas
file_atlas T L bytes = verdict_atlas (file_verdict T L bytes) (read_file T bytes).lent.dirs (file_lent T L bytes)

unfoldable pub file_page : LentSheet → Lent → List ℕ → ℕ → List ℕ
unfolding file_verdict file_lent verdict_page
file_page T L bytes k = verdict_page (file_verdict T L bytes) (read_file T bytes).lent.dirs (file_lent T L bytes) k

unfoldable pub file_pages : LentSheet → Lent → List ℕ → ℕ → List ℕ
unfolding file_verdict file_lent verdict_pages
file_pages T L bytes k = verdict_pages (file_verdict T L bytes) (read_file T bytes).lent.dirs (file_lent T L bytes) k
