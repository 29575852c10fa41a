-- What the call that writes a page answers, and what the lent buffer holds afterwards.
use Rattle.std.specs.Prelude.{Bool, true, cond, List, [], ◌∷◌, ℕ, eqb}
use Rattle.sheet.specs.Refusal.{both}
use Rattle.sheet.specs.Sheet.{Grid}
use Rattle.listing.specs.Writing.{Listed, refused, text_into, listing_fault}
use Rattle.pages.specs.Line.{Texts, texts_fit, cell_texts}
use Rattle.pages.specs.Page.{inside_cells, page_cells, page_text}

-- the values of each of these cells fit their fields
unfoldable pub all_fit : (ℕ → Texts) → List ℕ → Bool
unfolding texts_fit
all_fit texts [] = true
all_fit texts (c ∷ cs) = both (texts_fit (texts c)) (all_fit texts cs)

-- the values of the cells of a page fit their fields
unfoldable pub page_fits : Grid → List ℕ → List ℕ → List ℕ → ℕ → Bool
unfolding all_fit cell_texts page_cells inside_cells
page_fits G areas labels basins k = all_fit (cell_texts G areas labels basins) (page_cells k (inside_cells G))

-- a page in a lent buffer: 1, then 3, which also refuses a value that is wider than its field
unfoldable pub page_into : Grid → List ℕ → List ℕ → List ℕ → ℕ → List ℕ → Listed
unfolding listing_fault page_fits page_text text_into
page_into G areas labels basins k buffer =
    let fault : ℕ = listing_fault G areas labels basins in
    let text : Listed = text_into (page_text G areas labels basins k) buffer in
    let rest : Listed = cond (page_fits G areas labels basins k) text (refused 3 buffer) in
    cond (eqb fault 0) rest (refused fault buffer)
