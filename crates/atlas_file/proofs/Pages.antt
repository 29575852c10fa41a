-- The pages of a verdict, one after the other, are its atlas; no atlas of a labelled sheet reads as a refusal.
use mathlib.Core.Path.{◌≡◌, refl, ap, ◌∙◌}
use mathlib.Core.List.{List, [], ◌∷◌, ◌++◌, append-nil}
use Prim.Native.Nat.{ℕ, zero, suc, ◌*◌, ◌<◌, ◌≤◌}
use native.Mathlib.Omega.{arith}
use borrow.Author.Tests.{ne_eqb}
use lib.ListN.{length, get_or, take, drop, drop_of_length-le}
use Rattle.sheet.specs.Refusal.{Lent}
use Rattle.sheet.specs.Sheet.{Grid, grid, cells}
use Rattle.listing.specs.Listing.{refusal_text}
use Rattle.listing.proofs.Lengths.{refusal_length}
use Rattle.faults.specs.declared.Sizes.{Sizes}
use Rattle.pages.specs.Field.{to_right, to_left}
use Rattle.pages.specs.Line.{fields, line_columns, page_line}
use Rattle.pages.specs.Page.{inside_below, inside_cells, page_cells, page_of, pages_up_to, atlas_from, atlas_line}
use Rattle.pages.specs.Page.{page_text, atlas_text}
use Rattle.pages.proofs.PageLaws.{below_few}
use Rattle.pages.proofs.Answers.{page_none, no_page}
use Rattle.pages.proofs.Meaning.{pages_meaning}
use Rattle.atlas_file.specs.Atlas.{verdict_atlas, verdict_page, verdict_pages}
use Rattle.report.specs.Answer.{Verdict}
use Rattle.sheet.specs.Answer.{Refused}
use Rattle.std.specs.Prelude.{Err, Ok}

-- the cells of a labelled sheet fill at most k pages
abbrev pub Few : ℕ → Verdict → Type 0
Few k (Err refusal) = Unit
Few k (Ok z) = z.rows * z.cols ≤ k * 59

module _ (dirs : List ℕ) (L : Lent) where
  -- ---- of a refusal

  refusal_pages : (number place j : ℕ) → verdict_pages (Refused number place) dirs L (suc j) ≡ refusal_text number place
  unfolding verdict_pages verdict_page
  refusal_pages number place zero = refl
  refusal_pages number place (suc j) =
      rw (ne_eqb (suc (suc j)) 1 (λ e. omega arith), append-nil) (refusal_pages number place j)

  -- ---- of a labelled sheet

  module _ (z : Sizes) where
    abbrev G : Grid
    G = grid z.rows z.cols dirs

    abbrev line : ℕ → List ℕ
    line = atlas_line G L.areas L.labels L.basins

    labelled_pages : (k : ℕ) → verdict_pages (Ok z) dirs L k ≡ pages_up_to k line (inside_cells G)
    unfolding verdict_pages verdict_page page_text pages_up_to
    labelled_pages zero = refl
    labelled_pages (suc k) =
        ap (λ (s : List ℕ). s ++ page_of line (page_cells (suc k) (inside_cells G))) (labelled_pages k)

    -- no page after the last that so many cells can fill
    labelled_few : (k : ℕ) → z.rows * z.cols ≤ k * 59 → verdict_page (Ok z) dirs L (suc k) ≡ []
    unfolding verdict_page page_text inside_cells page_cells
    labelled_few k h =
        let short : length (inside_below G (cells G)) ≤ k * 59 = omega (arith, below_few G (cells G)) in
        let none : take 59 (drop (k * 59) (inside_below G (cells G))) ≡ [] =
        ap (take 59) (drop_of_length-le (inside_below G (cells G)) short) in
        no_page line (take 59 (drop (k * 59) (inside_below G (cells G)))) (ap length none)

  -- ---- of any verdict

  pub verdict_pages_lem : (v : Verdict) (k : ℕ) → verdict_page v dirs L (suc k) ≡ []
      → verdict_pages v dirs L k ≡ verdict_atlas v dirs L
  unfolding verdict_page verdict_atlas page_text atlas_text
  verdict_pages_lem (Err refusal) zero e =
      absurd (omega (arith, refusal_length refusal.number refusal.place, ap length e))
  verdict_pages_lem (Err refusal) (suc j) e = refusal_pages refusal.number refusal.place j
  verdict_pages_lem (Ok z) k e =
      labelled_pages z k
      ∙ pages_meaning.atlas (line z) (inside_cells (G z)) k
      (page_none (line z) (page_cells (suc k) (inside_cells (G z))) e)

  -- a page after the last
  pub verdict_few : (v : Verdict) (k : ℕ) → 0 < k → Few k v → verdict_page v dirs L (suc k) ≡ []
  unfolding verdict_page
  verdict_few (Err refusal) k some few = rw (ne_eqb (suc k) 1 (λ e. omega arith))
  verdict_few (Ok z) k some few = labelled_few z k few

  -- the atlas of a sheet is no refusal: the first byte tells
  pub atlas_no_refusal : (z : Sizes) (number place : ℕ)
      → verdict_atlas (Ok z) dirs L ≡ refusal_text number place → ⊥
  unfolding verdict_atlas atlas_text atlas_from page_line line_columns fields to_right to_left refusal_text
  atlas_no_refusal z number place e = go (inside_cells (G z)) e
    where
      go : (cs : List ℕ) → atlas_from 0 (line z) cs ≡ refusal_text number place → ⊥
      go [] e = omega (arith, refusal_length number place, ap length e)
      go (c ∷ cs) e = let first : ◌≡◌ {A = ℕ} 98 114 = ap (λ (s : List ℕ). get_or s 0 0) e in omega arith
