-- The cells of a page, one after the other: their values fit their fields, and their lines stand in a buffer.
use mathlib.Core.Path.{◌≡◌, refl, sym, ap, ◌∙◌}
use mathlib.Core.Bool.{Bool, true, false}
use mathlib.Core.List.{List, [], ◌∷◌, ◌++◌}
use Prim.Native.Nat.{ℕ, ◌+◌, ◌*◌, ◌/◌, ◌%◌, ◌<◌, ◌≤◌}
use native.Mathlib.Omega.{arith}
use lib.ListN.{length, get_or, length-append}
use Rattle.sheet.specs.declared.Label.{Label}
use Rattle.sheet.specs.Record.{label_at}
use Rattle.sheet.specs.Sheet.{Grid, cells}
use Rattle.sheet.proofs.Within.{both_true}
use Rattle.listing.specs.declared.CellValues.{CellValues}
use Rattle.listing.specs.declared.LabelledSheet.{LabelledSheet}
use Rattle.listing.specs.Labelled.{grid_of, values_at}
use Rattle.listing.specs.Steps.{Put}
use Rattle.listing.proofs.Putting.{put_room, put_then}
use Rattle.pages.specs.Line.{Texts, texts_fit, texts_of, value_texts, cell_texts}
use Rattle.pages.specs.Page.{inside_below, inside_cells, page_cells, cell_lines, atlas_line}
use Rattle.pages.specs.Writing.{all_fit, page_fits}
use Rattle.pages.proofs.PageLaws.{page_begins, lines_join, lines_of_one, page_line_length, fit_join, fit_length}

-- the texts of a cell whose label was read from a slice
pub columns_of : (G : Grid) (areas labels basins : List ℕ) (c : ℕ) {p : Label} → p ≡ label_at labels c
    → value_texts (get_or basins c 0) (c / G.cols) (c % G.cols) (get_or areas c 0) p
    ≡ cell_texts G areas labels basins c
unfolding cell_texts
columns_of G areas labels basins c e =
    ap (value_texts (get_or basins c 0) (c / G.cols) (c % G.cols) (get_or areas c 0)) e

-- and of one whose values were read
pub columns_at : (sheet : LabelledSheet) (c : ℕ) {v : CellValues} → v ≡ values_at sheet c
    → texts_of v ≡ cell_texts (grid_of sheet) sheet.areas.now sheet.labels.now sheet.basins.now c
columns_at sheet c e =
    ap texts_of e ∙ columns_of (grid_of sheet) sheet.areas.now sheet.labels.now sheet.basins.now c refl

module _ (G : Grid) (areas labels basins : List ℕ) (k : ℕ) where
  -- the texts of a cell, its line, and the cells of the page among the first n
  abbrev texts : ℕ → Texts
  texts = cell_texts G areas labels basins

  abbrev line : ℕ → List ℕ
  line = atlas_line G areas labels basins

  abbrev page : ℕ → List ℕ
  page n = page_cells k (inside_below G n)

  -- the cells of the page among the first n fit where all do, and their lines have room where all have
  module _ (n : ℕ) (most : n ≤ cells G) (fits : page_fits G areas labels basins k ≡ true) where
    so_far_fits : all_fit texts (page n) ≡ true
    unfolding page_fits inside_cells
    so_far_fits =
        let b = page_begins G k n (cells G) most in
        (both_true (all_fit texts (page n)) (all_fit texts b.rest)
        (sym (ap (all_fit texts) b.is ∙ fit_join texts (page n) b.rest) ∙ fits)).0

    pub so_far_room : (at : ℕ) {room : ℕ} → at + 73 * length (page_cells k (inside_cells G)) ≤ room
        → at + length (cell_lines line (page n)) ≤ room
    unfolding inside_cells atlas_line
    so_far_room at h =
        let b = page_begins G k n (cells G) most in
        omega (
          arith,
          h,
          fit_length texts (page n) so_far_fits,
          ap length b.is,
          length-append (page n) b.rest,
        )

  -- the cell c is on the page
  module _ (c : ℕ) (on : c < cells G) (here : page (c + 1) ≡ page c ++ (c ∷ [])) where
    pub cell_fits : page_fits G areas labels basins k ≡ true → texts_fit (texts c) ≡ true
    unfolding all_fit
    cell_fits fits =
        let all = both_true (all_fit texts (page c)) (all_fit texts (c ∷ []))
        (sym (ap (all_fit texts) here ∙ fit_join texts (page c) (c ∷ []))
        ∙ so_far_fits (c + 1) (omega arith) fits) in
        (both_true (texts_fit (texts c)) true all.1).0

    -- a value that is too wide
    pub cell_too_wide : texts_fit (texts c) ≡ false → page_fits G areas labels basins k ≡ false
    cell_too_wide e = go (page_fits G areas labels basins k) refl
      where
        go : (t : Bool) → page_fits G areas labels basins k ≡ t → t ≡ false
        go true fits = sym (cell_fits fits) ∙ e
        go false fits = refl

    -- one cell more fits
    pub cell_fits_too : all_fit texts (page c) ≡ true → texts_fit (texts c) ≡ true
        → all_fit texts (page (c + 1)) ≡ true
    unfolding all_fit
    cell_fits_too before this =
        ap (all_fit texts) here ∙ fit_join texts (page c) (c ∷ []) ∙ rw (before, this)

    module _ {a b : List ℕ} {at mid : ℕ} (fits : page_fits G areas labels basins k ≡ true)
        (room : at + 73 * length (page_cells k (inside_cells G)) ≤ length a)
        (p : Put a b at mid (cell_lines line (page c))) where
      line_long : length (line c) ≡ 73
      unfolding atlas_line
      line_long = page_line_length (texts c) (cell_fits fits)

      lines_here : cell_lines line (page (c + 1)) ≡ cell_lines line (page c) ++ line c
      lines_here =
          ap (cell_lines line) here
          ∙ lines_join line (page c) (c ∷ [])
          ∙ ap (λ (s : List ℕ). cell_lines line (page c) ++ s) (lines_of_one line c)

      lines_room : at + length (cell_lines line (page c) ++ line c) ≤ length a
      lines_room = rw lines_here at (so_far_room (c + 1) (omega arith) fits at room)

      -- its line has room after those before it
      pub cell_room : mid + 73 ≤ length b
      cell_room = omega (arith, put_room p (line c) lines_room, line_long)

      pub put_here : {d : List ℕ} {next : ℕ} → Put b d mid next (line c)
          → Put a d at next (cell_lines line (page (c + 1)))
      put_here q = rw lines_here (put_then p q lines_room)
