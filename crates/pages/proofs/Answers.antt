-- When a page is refused, and when it is written.
use mathlib.Core.Path.{◌≡◌, refl, ap}
use mathlib.Core.Bool.{Bool, true, false}
use mathlib.Core.List.{List, [], ◌∷◌, ◌++◌}
use Prim.Native.Nat.{ℕ, ◌+◌, ◌*◌, ◌<◌, ◌≤◌}
use native.Mathlib.Omega.{arith}
use borrow.Author.Tests.{eq-eqb, ne_eqb, ltb-true, ltb-false}
use lib.Dec.{ltb}
use lib.ListN.{length, length-append}
use Rattle.sheet.specs.Sheet.{Grid}
use Rattle.listing.specs.Writing.{refused, text_into, listing_fault}
use Rattle.pages.specs.Line.{texts_fit, page_line, names, cell_texts}
use Rattle.pages.specs.Page.{inside_cells, page_cells, cell_lines, page_of, atlas_line, page_text}
use Rattle.pages.specs.Writing.{page_fits, page_into}
use Rattle.pages.proofs.PageLaws.{page_at_most, page_line_length, fit_length}

-- the line of names
pub names_fit : texts_fit names ≡ true
unfolding texts_fit
names_fit = refl

pub names_length : length (page_line names) ≡ 73
names_length = page_line_length names names_fit

-- a page of at least one cell begins with the line of names
pub page_parts : (line : ℕ → List ℕ) (cs : List ℕ) → 0 < length cs
    → page_of line cs ≡ page_line names ++ cell_lines line cs
unfolding page_of
page_parts line [] some = absurd (omega arith)
page_parts line (c ∷ cs) some = refl

pub no_page : (line : ℕ → List ℕ) (cs : List ℕ) → length cs ≡ 0 → page_of line cs ≡ []
unfolding page_of
no_page line [] none = refl
no_page line (c ∷ cs) none = absurd (omega arith)

pub page_none : (line : ℕ → List ℕ) (cs : List ℕ) → page_of line cs ≡ [] → cs ≡ []
unfolding page_of
page_none line [] e = refl
page_none line (c ∷ cs) e =
    let long : length (page_line names ++ cell_lines line (c ∷ cs)) ≡ 0 = ap length e in
    absurd (omega (arith, length-append (page_line names) (cell_lines line (c ∷ cs)), names_length))

module _ (G : Grid) (areas labels basins : List ℕ) (k : ℕ) where
  abbrev line : ℕ → List ℕ
  line = atlas_line G areas labels basins

  abbrev on_page : List ℕ
  on_page = page_cells k (inside_cells G)

  -- a line for each cell, and one of names
  pub page_length : page_fits G areas labels basins k ≡ true → 0 < length on_page
      → length (page_text G areas labels basins k) ≡ 73 * (length on_page + 1)
  unfolding page_text page_fits atlas_line
  page_length fits some =
      omega (
        arith,
        ap length (page_parts line on_page some),
        length-append (page_line names) (cell_lines line on_page),
        names_length,
        fit_length (cell_texts G areas labels basins) on_page fits,
      )

  -- a page has at most 60 lines
  pub page_most : page_fits G areas labels basins k ≡ true → length (page_text G areas labels basins k) ≤ 4380
  unfolding page_text
  page_most fits = go (ltb 0 (length on_page)) refl
    where
      go : (t : Bool) → ltb 0 (length on_page) ≡ t → length (page_text G areas labels basins k) ≤ 4380
      go true e =
          omega (
            arith,
            page_length fits (ltb-true 0 (length on_page) e),
            page_at_most k (inside_cells G),
          )
      go false e =
          let none : length on_page ≡ 0 = omega (arith, ltb-false 0 (length on_page) e) in
          omega (arith, ap length (no_page line on_page none))

  module _ (buffer : List ℕ) where
    pub refused_fault : {fault : ℕ} → fault ≡ listing_fault G areas labels basins → (fault ≡ 0 → ⊥)
        → refused fault buffer ≡ page_into G areas labels basins k buffer
    unfolding page_into
    refused_fault {fault} e some = rw (← e, ne_eqb fault 0 some)

    module _ (none : listing_fault G areas labels basins ≡ 0) where
      pub too_wide_lem : page_fits G areas labels basins k ≡ false
          → refused 3 buffer ≡ page_into G areas labels basins k buffer
      unfolding page_into
      too_wide_lem e = rw (eq-eqb (listing_fault G areas labels basins) 0 none, e)

      -- all checks but that of the buffer are passed
      pub page_into_lem : page_fits G areas labels basins k ≡ true
          → page_into G areas labels basins k buffer ≡ text_into (page_text G areas labels basins k) buffer
      unfolding page_into
      page_into_lem e = rw (eq-eqb (listing_fault G areas labels basins) 0 none, e)
