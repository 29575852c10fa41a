-- What holds of each inside cell holds of all cells of a page; and texts that depend on inside cells alone.
use mathlib.Core.Path.{◌≡◌, refl, ap}
use mathlib.Core.Bool.{Bool, true, false}
use mathlib.Core.List.{List, [], ◌∷◌, ◌++◌, append-nil}
use Prim.Native.Nat.{ℕ, zero, suc, ◌*◌}
use native.Mathlib.Omega.{arith}
use lib.ListN.{length, take, drop, get_or-append}
use Rattle.sheet.specs.Refusal.{written}
use Rattle.sheet.specs.Sheet.{Grid, cells, inside}
use Rattle.sheet.proofs.Cells.{inside_lt}
use Rattle.sheet.proofs.Slices.{numbers_enough, label_kept}
use Rattle.pages.specs.Line.{Texts, texts_fit, page_line, cell_texts}
use Rattle.pages.specs.Page.{inside_below, inside_cells, page_size, page_cells, atlas_from, atlas_line, atlas_text}
use Rattle.pages.specs.Writing.{all_fit, page_fits}

-- every cell of a list has a property
abbrev pub Every : (ℕ → Type 0) → List ℕ → Type 0
Every P [] = Unit
Every P (c ∷ cs) = P c × Every P cs

module _ (P : ℕ → Type 0) where
  every_join : (cs ds : List ℕ) → Every P cs → Every P ds → Every P (cs ++ ds)
  every_join [] ds a b = b
  every_join (c ∷ cs) ds a b = (a.0, every_join cs ds a.1 b)

  every_take : (n : ℕ) (cs : List ℕ) → Every P cs → Every P (take n cs)
  every_take zero cs a = tt
  every_take (suc n) [] a = tt
  every_take (suc n) (c ∷ cs) a = (a.0, every_take n cs a.1)

  every_drop : (n : ℕ) (cs : List ℕ) → Every P cs → Every P (drop n cs)
  every_drop zero cs a = a
  every_drop (suc n) [] a = tt
  every_drop (suc n) (c ∷ cs) a = every_drop n cs a.1

  every_on_page : (k : ℕ) (cs : List ℕ) → Every P cs → Every P (page_cells k cs)
  unfolding page_cells
  every_on_page zero cs a = tt
  every_on_page (suc k) cs a = every_take page_size (drop (k * page_size) cs) (every_drop (k * page_size) cs a)

  -- a property of the inside cells of a grid
  module _ (G : Grid) (each : (c : ℕ) → inside G c ≡ true → P c) where
    every_below : (n : ℕ) → Every P (inside_below G n)
    unfolding inside_below
    every_below zero = tt
    every_below (suc n) = go (inside G n) refl (every_below n)
      where
        go : (t : Bool) → inside G n ≡ t → Every P (inside_below G n) → Every P (inside_below G (suc n))
        go true e before = rw e (every_join (inside_below G n) (n ∷ []) before (each n e, tt))
        go false e before = rw (e, append-nil) before

    pub every_inside : Every P (inside_cells G)
    unfolding inside_cells
    every_inside = every_below (cells G)

    pub every_inside_on_page : (k : ℕ) → Every P (page_cells k (inside_cells G))
    every_inside_on_page k = every_on_page k (inside_cells G) every_inside

-- ---- values that fit

every_fit : (texts : ℕ → Texts) (cs : List ℕ) → Every (λ c. texts_fit (texts c) ≡ true) cs
    → all_fit texts cs ≡ true
unfolding all_fit
every_fit texts [] a = refl
every_fit texts (c ∷ cs) a = rw a.0 (every_fit texts cs a.1)

pub pages_fit : (G : Grid) (areas labels basins : List ℕ)
    → ((c : ℕ) → inside G c ≡ true → texts_fit (cell_texts G areas labels basins c) ≡ true) → (k : ℕ)
    → page_fits G areas labels basins k ≡ true
unfolding page_fits
pages_fit G areas labels basins fit k =
    every_fit (cell_texts G areas labels basins) (page_cells k (inside_cells G))
    (every_inside_on_page (λ c. texts_fit (cell_texts G areas labels basins c) ≡ true) G fit k)

-- ---- the same lines

atlas_same : (line line' : ℕ → List ℕ) (i : ℕ) (cs : List ℕ) → Every (λ c. line c ≡ line' c) cs
    → atlas_from i line cs ≡ atlas_from i line' cs
unfolding atlas_from
atlas_same line line' i [] a = refl
atlas_same line line' i (c ∷ cs) a = rw (a.0, atlas_same line line' (suc i) cs a.1)

-- what labelling leaves in longer slices has the texts of the areas, labels and basins themselves
module _ (G : Grid) (areas areas' labels labels' basins basins' : List ℕ) (areas_length : length areas ≡ cells G)
    (labels_length : length labels ≡ 2 * cells G) (basins_length : length basins ≡ cells G) where
  pub columns_written : (c : ℕ) → inside G c ≡ true
      → cell_texts G (written areas areas') (written labels labels') (written basins basins') c
      ≡ cell_texts G areas labels basins c
  unfolding cell_texts
  columns_written c e =
      rw (
        get_or-append areas (drop (length areas) areas') 0 c (omega (arith, inside_lt G c e)),
        get_or-append basins (drop (length basins) basins') 0 c (omega (arith, inside_lt G c e)),
        label_kept labels (drop (length labels) labels') c
            (numbers_enough (suc c) (length labels) (omega (arith, inside_lt G c e))),
      )

  line_written : (c : ℕ) → inside G c ≡ true
      → atlas_line G (written areas areas') (written labels labels') (written basins basins') c
      ≡ atlas_line G areas labels basins c
  unfolding atlas_line
  line_written c e = ap page_line (columns_written c e)

  pub atlas_written : atlas_text G (written areas areas') (written labels labels') (written basins basins')
      ≡ atlas_text G areas labels basins
  unfolding atlas_text
  atlas_written = atlas_same _ _ 0 (inside_cells G) (every_inside _ G line_written)
