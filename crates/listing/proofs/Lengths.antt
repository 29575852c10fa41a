-- How many bytes the texts have: what each line adds, and the most that a text can have.
use mathlib.Core.Path.{◌≡◌, refl, ap}
use mathlib.Core.Bool.{Bool, true, false}
use mathlib.Core.Logic.{⊎_elim}
use mathlib.Core.List.{List, [], ◌∷◌, ◌++◌, append-nil}
use Prim.Native.Nat.{ℕ, zero, suc, ◌+◌, ◌*◌, ◌/◌, ◌%◌, ◌^◌, ◌<◌, ◌≤◌}
use native.Mathlib.Numerals.{add-one}
use native.Mathlib.Nat.{mod-lt, suc-mul, eq-or-lt_of_le}
use native.Mathlib.Omega.{arith}
use lib.ListN.{length, get_or, drop, length-append, get_or-append}
use Rattle.decimal.specs.Text.{decimal_text}
use Rattle.decimal.proofs.TextLaws.{text_few, text_64_bit}
use Rattle.sheet.specs.declared.Label.{Label}
use Rattle.sheet.specs.Record.{digits_of, label_at}
use Rattle.sheet.specs.Sheet.{Grid, cells, dir_at, inside}
use Rattle.sheet.specs.Refusal.{written}
use Rattle.sheet.proofs.Cells.{inside_no, inside_yes, inside_lt, row_lt, cells_most}
use Rattle.sheet.proofs.Slices.{numbers_enough, label_kept}
use Rattle.listing.specs.Listing.{listing_heading, label_text, field, cell_line, line_of, inside_line}
use Rattle.listing.specs.Listing.{lines_below, listing_text, refusal_text}
use Rattle.listing.proofs.LabelText.{label_few, label_most}

pub field_length : (text : List ℕ) (after : ℕ) → length (field text after) ≡ length text + 1
unfolding field
field_length text after = length-append text (after ∷ [])

pub cell_length_lem : (basin row col area : ℕ) (label : List ℕ) → length (cell_line basin row col area label)
    ≡ length (decimal_text basin) + length (decimal_text row) + length (decimal_text col) + length (decimal_text area)
    + length label + 5
unfolding cell_line
cell_length_lem basin row col area label = simp length-append (omega arith)

pub refusal_length : (number place : ℕ) → length (refusal_text number place)
    ≡ 14 + length (decimal_text number) + length (decimal_text place) + 2
unfolding refusal_text
refusal_length number place = simp length-append (omega arith)

-- a refusal's text has at most 14 + 3 + 1 + 20 + 1 bytes
pub refusal_most : (number place : ℕ) → number < 256 → place < 2 ^ 64 → length (refusal_text number place) ≤ 39
refusal_most number place h g =
    omega (arith, refusal_length number place, text_few 3 number (omega arith) (omega arith), text_64_bit place g)

-- the line of a cell whose label was read from a slice
pub line_of_lem : (G : Grid) (areas labels basins : List ℕ) (c : ℕ) (p : Label) → p ≡ label_at labels c
    → cell_line (get_or basins c 0) (c / G.cols) (c % G.cols) (get_or areas c 0) (label_text p)
    ≡ line_of G areas labels basins c
unfolding line_of
line_of_lem G areas labels basins c p e =
    ap (λ (q : Label). cell_line (get_or basins c 0) (c / G.cols) (c % G.cols) (get_or areas c 0) (label_text q)) e

some_cols : (rows cols c : ℕ) → c < rows * cols → 0 < cols
some_cols rows zero c h = absurd (omega arith)
some_cols rows (suc cols) c h = omega arith

-- ---- the lines of the first cells

module _ (G : Grid) (line : ℕ → List ℕ) where
  -- an outside cell adds no line
  pub lines_outside : (c : ℕ) → dir_at G c ≡ 0 → lines_below G line (c + 1) ≡ lines_below G line c
  unfolding lines_below
  lines_outside c e = rw (add-one, inside_no G c e, append-nil)

  -- an inside cell adds its line
  pub lines_inside : (c : ℕ) → c < cells G → (dir_at G c ≡ 0 → ⊥)
      → lines_below G line (c + 1) ≡ lines_below G line c ++ line c
  unfolding lines_below
  lines_inside c l ne = rw (add-one, inside_yes G c l ne)

  pub lines_inside_length : (c : ℕ) → c < cells G → (dir_at G c ≡ 0 → ⊥)
      → length (lines_below G line (c + 1)) ≡ length (lines_below G line c) + length (line c)
  lines_inside_length c l ne = rw (lines_inside c l ne) (length-append (lines_below G line c) (line c))

  -- the lines of more cells have no fewer bytes
  pub lines_grow : (c n : ℕ) → c ≤ n → length (lines_below G line c) ≤ length (lines_below G line n)
  unfolding lines_below
  lines_grow c zero h = let e : c ≡ 0 = omega arith in rw e (omega arith)
  lines_grow c (suc n) h =
      ⊎_elim (λ e. rw e (omega arith)) (λ lt. simp length-append (omega (arith, lines_grow c n (omega arith))))
      (eq-or-lt_of_le h)

  -- lines of at most so many bytes
  module _ (most : ℕ) (line_most : (c : ℕ) → inside G c ≡ true → length (line c) ≤ most) where
    inside_most : (c : ℕ) → length (inside_line G line c) ≤ most
    unfolding inside_line
    inside_most c = go (inside G c) refl
      where
        go : (t : Bool) → inside G c ≡ t → length (inside_line G line c) ≤ most
        go false e = rw e (omega arith)
        go true e = rw e (line_most c e)

    pub lines_most : (n : ℕ) → length (lines_below G line n) ≤ n * most
    unfolding lines_below
    lines_most zero = omega arith
    lines_most (suc n) = simp length-append (omega (arith, lines_most n, inside_most n, suc-mul n most))

-- ---- bounds for the values that occur

-- areas below 10 ^ a, labels of at most b bytes, basins below 10 ^ d
pub record Bounded (G : Grid) (areas labels basins : List ℕ) (a b d : ℕ) : Type 0 where
  pub rows_most : G.rows ≤ 256
  pub cols_most : G.cols ≤ 256
  pub area_digits : 0 < a
  pub basin_digits_lem : 0 < d
  pub areas_below : (c : ℕ) → inside G c ≡ true → get_or areas c 0 < 10 ^ a
  pub labels_short : (c : ℕ) → inside G c ≡ true → length (label_text (label_at labels c)) ≤ b
  pub basins_below : (c : ℕ) → inside G c ≡ true → get_or basins c 0 < 10 ^ d

module _ (G : Grid) (areas labels basins : List ℕ) where
  pub listing_length : length (listing_text G areas labels basins)
      ≡ 25 + length (lines_below G (line_of G areas labels basins) (cells G))
  unfolding listing_text
  listing_length = simp length-append (omega arith)

  module _ {a b d : ℕ} (bounded : Bounded G areas labels basins a b d) where
    -- d digits for the basin, three each for row and column, a for the area, b bytes of label, four commas and a line
    -- feed
    line_most : (c : ℕ) → inside G c ≡ true → length (line_of G areas labels basins c) ≤ 11 + a + b + d
    unfolding line_of
    line_most c e =
        let l = inside_lt G c e in
        let some = some_cols G.rows G.cols c l in
        rw cell_length_lem
        (omega (
          arith,
          text_few d (get_or basins c 0) bounded.basin_digits_lem (bounded.basins_below c e),
          text_few 3 (c / G.cols) (omega arith) (omega (arith, row_lt some l, bounded.rows_most)),
          text_few 3 (c % G.cols) (omega arith) (omega (arith, mod-lt c some, bounded.cols_most)),
          text_few a (get_or areas c 0) bounded.area_digits (bounded.areas_below c e),
          bounded.labels_short c e,
        ))

    bounded_lines : (n : ℕ) → length (lines_below G (line_of G areas labels basins) n) ≤ n * (11 + a + b + d)
    bounded_lines n = lines_most G (line_of G areas labels basins) (11 + a + b + d) line_most n

  module _ (rows_most : G.rows ≤ 256) (cols_most : G.cols ≤ 256) where
    -- any areas and basins of 32 bits and any labels
    module _ (small : (c : ℕ) → get_or areas c 0 < 2 ^ 32) (low : (c : ℕ) → get_or basins c 0 < 2 ^ 32) where
      bounded_any : Bounded G areas labels basins 10 40 10
      bounded_any = record {
        rows_most = rows_most;
        cols_most = cols_most;
        area_digits = omega arith;
        basin_digits_lem = omega arith;
        areas_below = λ c e. omega (arith, small c);
        labels_short = λ c e. label_most (label_at labels c);
        basins_below = λ c e. omega (arith, low c);
      }

      pub lines_fit : (n : ℕ) → n ≤ cells G → length (lines_below G (line_of G areas labels basins) n) ≤ 4653056
      lines_fit n h = omega (arith, bounded_lines bounded_any n, cells_most rows_most cols_most)

    -- areas of up to 8 digits, labels of up to 36 and basins of up to 5: at most 60 bytes a line
    module _ (small : (c : ℕ) → inside G c ≡ true → get_or areas c 0 < 10 ^ 8)
        (short : (c : ℕ) → inside G c ≡ true → length (digits_of (label_at labels c)) ≤ 36)
        (low : (c : ℕ) → inside G c ≡ true → get_or basins c 0 < 10 ^ 5) where
      bounded_36_digits : Bounded G areas labels basins 8 36 5
      bounded_36_digits = record {
        rows_most = rows_most;
        cols_most = cols_most;
        area_digits = omega arith;
        basin_digits_lem = omega arith;
        areas_below = small;
        labels_short = λ c e. label_few 36 (label_at labels c) (omega arith) (short c e);
        basins_below = low;
      }

      pub listing_most_36_digits : length (listing_text G areas labels basins) ≤ 25 + cells G * 60
      listing_most_36_digits = omega (arith, listing_length, bounded_lines bounded_36_digits (cells G))

-- ---- the text depends on what stands for the inside cells alone

module _ (G : Grid) (line line' : ℕ → List ℕ) (same : (c : ℕ) → inside G c ≡ true → line c ≡ line' c) where
  line_same : (c : ℕ) → inside_line G line c ≡ inside_line G line' c
  unfolding inside_line
  line_same c = go (inside G c) refl
    where
      go : (t : Bool) → inside G c ≡ t → inside_line G line c ≡ inside_line G line' c
      go false e = rw e
      go true e = rw (e, same c e)

  pub lines_same : (n : ℕ) → lines_below G line n ≡ lines_below G line' n
  unfolding lines_below
  lines_same zero = refl
  lines_same (suc n) = rw (lines_same n, line_same n)

-- what labelling leaves in longer slices is listed as the areas, labels and basins themselves
module _ (G : Grid) (areas areas' labels labels' basins basins' : List ℕ) (areas_length : length areas ≡ cells G)
    (labels_length : length labels ≡ 2 * cells G) (basins_length : length basins ≡ cells G) where
  line_written : (c : ℕ) → inside G c ≡ true
      → line_of G (written areas areas') (written labels labels') (written basins basins') c
      ≡ line_of G areas labels basins c
  unfolding line_of
  line_written c e =
      rw (
        get_or-append areas (drop (length areas) areas') 0 c (omega (arith, inside_lt G c e)),
        get_or-append basins (drop (length basins) basins') 0 c (omega (arith, inside_lt G c e)),
        label_kept labels (drop (length labels) labels') c
            (numbers_enough (suc c) (length labels) (omega (arith, inside_lt G c e))),
      )

  pub listing_written : listing_text G (written areas areas') (written labels labels') (written basins basins')
      ≡ listing_text G areas labels basins
  unfolding listing_text
  listing_written = ap (λ (s : List ℕ). listing_heading ++ s) (lines_same G _ _ line_written (cells G))
