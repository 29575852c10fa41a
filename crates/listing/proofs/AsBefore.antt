-- A sheet of one basin is listed as before, with its column in front. Where each label is one number, the listing
-- without basins is document 01's.
use mathlib.Core.Path.{◌≡◌, refl, sym, ap, ◌∙◌}
use mathlib.Core.Bool.{Bool, true, false}
use mathlib.Core.List.{List, [], ◌∷◌, ◌++◌, append_assoc, append-nil}
use Prim.Native.Nat.{ℕ, zero, suc, ◌+◌, ◌/◌, ◌%◌, ◌^◌, ◌<◌}
use native.Mathlib.Omega.{arith}
use borrow.Author.Tests.{ne_eqb}
use lib.ListN.{length, get_or, length-append}
use Rattle.decimal.specs.Ascii.{ascii, digit_zero, comma, line_feed}
use Rattle.decimal.specs.Text.{decimal_text}
use Rattle.decimal.proofs.TextLaws.{text_induction}
use Rattle.sheet.specs.declared.Label.{Label}
use Rattle.sheet.specs.Record.{digits_of, label_of_numbers, label_at}
use Rattle.sheet.specs.Sheet.{Grid, cells, inside}
use Rattle.listing.specs.Listing.{digit_bytes, digits_text, label_text, field, cell_line, line_of, inside_line}
use Rattle.listing.specs.Listing.{listing_heading, lines_below, listing_text}
use Rattle.listing.specs.AsBefore.{heading_before, line_before, line_before_of, listing_before, label_texts}
use Rattle.listing.specs.AsBefore.{number_texts, listing_of_numbers, in_front, with_basin1, OneBasin}
use Rattle.listing.proofs.LabelText.{text_of_first}
use Rattle.listing.proofs.Lengths.{lines_same}

-- ---- texts without a line feed

abbrev pub OneLine : List ℕ → Type 0
OneLine [] = Unit
OneLine (b ∷ s) = (line_feed < b) × OneLine s

pub one_line_join : (s t : List ℕ) → OneLine s → OneLine t → OneLine (s ++ t)
one_line_join [] t a b = b
one_line_join (x ∷ s) t a b = (a.0, one_line_join s t a.1 b)

pub number_line : (n : ℕ) → OneLine (decimal_text n)
number_line =
    text_induction (λ (n : ℕ) (s : List ℕ). OneLine s) (λ n h. (omega arith, tt))
    (λ n h ih. one_line_join (decimal_text (n / 10)) ((digit_zero + n % 10) ∷ []) ih (omega arith, tt))

bytes_line : (x : List ℕ) → OneLine (digit_bytes x)
unfolding digit_bytes
bytes_line [] = tt
bytes_line (a ∷ x) = (omega arith, bytes_line x)

digits_line : (x : List ℕ) → OneLine (digits_text x)
unfolding digits_text
digits_line [] = (omega arith, tt)
digits_line (a ∷ x) = bytes_line (a ∷ x)

pub label_line : (p : Label) → OneLine (label_text p)
unfolding label_text
label_line p = digits_line (digits_of p)

-- ---- a column in front of a line

module _ (value : List ℕ) where
  -- nothing stands in front of later bytes of a line
  within_line : (s rest : List ℕ) → OneLine s → in_front [] value (s ++ rest) ≡ s ++ in_front [] value rest
  unfolding in_front
  within_line [] rest o = refl
  within_line (b ∷ s) rest o =
      rw (ne_eqb b line_feed (λ e. omega (arith, o.0)))
      (ap (λ (t : List ℕ). b ∷ t) (within_line s rest o.1))

  front_once : (front s : List ℕ) → 0 < length s → in_front front value s ≡ front ++ in_front [] value s
  unfolding in_front
  front_once front [] some = absurd (omega arith)
  front_once front (b ∷ s) some = refl

  -- a text that ends with the line feed of its one line
  abbrev WholeLine : List ℕ → Type 0
  WholeLine s = (rest : List ℕ) → in_front [] value (s ++ rest) ≡ s ++ in_front value value rest

  last_field : (s : List ℕ) → OneLine s → WholeLine (field s line_feed)
  unfolding field in_front
  last_field s o rest =
      ap (in_front [] value) (append_assoc s (line_feed ∷ []) rest)
      ∙ within_line s (line_feed ∷ rest) o
      ∙ sym (append_assoc s (line_feed ∷ []) (in_front value value rest))

  earlier_field : (s t : List ℕ) → OneLine s → WholeLine t → WholeLine (field s comma ++ t)
  unfolding field
  earlier_field s t o w rest =
      let f : List ℕ = s ++ (comma ∷ []) in
      ap (in_front [] value) (append_assoc f t rest)
      ∙ within_line f (t ++ rest) (one_line_join s (comma ∷ []) o (omega arith, tt))
      ∙ ap (λ (u : List ℕ). f ++ u) (w rest)
      ∙ sym (append_assoc f t (in_front value value rest))

  module _ (row col area : ℕ) (label : List ℕ) (o : OneLine label) where
    whole_line : WholeLine (line_before row col area label)
    unfolding line_before
    whole_line =
        earlier_field (decimal_text row) _ (number_line row)
        (earlier_field (decimal_text col) _ (number_line col)
        (earlier_field (decimal_text area) _ (number_line area) (last_field label o)))

    line_some : (rest : List ℕ) → 0 < length (line_before row col area label ++ rest)
    unfolding line_before field
    line_some rest = simp length-append (omega arith)

    line_in_front : (front rest : List ℕ) → in_front front value (line_before row col area label ++ rest)
        ≡ front ++ (line_before row col area label ++ in_front value value rest)
    line_in_front front rest =
        front_once front (line_before row col area label ++ rest) (line_some rest)
        ∙ ap (λ (u : List ℕ). front ++ u) (whole_line rest)

-- ---- the lines of a sheet of one basin

module _ (G : Grid) (areas labels basins : List ℕ) (one : (c : ℕ) → inside G c ≡ true → get_or basins c 0 ≡ 1) where
  abbrev before : ℕ → List ℕ
  before = line_before_of G areas (label_texts labels)

  abbrev now : ℕ → List ℕ
  now = line_of G areas labels basins

  inside_in_front : (c : ℕ) → inside G c ≡ true → (rest : List ℕ)
      → in_front (ascii "1,") (ascii "1,") (before c ++ rest) ≡ now c ++ in_front (ascii "1,") (ascii "1,") rest
  unfolding line_of cell_line line_before label_texts
  inside_in_front c e rest =
      rw (one c e)
      (line_in_front (ascii "1,") (c / G.cols) (c % G.cols) (get_or areas c 0) (label_text (label_at labels c))
      (label_line (label_at labels c)) (ascii "1,") rest)

  cell_in_front : (c : ℕ) (rest : List ℕ) → in_front (ascii "1,") (ascii "1,") (inside_line G before c ++ rest)
      ≡ inside_line G now c ++ in_front (ascii "1,") (ascii "1,") rest
  unfolding inside_line
  cell_in_front c rest = go (inside G c) refl
    where
      go : (t : Bool) → inside G c ≡ t → in_front (ascii "1,") (ascii "1,") (inside_line G before c ++ rest)
          ≡ inside_line G now c ++ in_front (ascii "1,") (ascii "1,") rest
      go false e = rw e
      go true e = rw e (inside_in_front c e rest)

  lines_in_front : (n : ℕ) (rest : List ℕ) → in_front (ascii "1,") (ascii "1,") (lines_below G before n ++ rest)
      ≡ lines_below G now n ++ in_front (ascii "1,") (ascii "1,") rest
  unfolding lines_below
  lines_in_front zero rest = refl
  lines_in_front (suc n) rest =
      ap (in_front (ascii "1,") (ascii "1,")) (append_assoc (lines_below G before n) (inside_line G before n) rest)
      ∙ lines_in_front n (inside_line G before n ++ rest)
      ∙ ap (λ (u : List ℕ). lines_below G now n ++ u) (cell_in_front n rest)
      ∙ sym
      (append_assoc (lines_below G now n) (inside_line G now n) (in_front (ascii "1,") (ascii "1,") rest))

  heading_in_front : (rest : List ℕ) → with_basin1 (heading_before ++ rest)
      ≡ listing_heading ++ in_front (ascii "1,") (ascii "1,") rest
  unfolding in_front
  heading_in_front rest = refl

  all_in_front : in_front (ascii "1,") (ascii "1,") (lines_below G before (cells G)) ≡ lines_below G now (cells G)
  unfolding in_front
  all_in_front =
      ap (in_front (ascii "1,") (ascii "1,")) (sym (append-nil (lines_below G before (cells G))))
      ∙ lines_in_front (cells G) []
      ∙ append-nil (lines_below G now (cells G))

  column_alone : listing_text G areas labels basins ≡ with_basin1 (listing_before G areas (label_texts labels))
  unfolding listing_text listing_before
  column_alone =
      sym
      (heading_in_front (lines_below G before (cells G))
      ∙ ap (λ (u : List ℕ). listing_heading ++ u) all_in_front)

pub one_basin : OneBasin
one_basin = record { column_alone = column_alone }

-- ---- labels that are one number each

module _ (G : Grid) (areas labels numbers : List ℕ)
    (fits : (c : ℕ) → inside G c ≡ true → get_or numbers c 0 < 2 ^ 64)
    (one : (c : ℕ) → inside G c ≡ true → label_at labels c ≡ label_of_numbers (get_or numbers c 0) 0) where
  text_same : (c : ℕ) → inside G c ≡ true → label_texts labels c ≡ number_texts numbers c
  unfolding label_texts number_texts
  text_same c e = rw (one c e) (text_of_first (label_of_numbers (get_or numbers c 0) 0) (fits c e) refl)

  pub numbers_as_before : listing_before G areas (label_texts labels) ≡ listing_of_numbers G areas numbers
  unfolding listing_before listing_of_numbers
  numbers_as_before =
      ap (λ (s : List ℕ). heading_before ++ s)
      (lines_same G (line_before_of G areas (label_texts labels)) (line_before_of G areas (number_texts numbers))
      (λ c e. ap (line_before (c / G.cols) (c % G.cols) (get_or areas c 0)) (text_same c e)) (cells G))
