-- The listing as it was before basins; document 01's, in which a label is one decimal number; and the column that a
-- sheet of one basin has in front of it.
use Rattle.std.specs.Prelude.{◌≡◌, true, cond, List, [], ◌∷◌, ◌++◌, ℕ, ◌/◌, ◌%◌, eqb, get_or}
use Rattle.decimal.specs.Ascii.{ascii, comma, line_feed}
use Rattle.decimal.specs.Text.{decimal_text}
use Rattle.sheet.specs.Record.{labels_in, label_at}
use Rattle.sheet.specs.Sheet.{Grid, cells, inside}
use Rattle.listing.specs.Listing.{label_text, field, lines_below, listing_text}

-- ---- without basins

abbrev pub heading_before : List ℕ
heading_before = ascii "row,col,area,label" ++ (line_feed ∷ [])

-- the line of a cell, with its line feed; the label as text
unfoldable pub line_before : ℕ → ℕ → ℕ → List ℕ → List ℕ
unfolding field decimal_text
line_before row col area label =
    field (decimal_text row) comma
    ++ (field (decimal_text col) comma ++ (field (decimal_text area) comma ++ field label line_feed))

-- the line of the cell c; areas stand in their list, and the labels' texts are given, by cell number
abbrev pub line_before_of : Grid → List ℕ → (ℕ → List ℕ) → ℕ → List ℕ
line_before_of G areas labels c = line_before (c / G.cols) (c % G.cols) (get_or areas c 0) (labels c)

unfoldable pub listing_before : Grid → List ℕ → (ℕ → List ℕ) → List ℕ
unfolding lines_below line_before
listing_before G areas labels = heading_before ++ lines_below G (line_before_of G areas labels) (cells G)

-- the texts of labels that stand in a slice, by cell number
unfoldable pub label_texts : List ℕ → ℕ → List ℕ
unfolding label_text labels_in
label_texts labels c = label_text (label_at labels c)

-- ---- document 01's

-- the texts of labels that are one number each, by cell number
unfoldable pub number_texts : List ℕ → ℕ → List ℕ
unfolding decimal_text
number_texts numbers c = decimal_text (get_or numbers c 0)

-- "`label` is written as a decimal number"
unfoldable pub listing_of_numbers : Grid → List ℕ → List ℕ → List ℕ
unfolding listing_before number_texts
listing_of_numbers G areas numbers = listing_before G areas (number_texts numbers)

-- ---- a column in front

-- a text with something in front of its first byte, and a value in front of each byte that follows a line feed
unfoldable pub in_front : List ℕ → List ℕ → List ℕ → List ℕ
in_front front value [] = []
in_front front value (b ∷ text) = front ++ b ∷ in_front (cond (eqb b line_feed) value []) value text

-- the column of a sheet of one basin: its name in front of the first line, and 1 in front of each other
abbrev pub with_basin1 : List ℕ → List ℕ
with_basin1 text = in_front (ascii "basin,") (ascii "1,") text

-- where all inside cells are of basin 1, the listing differs by that column alone
pub record OneBasin : Type 0 where
  pub column_alone : (G : Grid) (areas labels basins : List ℕ)
      → ((c : ℕ) → inside G c ≡ true → get_or basins c 0 ≡ 1)
      → listing_text G areas labels basins ≡ with_basin1 (listing_before G areas (label_texts labels))
