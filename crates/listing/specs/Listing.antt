-- The text of document 01's listing, with document 02's labels and basins, and of a refusal.
use Rattle.std.specs.Prelude.{cond, List, [], ◌∷◌, ◌++◌, ℕ, zero, suc, ◌+◌, ◌/◌, ◌%◌, get_or}
use Rattle.decimal.specs.Ascii.{ascii, digit_zero, comma, line_feed}
use Rattle.decimal.specs.Text.{decimal_text}
use Rattle.sheet.specs.declared.Label.{Label}
use Rattle.sheet.specs.Record.{digits_of, labels_in, label_at}
use Rattle.sheet.specs.Sheet.{Grid, cells, inside}

abbrev pub listing_heading : List ℕ
listing_heading = ascii "basin,row,col,area,label" ++ (line_feed ∷ [])

abbrev pub refusal_heading : List ℕ
refusal_heading = ascii "refused,place" ++ (line_feed ∷ [])

-- ---- a label

-- digits, each as its byte, "joined with no gap"
unfoldable pub digit_bytes : List ℕ → List ℕ
digit_bytes [] = []
digit_bytes (a ∷ x) = (digit_zero + a) ∷ digit_bytes x

-- "the digits joined with no gap, or one 0 where there are none"
unfoldable pub digits_text : List ℕ → List ℕ
unfolding digit_bytes
digits_text [] = digit_zero ∷ []
digits_text (a ∷ x) = digit_bytes (a ∷ x)

unfoldable pub label_text : Label → List ℕ
unfolding digits_of digits_text
label_text label = digits_text (digits_of label)

-- ---- lines

-- a text, and the byte after it
unfoldable pub field : List ℕ → ℕ → List ℕ
field text after = text ++ (after ∷ [])

-- the line of a cell, with its line feed: "the listing begins with a column `basin`"; the label as text
unfoldable pub cell_line : ℕ → ℕ → ℕ → ℕ → List ℕ → List ℕ
unfolding field decimal_text
cell_line basin row col area label =
    field (decimal_text basin) comma
    ++ (field (decimal_text row) comma
    ++ (field (decimal_text col) comma ++ (field (decimal_text area) comma ++ field label line_feed)))

-- the line of the cell c; its area, its label and its basin stand in slices, by cell number
unfoldable pub line_of : Grid → List ℕ → List ℕ → List ℕ → ℕ → List ℕ
unfolding cell_line label_text labels_in
line_of G areas labels basins c =
    cell_line (get_or basins c 0) (c / G.cols) (c % G.cols) (get_or areas c 0) (label_text (label_at labels c))

-- "inside cells only"; the lines are given by cell number
unfoldable pub inside_line : Grid → (ℕ → List ℕ) → ℕ → List ℕ
unfolding inside
inside_line G line c = let text : List ℕ = line c in cond (inside G c) text []

-- the lines of the first n cells, in reading order
unfoldable pub lines_below : Grid → (ℕ → List ℕ) → ℕ → List ℕ
unfolding inside_line
lines_below G line zero = []
lines_below G line (suc n) = lines_below G line n ++ inside_line G line n

-- "the listing, in reading order, inside cells only, each printed line ended by a line feed"
unfoldable pub listing_text : Grid → List ℕ → List ℕ → List ℕ → List ℕ
unfolding lines_below line_of
listing_text G areas labels basins = listing_heading ++ lines_below G (line_of G areas labels basins) (cells G)

-- after a refusal: "only `refused,place` and a line of the two values"
unfoldable pub refusal_text : ℕ → ℕ → List ℕ
unfolding field decimal_text
refusal_text number place =
    refusal_heading ++ (field (decimal_text number) comma ++ field (decimal_text place) line_feed)
