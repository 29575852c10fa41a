-- The lines of document 02's atlas page: that of the column names and that of a cell.
use Rattle.std.specs.Prelude.{Bool, List, [], ◌∷◌, ◌++◌, ℕ, ◌/◌, ◌%◌, leb, length, get_or}
use Rattle.decimal.specs.Ascii.{ascii, blank, line_feed}
use Rattle.decimal.specs.Text.{decimal_text}
use Rattle.sheet.specs.declared.Label.{Label}
use Rattle.sheet.specs.Record.{labels_in, label_at}
use Rattle.sheet.specs.Refusal.{both}
use Rattle.sheet.specs.Sheet.{Grid}
use Rattle.listing.specs.declared.CellValues.{CellValues}
use Rattle.listing.specs.Listing.{label_text}
use Rattle.pages.specs.Field.{to_right, to_left}

-- the texts of a line, one for each column
pub record Texts : Type 0 where
  pub basin : List ℕ
  pub row : List ℕ
  pub col : List ℕ
  pub area : List ℕ
  pub label : List ℕ

-- "basin in 5, row in 4, column in 4, area in 9, all to the right; label in 36, to the left; one blank between fields"
unfoldable pub fields : Texts → List ℕ
fields t =
    to_right 5 t.basin
    ++ (blank ∷ to_right 4 t.row
    ++ (blank ∷ to_right 4 t.col ++ (blank ∷ to_right 9 t.area ++ (blank ∷ to_left 36 t.label))))

-- each text is no wider than its field
unfoldable pub texts_fit : Texts → Bool
texts_fit t =
    both (leb (length t.basin) 5)
    (both (leb (length t.row) 4)
    (both (leb (length t.col) 4) (both (leb (length t.area) 9) (leb (length t.label) 36))))

-- a line without its line feed, "exactly 72 columns" where its texts fit: "blanks to the end"
unfoldable pub line_columns : Texts → List ℕ
line_columns t = to_left 72 (fields t)

-- with its line feed
unfoldable pub page_line : Texts → List ℕ
unfolding line_columns
page_line t = line_columns t ++ (line_feed ∷ [])

-- "the column names `basin`, `row`, `col`, `area`, `label`, set in the same fields and sides"
abbrev pub names : Texts
names = record {
  basin = ascii "basin";
  row = ascii "row";
  col = ascii "col";
  area = ascii "area";
  label = ascii "label";
}

-- the texts of a cell's values
unfoldable pub value_texts : ℕ → ℕ → ℕ → ℕ → Label → Texts
unfolding decimal_text label_text
value_texts basin row col area label = record {
  basin = decimal_text basin;
  row = decimal_text row;
  col = decimal_text col;
  area = decimal_text area;
  label = label_text label;
}

-- the same, of the values of a cell
abbrev pub texts_of : CellValues → Texts
texts_of v = value_texts v.basin v.row v.col v.area v.label

-- those of the cell c; its area, its label and its basin stand in slices, by cell number
unfoldable pub cell_texts : Grid → List ℕ → List ℕ → List ℕ → ℕ → Texts
unfolding value_texts labels_in
cell_texts G areas labels basins c =
    value_texts (get_or basins c 0) (c / G.cols) (c % G.cols) (get_or areas c 0) (label_at labels c)
