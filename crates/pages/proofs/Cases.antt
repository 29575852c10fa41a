-- The definitions tried by computation.
use mathlib.Core.Path.{◌≡◌, refl}
use mathlib.Core.Bool.{true, false}
use mathlib.Core.List.{List, [], ◌∷◌, ◌++◌, map}
use Prim.Native.Nat.{ℕ}
use Prim.Native.String.{String}
use lib.ListN.{length, replicate}
use Rattle.decimal.specs.Ascii.{ascii, line_feed}
use Rattle.sheet.specs.declared.Label.{Label}
use Rattle.sheet.specs.Record.{label_of_numbers}
use Rattle.sheet.specs.Sheet.{Grid, grid}
use Rattle.sheet.specs.Basins.{basin_areas, basin_labels, basins_of}
use Rattle.sheet.specs.Cases.{sample_a, sheet}
use Rattle.listing.specs.Writing.{Listed, refused}
use Rattle.pages.specs.Field.{to_right, to_left}
use Rattle.pages.specs.Line.{fields, line_columns, texts_fit, names, page_line, value_texts}
use Rattle.pages.specs.Page.{inside_cells, page_cells, page_count, page_text}
use Rattle.pages.specs.Writing.{page_into, page_fits}
use Rattle.std.specs.Prelude.{Ok}

-- ---- lines

-- the bytes of lines, each ended by a line feed
abbrev lines : List String → List ℕ
lines [] = []
lines (s ∷ ss) = ascii s ++ (line_feed ∷ lines ss)

abbrev names_text : String
names_text = "basin  row  col      area label                                         "

pub names_line_lem : page_line names ≡ lines (names_text ∷ [])
unfolding page_line fields to_right to_left
names_line_lem = refl

-- a label of 36 digits
abbrev label36 : Label
label36 = label_of_numbers 999999999999999999 888888888888888888

pub widest_line : line_columns (value_texts 99999 255 255 999999999 label36)
    ≡ ascii "99999  255  255 999999999 999999999999999999888888888888888888          "
unfolding line_columns fields to_right to_left value_texts
widest_line = refl

-- its values; one more in the basin, in the area; labels of 37 and of 40 digits
pub fit_or_not : map texts_fit
    (value_texts 99999 255 255 999999999 label36
    ∷ value_texts 100000 255 255 999999999 label36
    ∷ value_texts 99999 255 255 1000000000 label36
    ∷ value_texts 1 0 0 1 (label_of_numbers 1111111111111111111 222222222222222222)
    ∷ value_texts 1 0 0 1 (label_of_numbers 18446744073709551615 18446744073709551615)
    ∷ [])
    ≡ true ∷ false ∷ false ∷ false ∷ false ∷ []
unfolding texts_fit value_texts
fit_or_not = refl

-- ---- pages

-- a row of n inside cells
abbrev row_of : ℕ → Grid
row_of n = grid 1 n (replicate n 1)

-- how many pages a row of n inside cells has, and how many cells the first three have
abbrev counts : ℕ → List ℕ
counts n =
    let cs : List ℕ = inside_cells (row_of n) in
    page_count cs ∷ length (page_cells 1 cs) ∷ length (page_cells 2 cs) ∷ length (page_cells 3 cs) ∷ []

pub page_counts : map counts (1 ∷ 58 ∷ 59 ∷ 60 ∷ 118 ∷ 119 ∷ [])
    ≡ ((1 ∷ 1 ∷ 0 ∷ 0 ∷ [])
    ∷ (1 ∷ 58 ∷ 0 ∷ 0 ∷ [])
    ∷ (1 ∷ 59 ∷ 0 ∷ 0 ∷ [])
    ∷ (2 ∷ 59 ∷ 1 ∷ 0 ∷ [])
    ∷ (2 ∷ 59 ∷ 59 ∷ 0 ∷ [])
    ∷ (3 ∷ 59 ∷ 59 ∷ 1 ∷ [])
    ∷ [])
unfolding page_count page_cells inside_cells
page_counts = refl

-- the first cell after 59 begins page 2
pub next_page : page_cells 2 (inside_cells (row_of 61)) ≡ 59 ∷ 60 ∷ []
unfolding page_cells inside_cells
next_page = refl

-- ---- sample A at depth 2

abbrev sample_text : ℕ → List ℕ
sample_text k = page_text sample_a (basin_areas (sheet sample_a 2)) (basin_labels (sheet sample_a 2)) (basins_of sample_a) k

abbrev pub sample_page : List ℕ
sample_page =
    lines
    (names_text
    ∷ "    1    0    1         2 8                                             "
    ∷ "    1    0    2         1 8                                             "
    ∷ "    1    0    3         1 92                                            "
    ∷ "    1    1    0        11 1                                             "
    ∷ "    1    1    1         9 3                                             "
    ∷ "    1    1    2         4 91                                            "
    ∷ "    1    1    3         2 93                                            "
    ∷ "    1    2    0         1 2                                             "
    ∷ "    1    2    1         1 4                                             "
    ∷ "    1    2    2         1 6                                             "
    ∷ "    1    2    3         1 93                                            "
    ∷ [])

pub sample_page_lem : map sample_text (0 ∷ 1 ∷ 2 ∷ []) ≡ [] ∷ sample_page ∷ [] ∷ []
unfolding page_text fields to_right to_left basin_areas basin_labels basins_of
sample_page_lem = refl

-- in a buffer of so many dots
abbrev sample_into : ℕ → ℕ → Listed
sample_into k room =
    page_into sample_a (basin_areas (sheet sample_a 2)) (basin_labels (sheet sample_a 2)) (basins_of sample_a) k
    (replicate room 46)

pub room_to_spare : sample_into 1 878 ≡ record { answer = Ok 876; buffer = sample_page ++ (46 ∷ 46 ∷ []) }
unfolding page_into fields to_right to_left basin_areas basin_labels basins_of
room_to_spare = refl

pub just_room : sample_into 1 876 ≡ record { answer = Ok 876; buffer = sample_page }
unfolding page_into fields to_right to_left basin_areas basin_labels basins_of
just_room = refl

pub one_byte_short : sample_into 1 875 ≡ refused 3 (replicate 875 46)
unfolding page_into fields to_right to_left basin_areas basin_labels basins_of
one_byte_short = refl

-- no such page: no byte
pub no_such_page : sample_into 2 0 ≡ record { answer = Ok 0; buffer = [] }
unfolding page_into basin_areas basin_labels basins_of
no_such_page = refl

-- ---- refusals

pub no_rows : page_into (grid 0 1 []) [] [] [] 1 (46 ∷ []) ≡ refused 1 (46 ∷ [])
unfolding page_into
no_rows = refl

pub few_areas : page_into (row_of 2) (1 ∷ []) (0 ∷ 0 ∷ 0 ∷ 0 ∷ []) (1 ∷ 1 ∷ []) 1 (replicate 219 46)
    ≡ refused 3 (replicate 219 46)
unfolding page_into
few_areas = refl

-- one cell with this basin, area and label, in a buffer just long enough
abbrev one_into : ℕ → ℕ → ℕ → ℕ → Listed
one_into basin area first rest = page_into (row_of 1) (area ∷ []) (first ∷ rest ∷ []) (basin ∷ []) 1 (replicate 146 46)

pub just_fits : (one_into 99999 999999999 999999999999999999 888888888888888888).answer ≡ Ok 146
unfolding page_into fields to_right to_left
just_fits = refl

pub too_wide_lem : one_into 100000 1 0 0
    ∷ one_into 1 1000000000 0 0
    ∷ one_into 1 1 1111111111111111111 222222222222222222
    ∷ one_into 1 1 18446744073709551615 18446744073709551615
    ∷ []
    ≡ replicate 4 (refused 3 (replicate 146 46))
unfolding page_into
too_wide_lem = refl

-- a basin that is too wide, of the last of 60 cells: it refuses page 2 alone
pub one_page : map (page_fits (row_of 60) (replicate 60 1) (replicate 120 0) (replicate 59 1 ++ (100000 ∷ [])))
    (1 ∷ 2 ∷ 3 ∷ []) ≡ true ∷ false ∷ true ∷ []
unfolding page_fits
one_page = refl
