-- What refuses sizes, a state that waits for a weight, a weight line and a cell line: tests in the documents' order,
-- with their numbers; 0 is no fault.
use Rattle.std.specs.Prelude.{Bool, true, cond, List, [], ◌∷◌, ◌++◌, ℕ, ◌*◌, leb, ltb, eqb, get_or, Some}
use Rattle.lines.specs.declared.columns.Columns.{Columns}
use Rattle.lines.specs.declared.columns.Column.TheVariants.{Rows, Cols, Depth, Least, Split, Row, Col, Dir}
use Rattle.lines.specs.declared.values.Values.{Values}
use Rattle.lines.specs.Columns.{same_column}
use Rattle.lines.specs.Values.{value_or, value_of}
use Rattle.sheet.specs.Direction.{is_code, cell_number}
use Rattle.sheet.specs.Refusal.{both, sizes_fit, depth_fits, least_and_split_fit, weight_fits}
use Rattle.faults.specs.declared.Sizes.{Sizes}
use Rattle.faults.specs.declared.Cell.{Cell}

-- the sizes in a line of values, by the order of its columns; least is 1 and split is 4 where they are not named
unfoldable pub sizes_in : Columns → Values → Sizes
unfolding value_or value_of same_column
sizes_in c v = record {
  rows = value_of c v (Some Rows);
  cols = value_of c v (Some Cols);
  depth = value_of c v (Some Depth);
  least = value_or c v (Some Least) 1;
  split = value_or c v (Some Split) 4;
}

-- the cell in a line of values
unfoldable pub cell_in : Columns → Values → Cell
unfolding value_of same_column
cell_in c v = record { row = value_of c v (Some Row); col = value_of c v (Some Col); dir = value_of c v (Some Dir) }

-- rows × columns
abbrev pub cell_count : Sizes → ℕ
cell_count z = z.rows * z.cols

-- a test, and the number of the refusal where it is not passed
pub record Test : Type 0 where
  pub number : ℕ
  pub passed : Bool

abbrev pub test : ℕ → Bool → Test
test number passed = record { number = number; passed = passed }

-- the number of the first test that fails; 0 if none does
unfoldable pub first_failing : List Test → ℕ
first_failing [] = 0
first_failing (t ∷ ts) = let rest : ℕ = first_failing ts in cond t.passed rest t.number

-- a direction byte for each cell and a weight for each row
unfoldable pub lent_enough : Sizes → ℕ → ℕ → Bool
lent_enough z dirs weights = both (leb (cell_count z) dirs) (leb z.rows weights)

-- the tests of sizes, where so many direction bytes and so many weights are lent
abbrev pub sizes_tests : Sizes → ℕ → ℕ → List Test
sizes_tests z dirs weights =
    test 1 (sizes_fit z.rows z.cols)
    ∷ test 2 (depth_fits z.depth)
    ∷ test 19 (least_and_split_fit z.least z.split)
    ∷ test 3 (lent_enough z dirs weights)
    ∷ []

unfoldable pub sizes_fault : Sizes → ℕ → ℕ → ℕ
unfolding first_failing sizes_fit depth_fits least_and_split_fit lent_enough
sizes_fault z dirs weights = first_failing (sizes_tests z dirs weights)

-- the tests of a state that waits for the weight of a row: those of its sizes, then the row
abbrev pub row_tests : Sizes → ℕ → ℕ → ℕ → List Test
row_tests z row dirs weights = sizes_tests z dirs weights ++ (test 9 (ltb row z.rows) ∷ [])

unfoldable pub row_fault : Sizes → ℕ → ℕ → ℕ → ℕ
unfolding first_failing sizes_fit depth_fits least_and_split_fit lent_enough
row_fault z row dirs weights = first_failing (row_tests z row dirs weights)

-- the test of a weight line
abbrev pub weight_tests : ℕ → List Test
weight_tests weight = test 17 (weight_fits weight) ∷ []

unfoldable pub weight_fault : ℕ → ℕ
unfolding first_failing weight_fits
weight_fault weight = first_failing (weight_tests weight)

unfoldable pub on_sheet : Sizes → Cell → Bool
on_sheet z x = both (ltb x.row z.rows) (ltb x.col z.cols)

-- the byte of the cell in a row and column
abbrev pub byte_of : Sizes → ℕ → ℕ → List ℕ → ℕ
byte_of z row col dirs = get_or dirs (cell_number z.cols row col) 0

-- Document 02, W4: a line with dir 0, a withdrawal, may come for every cell, one with another code only for a cell
-- whose byte is 0.
unfoldable pub may_set : ℕ → ℕ → Bool
may_set dir byte = cond (eqb dir 0) true (eqb byte 0)

-- the tests of a cell line
abbrev pub cell_tests : Sizes → Cell → List ℕ → List Test
cell_tests z x dirs =
    test 9 (on_sheet z x)
    ∷ test 4 (is_code x.dir)
    ∷ test 10 (may_set x.dir (byte_of z x.row x.col dirs))
    ∷ []

unfoldable pub cell_fault : Sizes → Cell → List ℕ → ℕ
unfolding first_failing on_sheet is_code may_set
cell_fault z x dirs = first_failing (cell_tests z x dirs)
