-- The names of columns in the file, and the columns of a line.
use Rattle.std.specs.Prelude.{ℕ, List, [], ◌∷◌, Bool, cond, eqb, set, replicate, count_by, Option, Some, None}
use Rattle.std.specs.List.{list_all}
use Rattle.decimal.specs.Ascii.{ascii}
use Rattle.lines.specs.declared.columns.Column.{Column}
use Rattle.lines.specs.declared.columns.Column.TheVariants.{Rows, Cols, Depth, Least, Split}
use Rattle.lines.specs.declared.columns.Column.TheVariants.{Row, Col, Dir, Weight}
use Rattle.lines.specs.declared.columns.Columns.{Columns}
use Rattle.lines.specs.Fields.{same_bytes}
use Rattle.lines.specs.Columns.{same_column}

-- a column where a field is its name, and another where it is not
unfoldable pub column_if : List ℕ → List ℕ → Column → Option Column → Option Column
unfolding same_bytes
column_if f name column other = cond (same_bytes f name) (Some column) other

-- the column that a field names; None if it names none
unfoldable pub column_named : List ℕ → Option Column
column_named f =
    column_if f (ascii "rows") Rows
    (column_if f (ascii "cols") Cols
    (column_if f (ascii "depth") Depth
    (column_if f (ascii "least") Least
    (column_if f (ascii "split") Split
    (column_if f (ascii "row") Row
    (column_if f (ascii "col") Col
    (column_if f (ascii "dir") Dir
    (column_if f (ascii "weight") Weight None))))))))

-- No columns yet.
abbrev pub no_columns : Columns
no_columns = record { places = replicate 5 None }

-- the columns with the one at a place, from 0, set
unfoldable pub with_column : Columns → ℕ → Option Column → Columns
with_column c place x = record { places = set c.places place x }

-- how often a column stands among columns; how many places are left, where it is None
unfoldable pub count_column : Columns → Option Column → ℕ
count_column c x = count_by (λ y. same_column y x) c.places

-- a column stands among columns as often as it is expected
unfoldable pub as_often : Columns → Columns → Option Column → Bool
unfolding count_column
as_often expected c x = eqb (count_column c x) (count_column expected x)

-- The columns are the expected ones, in any order. A column stands there as often as it is expected, and None in the
-- places that are left: so nothing else does.
unfoldable pub same_columns : Columns → Columns → Bool
unfolding as_often
same_columns expected c = list_all (λ x. as_often expected c x) expected.places

-- rows, cols and depth, with two more columns
abbrev pub size_columns_with : Option Column → Option Column → Columns
size_columns_with x y = record { places = Some Rows ∷ Some Cols ∷ Some Depth ∷ x ∷ y ∷ [] }

-- the columns that a names line is to have before the sizes, these with document 02's least and split, those before the
-- weights, and those before the cells
abbrev pub size_columns : Columns
size_columns = size_columns_with None None

abbrev pub split_size_columns : Columns
split_size_columns = size_columns_with (Some Least) (Some Split)

abbrev pub weight_columns : Columns
weight_columns = record { places = Some Weight ∷ None ∷ None ∷ None ∷ None ∷ [] }

abbrev pub cell_columns : Columns
cell_columns = record { places = Some Row ∷ Some Col ∷ Some Dir ∷ None ∷ None ∷ [] }
