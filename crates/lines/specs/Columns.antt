-- Columns, by a number, None for no column, and when two are the same; the columns of a line, and the most digits of a
-- value in a column.
use Rattle.std.specs.Prelude.{ℕ, ◌≡◌, Bool, false, cond, eqb, get_or, Option, Some, None, is_some, count_by}
use Rattle.lines.specs.declared.columns.Column.{Column}
use Rattle.lines.specs.declared.columns.Column.TheVariants.{Rows, Cols, Depth, Least, Split}
use Rattle.lines.specs.declared.columns.Column.TheVariants.{Row, Col, Dir, Weight}
use Rattle.lines.specs.declared.columns.Columns.{Columns}

-- the most columns of a line
abbrev pub most_columns : ℕ
most_columns = 5

abbrev pub column_number : Option Column → ℕ
column_number None = 0
column_number (Some Rows) = 1
column_number (Some Cols) = 2
column_number (Some Depth) = 3
column_number (Some Least) = 4
column_number (Some Split) = 5
column_number (Some Row) = 6
column_number (Some Col) = 7
column_number (Some Dir) = 8
column_number (Some Weight) = 9

unfoldable pub same_column : Option Column → Option Column → Bool
same_column a b = eqb (column_number a) (column_number b)

-- the column at a place from 0; None past the last
unfoldable pub column_at : Columns → ℕ → Option Column
column_at c place = get_or c.places place None

-- the most digits of a value, in every column but `least`, and of a value of `least`
abbrev pub value_digits : ℕ
value_digits = 5

abbrev pub least_digits : ℕ
least_digits = 8

-- the most digits of a value in a column
unfoldable pub column_digits : Option Column → ℕ
unfolding same_column
column_digits x = cond (same_column x (Some Least)) least_digits value_digits

-- how many columns are named
unfoldable pub column_count : Columns → ℕ
column_count c = count_by is_some c.places

-- no column has this name
abbrev pub Unnamed : Columns → Column → Type 0
Unnamed c x = (place : ℕ) → same_column (column_at c place) (Some x) ≡ false
