-- A values line. Document 01: "Values are decimal: 0 alone, or 1 to 5 digits not starting with 0. Commas part them;
-- nothing else is allowed." Document 02, W9: "A value of `least` may have up to 8 digits." Blanks in front of a value:
-- value_at of decimal.
use Rattle.std.specs.Prelude.{ℕ, ◌+◌, List, [], ◌∷◌, cond, length, eqb, get_or, set, replicate, Option, Some, None, unwrap_or, option_map, position}
use Rattle.decimal.specs.Value.{Value, Found, value_at}
use Rattle.lines.specs.declared.columns.Column.{Column}
use Rattle.lines.specs.declared.columns.Columns.{Columns}
use Rattle.lines.specs.declared.values.Values.{Values}
use Rattle.lines.specs.Fields.{fits_line, fields}
use Rattle.lines.specs.Columns.{same_column, column_at, column_digits, column_count}

-- what reading a values line gives: its values, or None where the line breaks the file's rules
abbrev pub ValuesLine : Type 0
ValuesLine = Option Values

-- the first value of a line
abbrev pub first_value : Values → ℕ
first_value v = get_or v.places 0 0

abbrev pub if_whole : List ℕ → Value → Value
if_whole f (Found v end) = cond (eqb end (length f)) (Found v end) None
if_whole f None = None

-- a field that is a value of at most so many digits and nothing else
unfoldable pub field_value : ℕ → List ℕ → Value
field_value most f = if_whole f (value_at most f 0)

abbrev pub no_values : Values
no_values = record { places = replicate 5 0 }

-- the values with the one at a place, from 0, set
unfoldable pub with_value : Values → ℕ → ℕ → Values
with_value v place x = record { places = set v.places place x }

abbrev pub on_value : Value → (ℕ → ValuesLine) → ValuesLine
on_value (Found v end) next = next v
on_value None next = None

-- the values in fields, column by column from a place on; there has to be one for each column that is named
unfoldable pub values_from : Columns → ℕ → List (List ℕ) → Values → ValuesLine
unfolding column_at column_digits column_count field_value with_value
values_from c place [] v = cond (eqb place (column_count c)) (Some v) None
values_from c place (f ∷ fs) v =
    on_value (field_value (column_digits (column_at c place)) f)
    (λ x. values_from c (place + 1) fs (with_value v place x))

-- a line of a value for each column that is named, and nothing else
unfoldable pub values_line : Columns → List ℕ → ValuesLine
unfolding fits_line fields values_from value_at
values_line c s = cond (fits_line s) (values_from c 0 (fields s) no_values) None

-- document 01's number of an answer, and its values: 8 where the line breaks the file's rules
pub record LineValues : Type 0 where
  pub number : ℕ
  pub values : Values

abbrev pub line_values : ValuesLine → LineValues
line_values (Some v) = record { number = 0; values = v }
line_values None = record { number = 8; values = no_values }

-- The value in a column: that of the first column of the name, and `absent` where there is none. So a name that stands
-- twice has a meaning.
unfoldable pub value_or : Columns → Values → Option Column → ℕ → ℕ
unfolding same_column
value_or c v x absent =
    let first : Option ℕ = position (λ y. same_column y x) c.places in
    unwrap_or (option_map (λ place. get_or v.places place 0) first) absent

-- the value in a column, and 0 where there is none
unfoldable pub value_of : Columns → Values → Option Column → ℕ
unfolding value_or
value_of c v x = value_or c v x 0
