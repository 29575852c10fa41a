-- The definitions tried by computation, on value lines of document 01's sample and on lines that break its rules.
use Rattle.std.proofs.Common.{Some, None, [], ◌∷◌}
use Prim.Native.Nat.{ℕ}
use mathlib.Core.Path.{◌≡◌, refl}
use mathlib.Core.Bool.{true, false}
use lib.ListN.{replicate}
use Rattle.decimal.specs.Ascii.{ascii}
use Rattle.lines.specs.declared.columns.Column.TheVariants.{Rows, Cols, Depth, Least, Split}
use Rattle.lines.specs.declared.columns.Column.TheVariants.{Row, Col, Dir, Weight}
use Rattle.lines.specs.declared.columns.Columns.{Columns}
use Rattle.lines.specs.declared.values.Values.{Values}
use Rattle.lines.specs.Fields.{fits_line}
use Rattle.lines.specs.Columns.{same_column}
use Rattle.lines.specs.Values.{values_line, value_or, value_of}

-- the columns of sizes, without and with least and split, of a cell and of a weight
abbrev size_columns : Columns
size_columns = record { places = Some Rows ∷ Some Cols ∷ Some Depth ∷ None ∷ None ∷ [] }

abbrev split_size_columns : Columns
split_size_columns = record { places = Some Rows ∷ Some Cols ∷ Some Depth ∷ Some Least ∷ Some Split ∷ [] }

abbrev cell_columns : Columns
cell_columns = record { places = Some Row ∷ Some Col ∷ Some Dir ∷ None ∷ None ∷ [] }

abbrev weight_columns : Columns
weight_columns = record { places = Some Weight ∷ None ∷ None ∷ None ∷ None ∷ [] }

abbrev five : ℕ → ℕ → ℕ → ℕ → ℕ → Values
five a b c d e = record { places = a ∷ b ∷ c ∷ d ∷ e ∷ [] }

abbrev three : ℕ → ℕ → ℕ → Values
three a b c = five a b c 0 0

pub sizes : values_line size_columns (ascii "3,4,2") ≡ Some (three 3 4 2)
unfolding values_line
sizes = refl

pub cell : values_line cell_columns (ascii "0,1,4") ≡ Some (three 0 1 4)
unfolding values_line
cell = refl

pub largest_value : values_line size_columns (ascii "99999,0,1") ≡ Some (three 99999 0 1)
unfolding values_line
largest_value = refl

pub six_digits : values_line size_columns (ascii "100000,0,1") ≡ None
unfolding values_line
six_digits = refl

pub leading_zero : values_line size_columns (ascii "01,2,3") ≡ None
unfolding values_line
leading_zero = refl

pub blank_after : values_line size_columns (ascii "1,2 ,3") ≡ None
unfolding values_line
blank_after = refl

pub blank_in_front : values_line size_columns (ascii " 1,2,3") ≡ Some (three 1 2 3)
unfolding values_line
blank_in_front = refl

pub eight_blanks : values_line size_columns (
    ascii "        99999,        0,        1") ≡ Some (three 99999 0 1)
unfolding values_line
eight_blanks = refl

pub nine_blanks_first : values_line size_columns (ascii "         1,2,3") ≡ None
unfolding values_line
nine_blanks_first = refl

pub nine_blanks_middle : values_line size_columns (ascii "1,         2,3") ≡ None
unfolding values_line
nine_blanks_middle = refl

pub nine_blanks_last : values_line size_columns (ascii "1,2,         3") ≡ None
unfolding values_line
nine_blanks_last = refl

pub blank_alone : values_line size_columns (ascii "1, ,3") ≡ None
unfolding values_line
blank_alone = refl

pub two_values : values_line size_columns (ascii "1,2") ≡ None
unfolding values_line
two_values = refl

pub four_values : values_line size_columns (ascii "1,2,3,4") ≡ None
unfolding values_line
four_values = refl

pub comma_after : values_line size_columns (ascii "1,2,3,") ≡ None
unfolding values_line
comma_after = refl

pub empty_field : values_line size_columns (ascii "1,,3") ≡ None
unfolding values_line
empty_field = refl

pub sign : values_line size_columns (ascii "-1,2,3") ≡ None
unfolding values_line
sign = refl

pub values_line_feed : values_line size_columns (ascii "1,2,3\n") ≡ None
unfolding values_line
values_line_feed = refl

-- A weight line: one value.
pub weight : values_line weight_columns (ascii "1000") ≡ Some (three 1000 0 0)
unfolding values_line
weight = refl

pub weight_zero : values_line weight_columns (ascii "0") ≡ Some (three 0 0 0)
unfolding values_line
weight_zero = refl

pub weight_eight_blanks : values_line weight_columns (ascii "        7") ≡ Some (three 7 0 0)
unfolding values_line
weight_eight_blanks = refl

pub weight_nine_blanks : values_line weight_columns (ascii "         7") ≡ None
unfolding values_line
weight_nine_blanks = refl

pub weight_largest : values_line weight_columns (ascii "99999") ≡ Some (three 99999 0 0)
unfolding values_line
weight_largest = refl

pub weight_six_digits : values_line weight_columns (ascii "100000") ≡ None
unfolding values_line
weight_six_digits = refl

pub weight_leading_zero : values_line weight_columns (ascii "01") ≡ None
unfolding values_line
weight_leading_zero = refl

pub weight_comma_after : values_line weight_columns (ascii "7,") ≡ None
unfolding values_line
weight_comma_after = refl

pub weight_two_values : values_line weight_columns (ascii "7,7") ≡ None
unfolding values_line
weight_two_values = refl

pub weight_empty : values_line weight_columns (ascii "") ≡ None
unfolding values_line
weight_empty = refl

pub weight_blank_after : values_line weight_columns (ascii "7 ") ≡ None
unfolding values_line
weight_blank_after = refl

-- The length of a line.
pub eighty_bytes : fits_line (replicate 80 49) ≡ true
unfolding fits_line
eighty_bytes = refl

pub eighty_one_bytes : fits_line (replicate 81 49) ≡ false
unfolding fits_line
eighty_one_bytes = refl

-- Least and split: `least` may have up to 8 digits, in whichever place it stands, the others up to 5; there are as many
-- values as columns.
pub five_values : values_line split_size_columns (ascii "3,4,2,1,4") ≡ Some (five 3 4 2 1 4)
unfolding values_line
five_values = refl

pub eight_digits : values_line split_size_columns (ascii "3,4,2,65536001,4") ≡ Some (five 3 4 2 65536001 4)
unfolding values_line
eight_digits = refl

pub largest_least : values_line split_size_columns (ascii "99999,99999,99999,        99999999,99999") ≡ Some
    (five 99999 99999 99999 99999999 99999)
unfolding values_line
largest_least = refl

pub least_first : values_line (record { places = Some Least ∷ Some Rows ∷ Some Cols ∷ Some Depth ∷ Some Split ∷ [] })
    (ascii "12345678,3,4,2,1") ≡ Some (five 12345678 3 4 2 1)
unfolding values_line
least_first = refl

pub nine_digits : values_line split_size_columns (ascii "3,4,2,100000000,4") ≡ None
unfolding values_line
nine_digits = refl

pub least_leading_zero : values_line split_size_columns (ascii "3,4,2,01,4") ≡ None
unfolding values_line
least_leading_zero = refl

pub rows_six_digits : values_line split_size_columns (ascii "100000,4,2,1,4") ≡ None
unfolding values_line
rows_six_digits = refl

pub depth_six_digits : values_line split_size_columns (ascii "3,4,100000,1,4") ≡ None
unfolding values_line
depth_six_digits = refl

pub split_six_digits : values_line split_size_columns (ascii "3,4,2,1,100000") ≡ None
unfolding values_line
split_six_digits = refl

pub three_for_five : values_line split_size_columns (ascii "3,4,2") ≡ None
unfolding values_line
three_for_five = refl

pub six_for_five : values_line split_size_columns (ascii "3,4,2,1,4,1") ≡ None
unfolding values_line
six_for_five = refl

pub five_for_three : values_line size_columns (ascii "3,4,2,1,4") ≡ None
unfolding values_line
five_for_three = refl

-- The value in a column: by the columns' order; in the first of two columns of one name; and in a column that is not
-- there.
pub value_by_name : value_of (record { places = Some Cols ∷ Some Depth ∷ Some Rows ∷ Some Split ∷ Some Least ∷ [] })
    (five 4 2 3 1 7) (Some Rows) ≡ 3
unfolding value_of same_column
value_by_name = refl

pub value_of_fifth : value_of (record { places = Some Cols ∷ Some Depth ∷ Some Rows ∷ Some Split ∷ Some Least ∷ [] })
    (five 4 2 3 1 7) (Some Least) ≡ 7
unfolding value_of same_column
value_of_fifth = refl

pub value_of_two : value_of (record { places = Some Cols ∷ Some Rows ∷ Some Rows ∷ None ∷ None ∷ [] })
    (three 4 2 3) (Some Rows) ≡ 2
unfolding value_of same_column
value_of_two = refl

pub value_of_none : value_of (record { places = Some Cols ∷ Some Rows ∷ Some Rows ∷ None ∷ None ∷ [] })
    (three 4 2 3) (Some Depth) ≡ 0
unfolding value_of same_column
value_of_none = refl

pub value_or_none : value_or size_columns (three 4 2 3) (Some Split) 4 ≡ 4
unfolding value_or same_column
value_or_none = refl

pub value_or_some : value_or split_size_columns (five 4 2 3 1 2) (Some Split) 4 ≡ 2
unfolding value_or same_column
value_or_some = refl
