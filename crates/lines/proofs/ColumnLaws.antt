-- Laws of columns.
use Rattle.std.proofs.Common.{◌<◌, ◌≤◌, ◌≡◌, rules, tests, sym, Bool, true, false, cond, Option, Some, None, refl, arith, eqb}
use Rattle.std.specs.Option.{option_eq}
use borrow.Author.Tests.{ne_eqb}
use Rattle.decimal.specs.Value.{most_digits}
use Rattle.lines.specs.contracts.columns.ColumnPartialEq.TheImpl.{eq-value}
use Rattle.lines.specs.declared.columns.Column.{Column}
use Rattle.lines.specs.declared.columns.Column.TheVariants.{Least}
use Rattle.lines.specs.Columns.{column_number, same_column, value_digits, least_digits, column_digits}

-- what `==` says of two columns
same_numbers : (a b : Column) → eq-value.it a b ≡ eqb (column_number (Some a)) (column_number (Some b))
same_numbers a b = search (rules, tests)

number_above : (x : Column) → 0 < column_number (Some x)
number_above x = search (rules, tests)

pub equal_is : (a b : Option Column) → option_eq eq-value.it a b ≡ same_column a b
unfolding same_column
equal_is None None = refl
equal_is None (Some b) = sym (ne_eqb 0 (column_number (Some b)) (omega (arith, number_above b)))
equal_is (Some a) None = sym (ne_eqb (column_number (Some a)) 0 (omega (arith, number_above a)))
equal_is (Some a) (Some b) = same_numbers a b

-- no column allows more digits than fit 32 bits
pub digits_allowed : (x : Option Column) → column_digits x ≤ most_digits
unfolding column_digits
digits_allowed x = go (same_column x (Some Least))
  where
    go : (t : Bool) → cond t least_digits value_digits ≤ most_digits
    go true = omega arith
    go false = omega arith
