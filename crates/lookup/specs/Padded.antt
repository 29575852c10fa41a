-- Labels with zeros behind them, up to 36 digits: as numbers they stand in the order of the dictionary.
use Rattle.std.specs.Prelude.{Bool, cond, List, ℕ, ◌+◌, ◌*◌, ◌-◌, ◌^◌, eqb, ltb, length}
use Rattle.sheet.specs.declared.Label.{Label}
use Rattle.sheet.specs.declared.UnitName.{UnitName}
use Rattle.sheet.specs.Record.{number, digits_of}
use Rattle.lookup.specs.Lookup.{greatest_depth, counted}

-- a number of count digits with zeros behind it
unfoldable pub with_zeros : ℕ → ℕ → ℕ
with_zeros m count = m * 10 ^ (greatest_depth - count)

-- the digits of a label with zeros behind them, up to 36 digits
unfoldable pub padded : Label → ℕ
unfolding with_zeros number digits_of
padded label = with_zeros (number (digits_of label)) (length (digits_of label))

-- the first padded number past those of the labels that begin with the leading digits
unfoldable pub padded_end : Label → ℕ
unfolding with_zeros number digits_of
padded_end leading = with_zeros (number (digits_of leading) + 1) (length (digits_of leading))

-- a unit stands before a limit in a basin: its basin is smaller, or is that one and its padded label is less
unfoldable pub is_below : ℕ → ℕ → UnitName → Bool
unfolding padded
is_below basin limit m = cond (eqb m.basin basin) (ltb (padded m.label) limit) (ltb m.basin basin)

-- how many entries do
unfoldable pub count_below : ℕ → ℕ → List UnitName → ℕ
unfolding counted is_below
count_below basin limit units = counted (is_below basin limit) units
