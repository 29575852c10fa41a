-- Padded labels in two halves of 18 digits, which 64 bits hold each.
use Rattle.std.specs.Prelude.{◌≡◌, ℕ, ◌+◌, ◌*◌, ◌-◌, ◌^◌, ◌≤◌, length}
use Rattle.sheet.specs.Record.{decimal_digits, number_digits}
use Rattle.lookup.specs.declared.Halves.{Halves}

-- a number of count digits with zeros behind it, up to 18 digits
unfoldable pub number_with_zeros : ℕ → ℕ → ℕ
number_with_zeros m count = m * 10 ^ (number_digits - count)

-- a number with zeros behind its own digits, up to 18 digits
unfoldable pub padded_number : ℕ → ℕ
unfolding number_with_zeros decimal_digits
padded_number m = number_with_zeros m (length (decimal_digits m))

-- the number that has these halves
unfoldable pub joined : Halves → ℕ
joined halves = halves.first * 10 ^ number_digits + halves.rest

-- they are the halves of a number; the second may be one past the last of 18 digits
pub record HalvesOf (m : ℕ) (halves : Halves) : Type 0 where
  pub whole : joined halves ≡ m
  pub most : halves.rest ≤ 10 ^ number_digits
