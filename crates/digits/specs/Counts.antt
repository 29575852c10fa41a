-- A label judged by its two numbers: each by itself, and then by how many digits they have.
use Rattle.std.specs.Prelude.{Bool, true, cond, ℕ, ◌+◌, eqb, leb, length, None, Some}
use Rattle.sheet.specs.Record.{decimal_digits, number_digits}
use Rattle.sheet.specs.Refusal.{both}
use Rattle.sheet.specs.Flow.{are_digits}
use Rattle.sheet.specs.Answer.{Found}

-- a number that may be one of a label's two: at most 18 digits, and none of them is 0
abbrev pub number_fits : ℕ → Bool
number_fits m = are_digits number_digits (decimal_digits m)

-- how many digits such a number has; nothing for another
unfoldable pub fitting_count : ℕ → Found
unfolding are_digits decimal_digits
fitting_count m = let count : Found = Some (length (decimal_digits m)) in cond (number_fits m) count None

-- two such numbers, of so many digits, make a label at the depth
unfoldable pub counts_fit : ℕ → ℕ → ℕ → Bool
counts_fit depth first rest =
    both (leb (first + rest) depth) (cond (eqb rest 0) true (leb number_digits first))
