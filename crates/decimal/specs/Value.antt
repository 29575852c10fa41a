-- A value in a line. Document 01: "Values are decimal: 0 alone, or 1 to 5 digits not starting with 0." Document 02, W2,
-- of blanks: "a value may have up to eight of them in front".
use Rattle.std.specs.Prelude.{ℕ, ◌+◌, ◌-◌, ◌*◌, List, [], ◌∷◌, Bool, false, cond, ◌&&◌, length, drop, leb, eqb, Option, Some, None}
use Rattle.decimal.specs.Ascii.{blank, digit_zero, digit_nine}

-- what reading a value gives: the value and the position after it, or None where no value stands there
abbrev pub Value : Type 0
Value = Option (ℕ × ℕ)

pattern abbrev pub Found : ℕ → ℕ → Value
Found value end = Some (value, end)

unfoldable pub is_digit : ℕ → Bool
is_digit b = leb digit_zero b && leb b digit_nine

abbrev pub is_blank : ℕ → Bool
is_blank b = eqb b blank

-- the bytes with which a list begins, up to the first that does not pass a test
unfoldable pub take_while : (ℕ → Bool) → List ℕ → List ℕ
take_while test [] = []
take_while test (b ∷ s) = cond (test b) (b ∷ take_while test s) []

-- the digits with which a list begins; the blanks with which it begins
abbrev pub digit_run : List ℕ → List ℕ
digit_run s = take_while is_digit s

abbrev pub blank_run : List ℕ → List ℕ
blank_run s = take_while is_blank s

-- how many blanks stand at a position
abbrev pub blanks_at : List ℕ → ℕ → ℕ
blanks_at s at = length (blank_run (drop at s))

-- the number that is written by the digits of v and then by these
unfoldable pub value_from : ℕ → List ℕ → ℕ
value_from v [] = v
value_from v (b ∷ s) = value_from (v * 10 + (b - digit_zero)) s

-- any nine digits fit 32 bits; a reader allows at most so many
abbrev pub most_digits : ℕ
most_digits = 9

-- 0 alone, or 1 to most digits not starting with 0
unfoldable pub is_value : ℕ → List ℕ → Bool
is_value most [] = false
is_value most (b ∷ s) = cond (eqb b digit_zero) (eqb (length s) 0) (leb (length (b ∷ s)) most)

-- the number of digits that begin at a position, and the position after them, if they are good
unfoldable pub found_at : Bool → List ℕ → ℕ → Value
unfolding value_from
found_at good digits at = cond good (Found (value_from 0 digits) (at + length digits)) None

-- all the digits at a position as a number, if there are at most `most` of them
abbrev pub number_at : ℕ → List ℕ → ℕ → Value
number_at most s at = let digits : List ℕ = digit_run (drop at s) in found_at (leb (length digits) most) digits at

-- the value whose digits begin at a position: all the digits that stand there have to make it
unfoldable pub unpadded_at : ℕ → List ℕ → ℕ → Value
unfolding is_value is_digit take_while found_at
unpadded_at most s at = let digits : List ℕ = digit_run (drop at s) in found_at (is_value most digits) digits at

-- a value may have up to eight blanks in front
abbrev pub most_blanks : ℕ
most_blanks = 8

-- The value at a position of a line, after the blanks that stand there. Where these are too many, or a reader is to
-- allow more digits than fit 32 bits, there is none.
unfoldable pub value_at : ℕ → List ℕ → ℕ → Value
unfolding take_while unpadded_at
value_at most s at =
    let blanks : ℕ = blanks_at s at in
    cond (leb most most_digits && leb blanks most_blanks) (unpadded_at most s (at + blanks)) None

-- document 01's number of an answer, and its values: 8 where the file's rules ask for a value and there is none
pub record FoundValues : Type 0 where
  pub number : ℕ
  pub value : ℕ
  pub end : ℕ

abbrev pub found_values : Value → FoundValues
found_values (Found value end) = record { number = 0; value = value; end = end }
found_values None = record { number = 8; value = 0; end = 0 }
