-- A number as decimal text, and a text written into a buffer.
use Rattle.std.specs.Prelude.{ℕ, zero, suc, ◌+◌, ◌/◌, ◌%◌, List, [], ◌∷◌, ◌++◌, cond, length, take, drop, leb, ltb, Option, Some, None}
use Rattle.decimal.specs.Ascii.{digit_zero}

-- A number below 10 is one digit; a larger one is the text of its tenth part, then its last digit. The first argument
-- bounds the recursion.
unfoldable pub text_within : ℕ → ℕ → List ℕ
text_within zero n = (digit_zero + n) ∷ []
text_within (suc k) n =
    let front : List ℕ = text_within k (n / 10) in
    cond (ltb n 10) ((digit_zero + n) ∷ []) (front ++ ((digit_zero + n % 10) ∷ []))

-- a number in decimal, in bytes; n steps are enough, since the tenth part of n is less than n
unfoldable pub decimal_text : ℕ → List ℕ
unfolding text_within
decimal_text n = text_within n n

-- a buffer with a text in place of its bytes from a position on
unfoldable pub overwrite : List ℕ → ℕ → List ℕ → List ℕ
overwrite buffer at text = take at buffer ++ (text ++ drop (at + length text) buffer)

-- document 01's number of an answer, and its value: 3 where the buffer is too short
pub record WrittenValues : Type 0 where
  pub number : ℕ
  pub end : ℕ

abbrev pub written_values : Option ℕ → WrittenValues
written_values (Some end) = record { number = 0; end = end }
written_values None = record { number = 3; end = 0 }

-- the answer of a call that writes, and the buffer afterwards
pub record Writing : Type 0 where
  pub answer : Option ℕ
  pub buffer : List ℕ

-- a text written into a buffer from a position on: whole where it fits, and else not at all
unfoldable pub write_text : List ℕ → List ℕ → ℕ → Writing
unfolding overwrite
write_text text buffer at =
    cond (leb (at + length text) (length buffer))
    (record { answer = Some (at + length text); buffer = overwrite buffer at text })
    (record { answer = None; buffer = buffer })
