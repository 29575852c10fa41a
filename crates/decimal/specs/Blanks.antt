-- What blanks in front of a value change, and what they leave as it was: statements about value_at.
use Rattle.std.specs.Prelude.{ℕ, ◌+◌, ◌^◌, ◌<◌, ◌≤◌, ◌≡◌, List, [], ◌++◌, length, take, drop, replicate, None}
use Rattle.decimal.specs.Ascii.{blank}
use Rattle.decimal.specs.Value.{Found, digit_run, blank_run, most_digits, most_blanks, unpadded_at, value_at}
use Rattle.decimal.specs.Text.{decimal_text}

-- bytes with so many blanks in front of them
abbrev pub with_blanks : ℕ → List ℕ → List ℕ
with_blanks blanks s = replicate blanks blank ++ s

-- at the position stand up to eight blanks, and after them the value v, which stops at `end`
pub record AfterBlanks (most : ℕ) (s : List ℕ) (at v end : ℕ) : Type 0 where
  pub allowed : most ≤ most_digits
  pub blanks : ℕ
  pub few : blanks ≤ most_blanks
  pub blanks_are : take blanks (drop at s) ≡ replicate blanks blank
  pub value_is : unpadded_at most s (at + blanks) ≡ Found v end

-- In these, `front` is what stands before the position.
pub record PaddedValues : Type 0 where
  -- a value without blanks is what it was by document 01's rule, and stops where it did
  pub as_before : (most : ℕ) (s : List ℕ) (at : ℕ) {v end : ℕ} → most ≤ most_digits
      → unpadded_at most s at ≡ Found v end → value_at most s at ≡ Found v end
  -- after up to eight blanks it is the same value, and stops so many bytes later
  pub after_blanks : (most blanks : ℕ) (front s : List ℕ) {v end : ℕ} → most ≤ most_digits → blanks ≤ most_blanks
      → unpadded_at most s 0 ≡ Found v end
      → value_at most (front ++ with_blanks blanks s) (length front) ≡ Found v (length front + blanks + end)
  -- after more there is no value
  pub too_many : (most blanks : ℕ) (front s : List ℕ) → most_blanks < blanks
      → value_at most (front ++ with_blanks blanks s) (length front) ≡ None
  -- nor is there one where no digit follows the blanks, or nothing does
  pub no_digit : (most blanks : ℕ) (front s : List ℕ) → blank_run s ≡ [] → digit_run s ≡ []
      → value_at most (front ++ with_blanks blanks s) (length front) ≡ None
  -- there are no other values
  pub no_other : (most : ℕ) (s : List ℕ) (at : ℕ) {v end : ℕ} → value_at most s at ≡ Found v end
      → AfterBlanks most s at v end
  -- the text of a number of at most `most` digits, after up to eight blanks and with no further digit after it, is read
  -- as the number, up to where the text ends
  pub reads_back : (most n : ℕ) → most ≤ most_digits → n < 10 ^ most → (front : List ℕ) (blanks : ℕ)
      → blanks ≤ most_blanks → (rest : List ℕ) → digit_run rest ≡ []
      → value_at most (front ++ with_blanks blanks (decimal_text n ++ rest)) (length front)
      ≡ Found n (length front + blanks + length (decimal_text n))
