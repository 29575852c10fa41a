-- Blanks in front of the values of a line, as decimal's reader takes them: statements about fields and value lines.
use Rattle.std.specs.Prelude.{ℕ, ◌+◌, ◌<◌, ◌≤◌, ◌≡◌, List, [], ◌∷◌, ◌++◌, true, false, length, get_or, Some, None}
use Rattle.decimal.specs.Value.{Value, Found, is_digit, most_blanks, unpadded_at}
use Rattle.decimal.specs.Blanks.{with_blanks}
use Rattle.lines.specs.declared.columns.Columns.{Columns}
use Rattle.lines.specs.declared.values.Values.{Values}
use Rattle.lines.specs.Fields.{fits_line, fields}
use Rattle.lines.specs.Columns.{column_at, column_digits, column_count}
use Rattle.lines.specs.Values.{if_whole, field_value, values_line}

-- a field that is a value of at most so many digits, without blanks, and nothing else: document 01's rule, as it was
-- before document 02's W2, but for how many digits
unfoldable pub unpadded_field : ℕ → List ℕ → Value
unpadded_field most f = if_whole f (unpadded_at most f 0)

abbrev pub IsUnpadded : ℕ → List ℕ → ℕ → Type 0
IsUnpadded most f v = unpadded_field most f ≡ Found v (length f)

-- a field of up to eight blanks and such a value
pub record PaddedField (most : ℕ) (f : List ℕ) (v : ℕ) : Type 0 where
  pub blanks : ℕ
  pub few : blanks ≤ most_blanks
  pub value : List ℕ
  pub value_is : IsUnpadded most value v
  pub field_is : f ≡ with_blanks blanks value

-- fields from a place on, each of which is a value as Field says, with at most the digits of its column, and these
-- values
pub data EachField (Field : ℕ → List ℕ → ℕ → Type 0) (c : Columns) : ℕ → List (List ℕ) → List ℕ → Type 0 where
  no_field : {place : ℕ} → EachField Field c place [] []
  field : {place : ℕ} {f : List ℕ} {x : ℕ} {fs : List (List ℕ)} {xs : List ℕ}
      → Field (column_digits (column_at c place)) f x → EachField Field c (place + 1) fs xs
      → EachField Field c place (f ∷ fs) (x ∷ xs)

-- the values of a line as a list: the first five; 0 stands for one that is not there
abbrev pub first_five : List ℕ → Values
first_five xs =
    record { places = get_or xs 0 0 ∷ get_or xs 1 0 ∷ get_or xs 2 0 ∷ get_or xs 3 0 ∷ get_or xs 4 0 ∷ [] }

-- a line of at most 80 bytes with a field for each column that is named, each of which is a value as Field says; and
-- these values
pub record ValueFields (Field : ℕ → List ℕ → ℕ → Type 0) (c : Columns) (s : List ℕ) (v : Values) : Type 0 where
  pub fits : fits_line s ≡ true
  pub values : List ℕ
  pub count_is : length values ≡ column_count c
  pub fields_are : EachField Field c 0 (fields s) values
  pub values_are : v ≡ first_five values

pub record PaddedLines : Type 0 where
  -- a line that was good by document 01's rule, without blanks, is good and has the same values
  pub as_before : (c : Columns) (s : List ℕ) (v : Values) → ValueFields IsUnpadded c s v → values_line c s ≡ Some v
  -- up to eight blanks may stand in front of each of its values
  pub padded_line : (c : Columns) (s : List ℕ) (v : Values) → ValueFields PaddedField c s v → values_line c s ≡ Some v
  -- and no other line is good
  pub no_other : (c : Columns) (s : List ℕ) (v : Values) → values_line c s ≡ Some v → ValueFields PaddedField c s v
  -- no value is a field with more than eight blanks in front, one of blanks alone, or one in which a value is followed
  -- by a byte that is no digit
  pub too_many : (most blanks : ℕ) (f : List ℕ) → most_blanks < blanks → field_value most (with_blanks blanks f) ≡ None
  pub blanks_alone : (most blanks : ℕ) → field_value most (with_blanks blanks []) ≡ None
  pub nothing_after : (most : ℕ) (f : List ℕ) (b : ℕ) (g : List ℕ) {v end : ℕ} → field_value most f ≡ Found v end
      → is_digit b ≡ false → field_value most (f ++ (b ∷ g)) ≡ None
