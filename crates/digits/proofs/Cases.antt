-- Worked labels and digits, computed from the definitions.
use mathlib.Core.Path.{◌≡◌, refl}
use mathlib.Core.Bool.{true, false}
use mathlib.Core.List.{[], ◌∷◌, ◌++◌}
use Prim.Native.Nat.{ℕ}
use lib.ListN.{replicate}
use Rattle.sheet.specs.declared.Label.{Label as Record}
use Rattle.sheet.specs.Record.{label_of_numbers, no_digits}
use Rattle.sheet.specs.Flow.{is_label}
use Rattle.digits.specs.Digits.{digits_answer, digits_places, label_answer, digits_values, label_values}
use Rattle.digits.specs.LastPlaces.{end_digits_of, written_last}
use Rattle.sheet.specs.Answer.{Refused}
use Rattle.std.specs.Prelude.{Ok}

-- a label of up to 18 digits
abbrev short : ℕ → Record
short first = label_of_numbers first 0

-- 18 nines
abbrev nines : ℕ
nines = 999999999999999999

-- ---- records that are no labels

-- each broken part of 11: a digit 0 in either number, more digits than the depth, a second number beside a first of
-- fewer than 18 digits, 19 digits in either number
pub labels_refused : is_label 36 (short 105) ∷ is_label 36 (label_of_numbers nines 10) ∷ is_label 36
    (label_of_numbers 111111111011111111 1) ∷ is_label 18 (label_of_numbers nines 1) ∷ is_label 36
    (label_of_numbers 99999999999999999 1) ∷ is_label 36 (label_of_numbers 0 1) ∷ is_label 36
    (short 1111111111111111111) ∷ is_label 36 (label_of_numbers nines 1111111111111111111) ∷
    [] ≡ replicate 8 false
unfolding is_label
labels_refused = refl

-- no digits, 18, 19 and 36 digits, at depths that just hold them
pub labels_accepted : is_label 1 no_digits ∷ is_label 18 (short nines) ∷ is_label 19 (label_of_numbers nines 1) ∷ is_label 36
    (label_of_numbers nines nines) ∷ [] ≡ replicate 4 true
unfolding is_label
labels_accepted = refl

-- ---- a label's digits

-- 2, 11, 3, in this order
pub digits_refused : digits_answer 0 (short 105) 0 ∷ digits_answer 37 (short 9) 40 ∷ digits_answer 3
    (short 105) 0 ∷ digits_answer 36 (short 1111111111111111111) 40 ∷ digits_answer 36 (label_of_numbers 1 1)
    40 ∷ digits_answer 3 (short 92) 1 ∷ digits_answer 36 (label_of_numbers nines 1) 18 ∷
    [] ≡ Refused 2 0 ∷ Refused 2 0 ∷ Refused 11 0 ∷ Refused 11 0 ∷ Refused 11 0 ∷
    Refused 3 0 ∷ Refused 3 0 ∷ []
unfolding digits_answer
digits_refused = refl

-- 0 has no digits; 18 nines pass at depth 18, 19 digits at depth 19 and 36 nines at depth 36
pub digits_written : digits_answer 1 no_digits 0 ∷ digits_answer 3 (short 92) 2 ∷ digits_answer 18 (short nines)
    18 ∷ digits_answer 19 (label_of_numbers nines 1) 19 ∷ digits_answer 36 (label_of_numbers nines nines) 36 ∷
    [] ≡ Ok 0 ∷ Ok 2 ∷ Ok 18 ∷ Ok 19 ∷ Ok 36 ∷ []
unfolding digits_answer
digits_written = refl

-- the other places keep their values, and all do where the call is refused
pub digits_placed : digits_places 3 (short 92) (7 ∷ 7 ∷ 7 ∷ []) ∷ digits_places 3 (short 105)
    (7 ∷ 7 ∷ 7 ∷ []) ∷ digits_places 3 (short 92) (7 ∷ []) ∷
    [] ≡ (9 ∷ 2 ∷ 7 ∷ []) ∷ (7 ∷ 7 ∷ 7 ∷ []) ∷ (7 ∷ []) ∷ []
unfolding digits_places
digits_placed = refl

-- the second number's digits stand straight after the first's
pub digits_joined : digits_places 20 (label_of_numbers nines 12) (replicate 21 7) ≡ replicate 18 9 ++ (1 ∷ 2 ∷ 7 ∷ [])
unfolding digits_places
digits_joined = refl

-- what put_label writes of a record that is no label: the digits back to a 0 of the second number, or its digits and
-- those back to a 0 of the first
pub ends_written : written_last (end_digits_of (label_of_numbers 34 102)) (7 ∷ 7 ∷ 7 ∷ []) ∷ written_last
    (end_digits_of (label_of_numbers 104 2)) (7 ∷ 7 ∷ 7 ∷ []) ∷ [] ≡ (7 ∷ 7 ∷ 2 ∷ []) ∷ (7 ∷ 4 ∷ 2 ∷ []) ∷ []
unfolding end_digits_of
ends_written = refl

-- ---- the label of digits

pub label_refused : label_answer 0 [] ∷ label_answer 37 [] ∷ label_answer 3 (1 ∷ 0 ∷ 5 ∷ []) ∷ label_answer 3
    (10 ∷ []) ∷ label_answer 36
    (replicate 37 1) ∷ [] ≡ Refused 2 0 ∷ Refused 2 0 ∷ Refused 11 0 ∷ Refused 11 0 ∷ Refused 11 0 ∷ []
unfolding label_answer
label_refused = refl

pub label_given : label_answer 3 [] ∷ label_answer 3 (9 ∷ 2 ∷ []) ∷ label_answer 18 (replicate 18 9) ∷ label_answer 36
    (replicate 18 9 ++ (1 ∷ [])) ∷ label_answer 36 (replicate 36 9) ∷
    [] ≡ Ok no_digits ∷ Ok (short 92) ∷ Ok (short nines) ∷ Ok (label_of_numbers nines 1) ∷
    Ok (label_of_numbers nines nines) ∷ []
unfolding label_answer
label_given = refl

-- the numbers and values of the answers
pub numbers : (digits_values (digits_answer 3 (short 105) 3)).number ∷ (digits_values (digits_answer 3 (short 92) 3)).count
    ∷ (label_values (label_answer 3 (0 ∷ []))).number ∷ (label_values (label_answer 3 (9 ∷ 2 ∷ []))).label.first ∷
    (label_values (label_answer 36 (replicate 19 1))).label.rest ∷ [] ≡ 11 ∷ 2 ∷ 11 ∷ 92 ∷ 1 ∷ []
unfolding digits_answer label_answer
numbers = refl
