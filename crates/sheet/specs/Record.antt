-- Document 02's label as "a record of two 64-bit numbers": from digits to the record and back, and slices that hold
-- records. No other definition of what a label is, or of what a call answers, looks at the two numbers.
use Rattle.std.specs.Prelude.{Bool, true, false, cond, List, [], ◌∷◌, ◌++◌, ℕ, zero, suc, ◌+◌, ◌*◌, ◌/◌, ◌%◌, ◌≤◌, eqb, leb, length, get_or, take, drop}
use Rattle.sheet.specs.declared.Label.{Label}
use Rattle.sheet.specs.declared.UnitName.{UnitName}

-- all digits lie from 1 to top
pub data Digits (top : ℕ) : List ℕ → Type 0 where
  digits_none : Digits top []
  digits_cons : {a : ℕ} {x : List ℕ} → 1 ≤ a → a ≤ top → Digits top x → Digits top (a ∷ x)

-- ---- one number

-- the digits as one decimal number; no digits at all is 0
unfoldable pub number_from : ℕ → List ℕ → ℕ
number_from m [] = m
number_from m (a ∷ x) = number_from (m * 10 + a) x

unfoldable pub number : List ℕ → ℕ
unfolding number_from
number x = number_from 0 x

-- the last k digits of m, without leading zeros
unfoldable pub digits_within : ℕ → ℕ → List ℕ
digits_within zero m = []
digits_within (suc k) m = let r = digits_within k (m / 10) in cond (eqb m 0) [] (r ++ (m % 10 ∷ []))

-- the digits of a 64-bit number, of which there are at most 20; 0 has none
unfoldable pub decimal_digits : ℕ → List ℕ
unfolding digits_within
decimal_digits m = digits_within 20 m

-- ---- the record

abbrev pub label_of_numbers : ℕ → ℕ → Label
label_of_numbers first rest = record { first = first; rest = rest }

-- the most digits of each of the two numbers
abbrev pub number_digits : ℕ
number_digits = 18

-- "the first 18 digits, then the next ones, 0 if there are none"
unfoldable pub record_of : List ℕ → Label
unfolding number
record_of x = label_of_numbers (number (take number_digits x)) (number (drop number_digits x))

-- its digits, "joined with no gap"
unfoldable pub digits_of : Label → List ℕ
unfolding decimal_digits
digits_of p = decimal_digits p.first ++ decimal_digits p.rest

-- no digits at all
abbrev pub no_digits : Label
no_digits = label_of_numbers 0 0

-- no number is over 18 digits, and no second number other than 0 stands beside a first of fewer than 18 digits; else
-- 11
unfoldable pub is_record : Label → Bool
unfolding decimal_digits
is_record p =
    let first : ℕ = length (decimal_digits p.first) in
    let rest : ℕ = length (decimal_digits p.rest) in
    let beside : Bool = cond (eqb p.rest 0) true (leb number_digits first) in
    cond (leb first number_digits) (cond (leb rest number_digits) beside false) false

-- two records are the same
unfoldable pub same_label : Label → Label → Bool
same_label p q = cond (eqb p.first q.first) (eqb p.rest q.rest) false

-- ---- slices: "label slices hold a record as two neighbouring numbers and count whole records as places"

-- the labels that a slice holds; an odd number at the end is no place
unfoldable pub labels_in : List ℕ → List Label
labels_in [] = []
labels_in (a ∷ []) = []
labels_in (a ∷ b ∷ numbers) = label_of_numbers a b ∷ labels_in numbers

-- the numbers of labels that stand one after the other
unfoldable pub numbers_of : List Label → List ℕ
numbers_of [] = []
numbers_of (p ∷ labels) = p.first ∷ p.rest ∷ numbers_of labels

-- how many places for labels a slice of so many numbers has
unfoldable pub label_places : ℕ → ℕ
label_places numbers = numbers / 2

-- the label at a place of a slice, which has one for each cell, or for each unit
abbrev pub label_at : List ℕ → ℕ → Label
label_at numbers c = get_or (labels_in numbers) c no_digits

-- ---- units: a label within its basin

abbrev pub unit_name : ℕ → Label → UnitName
unit_name basin label = record { basin = basin; label = label }

-- two units are the same
unfoldable pub same_unit : UnitName → UnitName → Bool
unfolding same_label
same_unit p q = cond (eqb p.basin q.basin) (same_label p.label q.label) false

-- the unit at a place of a slice of basins and a slice of labels
abbrev pub unit_at : List ℕ → List ℕ → ℕ → UnitName
unit_at basins numbers c = unit_name (get_or basins c 0) (label_at numbers c)

-- a unit's basin and then the digits of its label: in the dictionary order of these, units stand "by basin and then
-- label"
unfoldable pub basin_and_digits : UnitName → List ℕ
unfolding digits_of
basin_and_digits u = u.basin ∷ digits_of u.label

-- those of the unit at a place of a slice of basins and a slice of labels
abbrev pub unit_digits_at : List ℕ → List ℕ → ℕ → List ℕ
unit_digits_at basins numbers c = basin_and_digits (unit_at basins numbers c)

-- the units that a list of basins and a list of labels name, place by place
unfoldable pub units_in : List ℕ → List Label → List UnitName
units_in [] labels = []
units_in (basin ∷ basins) [] = []
units_in (basin ∷ basins) (label ∷ labels) = unit_name basin label ∷ units_in basins labels

-- ---- what labelling's steps need of slices

-- the place to which the number at i belongs
unfoldable pub place_at : ℕ → ℕ
place_at i = i / 2

-- and the number at i of a slice that holds the labels f
unfoldable pub number_in : (ℕ → Label) → ℕ → ℕ
unfolding place_at
number_in f i = let p : Label = f (place_at i) in cond (eqb (i % 2) 0) p.first p.rest
