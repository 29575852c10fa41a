-- Worked lookups, computed from the definitions.
use mathlib.Core.Path.{◌≡◌, refl}
use mathlib.Core.List.{List, [], ◌∷◌}
use Prim.Native.Nat.{ℕ}
use lib.ListN.{length, replicate}
use Rattle.sheet.specs.declared.Label.{Label}
use Rattle.sheet.specs.declared.UnitName.{UnitName}
use Rattle.sheet.specs.Record.{label_of_numbers, labels_in, numbers_of, unit_name}
use Rattle.lookup.specs.Lookup.{lookup_answer, lookup_part, lookup_place, lookup_values}
use Rattle.lookup.specs.Answer.{LookupAnswer, PartFrom}
use Rattle.sheet.specs.Answer.{Refused}

-- ---- labels of up to 18 digits

abbrev short : ℕ → Label
short first = label_of_numbers first 0

abbrev shorts : List ℕ → List Label
shorts [] = []
shorts (m ∷ numbers) = short m ∷ shorts numbers

-- the lookup in basin 1 where all labels are of that basin
abbrev in_basin : Label → UnitName
in_basin label = unit_name 1 label

abbrev all_one : List Label → List ℕ
all_one labels = replicate (length labels) 1

abbrev lookup_one : Label → List Label → LookupAnswer
lookup_one leading labels = lookup_answer (in_basin leading) labels (all_one labels)

-- among labels of up to 18 digits
abbrev lookup_short : ℕ → List ℕ → LookupAnswer
lookup_short leading numbers = lookup_one (short leading) (shorts numbers)

abbrev numbers : List ℕ
numbers = 1 ∷ 2 ∷ 21 ∷ 3 ∷ 91 ∷ 92 ∷ 93 ∷ []

-- leading 9; 2, which begins 21 and stands before it; no digits at all, which begin every label
pub lookup_found : lookup_short 9 numbers ∷ lookup_short 2 numbers ∷ lookup_short 92 numbers ∷ lookup_short 0 numbers ∷
    [] ≡ PartFrom 4 3 ∷ PartFrom 1 2 ∷ PartFrom 5 1 ∷ PartFrom 0 7 ∷ []
unfolding lookup_answer
lookup_found = refl

-- the empty part at the place that the leading digits would take
pub lookup_empty : lookup_short 11 numbers ∷ lookup_short 5 numbers ∷ lookup_short 94 numbers ∷ lookup_short 9 [] ∷
    [] ≡ PartFrom 1 0 ∷ PartFrom 4 0 ∷ PartFrom 7 0 ∷ PartFrom 0 0 ∷ []
unfolding lookup_answer
lookup_empty = refl

-- labels of different lengths between those that begin so
pub lookup_lengths : lookup_short 2 (0 ∷ 19 ∷ 2 ∷ 21 ∷ 211 ∷ 29 ∷ 3 ∷ []) ∷ lookup_short 21 (0 ∷ 19 ∷ 2 ∷ 211 ∷ []) ∷
    [] ≡ PartFrom 2 4 ∷ PartFrom 3 1 ∷ []
unfolding lookup_answer
lookup_lengths = refl

-- 11 for the leading digits, though the list does not rise, and for an entry, though the list does not rise
pub lookup_label : lookup_short 105 (2 ∷ 1 ∷ []) ∷ lookup_short 9 (2 ∷ 1 ∷ 105 ∷ []) ∷ lookup_short 9 (1 ∷ 20 ∷ []) ∷
    [] ≡ Refused 11 0 ∷ Refused 11 0 ∷ Refused 11 0 ∷ []
unfolding lookup_answer
lookup_label = refl

-- 16 for equal neighbours, for 21 before 2, for 9 before 12
pub lookup_rising : lookup_short 9 (1 ∷ 2 ∷ 2 ∷ []) ∷ lookup_short 9 (21 ∷ 2 ∷ []) ∷ lookup_short 9 (9 ∷ 12 ∷ []) ∷
    [] ≡ Refused 16 0 ∷ Refused 16 0 ∷ Refused 16 0 ∷ []
unfolding lookup_answer
lookup_rising = refl

-- ---- longer labels

-- 18 nines
abbrev nines : ℕ
nines = 999999999999999999

-- a label of 18 nines and these digits
abbrev long : ℕ → Label
long rest = label_of_numbers nines rest

-- 18 digits pass in either number, 19 do not; a second number beside a first of fewer than 18 digits, and a digit 0 in
-- it, are refused
pub lookup_depth : lookup_one (short nines) (short 9 ∷ short nines ∷ []) ∷ lookup_one (long nines)
    (short nines ∷ long nines ∷ []) ∷ lookup_one (short 1111111111111111111) [] ∷ lookup_one
    (long 1111111111111111111) [] ∷ lookup_one (label_of_numbers 99999999999999999 1) [] ∷ lookup_one (short 9)
    (long 10 ∷ []) ∷ [] ≡ PartFrom 1 1 ∷ PartFrom 1 1 ∷ Refused 11 0 ∷ Refused 11 0 ∷ Refused 11 0 ∷ Refused 11 0 ∷ []
unfolding lookup_answer
lookup_depth = refl

-- labels of 18, 19, 20 and 36 digits that begin alike, in the order of their digits, not of their second numbers
abbrev longs : List Label
longs = short 998 ∷ short nines ∷ long 1 ∷ long 12 ∷ long 2 ∷ long nines ∷ []

pub lookup_long : lookup_one (short 9) longs ∷ lookup_one (short nines) longs ∷ lookup_one (long 1)
    longs ∷ lookup_one (long 2) longs ∷ lookup_one (long 9) longs ∷ lookup_one (long nines) longs ∷ lookup_one
    (long 13) longs ∷ [] ≡ PartFrom 0 6 ∷ PartFrom 1 5 ∷ PartFrom 2 2 ∷ PartFrom 4 1 ∷ PartFrom 5 1 ∷ PartFrom 5 1 ∷ PartFrom 4 0 ∷ []
unfolding lookup_answer
lookup_long = refl

-- 16 for neighbours that differ only in the second number, in the wrong order, and for equal ones; a label of 19 digits
-- before the 18 that it begins with
pub long_rising : lookup_one (short 9) (long 2 ∷ long 12 ∷ []) ∷ lookup_one (short 9) (long 2 ∷ long 2 ∷ []) ∷
    lookup_one (short 9) (long 1 ∷ short nines ∷ []) ∷ [] ≡ Refused 16 0 ∷ Refused 16 0 ∷ Refused 16 0 ∷ []
unfolding lookup_answer
long_rising = refl

-- ---- several basins

-- basins 1, 2 and 4 of which each has labels that begin with 9
abbrev basins : List ℕ
basins = 1 ∷ 1 ∷ 1 ∷ 2 ∷ 2 ∷ 4 ∷ 4 ∷ []

abbrev lookup_in : ℕ → ℕ → LookupAnswer
lookup_in basin leading =
    lookup_answer (unit_name basin (short leading)) (shorts (1 ∷ 91 ∷ 92 ∷ 9 ∷ 91 ∷ 1 ∷ 9 ∷ [])) basins

-- the labels of the named basin alone, and all of these where there are no leading digits
pub basins_found : lookup_in 1 9 ∷ lookup_in 2 9 ∷ lookup_in 4 9 ∷ lookup_in 1 0 ∷ lookup_in 2 0 ∷ lookup_in 4 0 ∷ [] ≡
    PartFrom 1 2 ∷ PartFrom 3 2 ∷ PartFrom 6 1 ∷ PartFrom 0 3 ∷ PartFrom 3 2 ∷ PartFrom 5 2 ∷ []
unfolding lookup_answer
basins_found = refl

-- the empty part at the place that they would take: in a basin that has others, in basins that the list lacks
pub basins_empty : lookup_in 1 2 ∷ lookup_in 2 1 ∷ lookup_in 2 92 ∷ lookup_in 0 9 ∷ lookup_in 3 9 ∷ lookup_in 5 1 ∷ [] ≡
    PartFrom 1 0 ∷ PartFrom 3 0 ∷ PartFrom 5 0 ∷ PartFrom 0 0 ∷ PartFrom 5 0 ∷ PartFrom 7 0 ∷ []
unfolding lookup_answer
basins_empty = refl

-- 16 by basin and then label: the same label in two basins rises, as does a smaller label in a later basin; basins that
-- fall do not, nor equal units
pub basins_rising : lookup_answer (unit_name 2 (short 9)) (shorts (9 ∷ 9 ∷ 1 ∷ [])) (1 ∷ 2 ∷ 3 ∷ []) ∷
    lookup_answer (unit_name 2 (short 9)) (shorts (1 ∷ 2 ∷ [])) (2 ∷ 1 ∷ []) ∷
    lookup_answer (unit_name 2 (short 9)) (shorts (1 ∷ 1 ∷ [])) (2 ∷ 2 ∷ []) ∷ [] ≡
    PartFrom 1 1 ∷ Refused 16 0 ∷ Refused 16 0 ∷ []
unfolding lookup_answer
basins_rising = refl

-- 3 for fewer basins than labels, before 11 and 16; those past the labels are not looked at
pub basins_three : lookup_answer (unit_name 1 (short 9)) (shorts (1 ∷ 2 ∷ [])) (1 ∷ []) ∷
    lookup_answer (unit_name 1 (short 105)) (shorts (2 ∷ 1 ∷ [])) (1 ∷ []) ∷
    lookup_answer (unit_name 1 (short 2)) (shorts (1 ∷ 105 ∷ [])) (2 ∷ []) ∷
    lookup_answer (unit_name 1 (short 2)) (shorts (1 ∷ 2 ∷ [])) (1 ∷ 1 ∷ 0 ∷ []) ∷ [] ≡
    Refused 3 0 ∷ Refused 3 0 ∷ Refused 3 0 ∷ PartFrom 1 1 ∷ []
unfolding lookup_answer
basins_three = refl

-- ---- what is handed back

abbrev part_one : Label → List Label → List ℕ
part_one leading labels = numbers_of (lookup_part (in_basin leading) labels (all_one labels))

-- the part as numbers; refused, no numbers
pub lookup_parts : part_one (short 9) (shorts numbers) ∷ part_one (short 5) (shorts numbers) ∷ part_one (short 105)
    (shorts numbers) ∷ part_one (long 1) longs ∷ [] ≡
    (91 ∷ 0 ∷ 92 ∷ 0 ∷ 93 ∷ 0 ∷ []) ∷ [] ∷ [] ∷ (nines ∷ 1 ∷ nines ∷ 12 ∷ []) ∷ []
unfolding lookup_part numbers_of
lookup_parts = refl

abbrev place_one : Label → ℕ × ℕ
place_one leading = lookup_place (in_basin leading) (shorts numbers) (all_one (shorts numbers)) (7, 100)

-- where it lies in a slice whose first entry lies at byte 100 of block 7; refused, at the slice's start
pub lookup_places : place_one (short 9) ∷ place_one (short 5) ∷ place_one (short 105) ∷ [] ≡
    (7, 164) ∷ (7, 164) ∷ (7, 100) ∷ []
unfolding lookup_place
lookup_places = refl

-- an odd number at the end of a slice, here no label, is no entry, and needs no basin
pub lookup_odd : lookup_answer (in_basin (short 9)) (labels_in (2 ∷ 0 ∷ 9 ∷ 0 ∷ 105 ∷ [])) (1 ∷ 1 ∷ []) ∷ lookup_answer
    (in_basin (short 9)) (labels_in (105 ∷ [])) [] ∷ [] ≡ PartFrom 1 1 ∷ PartFrom 0 0 ∷ []
unfolding lookup_answer labels_in
lookup_odd = refl

-- the numbers and values of the answers
pub values : (lookup_values (lookup_short 9 numbers)).number ∷ (lookup_values (lookup_short 9 numbers)).start
    ∷ (lookup_values (lookup_short 9 numbers)).length ∷ (lookup_values (lookup_short 105 numbers)).number ∷ []
    ≡ 0 ∷ 4 ∷ 3 ∷ 11 ∷ []
unfolding lookup_answer
values = refl
