-- The definitions tried by computation.
use mathlib.Core.Path.{◌≡◌, refl}
use mathlib.Core.List.{List, [], ◌∷◌, ◌++◌}
use Prim.Native.Nat.{ℕ}
use Prim.Native.String.{String}
use lib.ListN.{replicate}
use Rattle.decimal.specs.Ascii.{ascii, line_feed}
use Rattle.sheet.specs.Sheet.{grid}
use Rattle.sheet.specs.Basins.{basin_areas, basin_labels, basins_of}
use Rattle.sheet.specs.Cases.{sample_a, sheet}
use Rattle.listing.specs.Listing.{listing_text, refusal_text}
use Rattle.listing.specs.AsBefore.{listing_of_numbers, in_front, with_basin1}
use Rattle.listing.specs.Writing.{listing_values, listing_into, refusal_into}
use Rattle.sheet.specs.Answer.{Refused}
use Rattle.std.specs.Prelude.{Ok}

-- the bytes of lines, each ended by a line feed
abbrev lines : List String → List ℕ
lines [] = []
lines (s ∷ ss) = ascii s ++ (line_feed ∷ lines ss)

-- a slice of labels of at most 18 digits
abbrev one_number_each : List ℕ → List ℕ
one_number_each [] = []
one_number_each (a ∷ numbers) = a ∷ 0 ∷ one_number_each numbers

-- what document 01 prints for sample A
abbrev lines_before : List ℕ
lines_before =
    lines
    ("row,col,area,label"
    ∷ "0,1,2,8"
    ∷ "0,2,1,8"
    ∷ "0,3,1,92"
    ∷ "1,0,11,1"
    ∷ "1,1,9,3"
    ∷ "1,2,4,91"
    ∷ "1,3,2,93"
    ∷ "2,0,1,2"
    ∷ "2,1,1,4"
    ∷ "2,2,1,6"
    ∷ "2,3,1,93"
    ∷ [])

-- and with its basin
abbrev sample_lines : List ℕ
sample_lines =
    lines
    ("basin,row,col,area,label"
    ∷ "1,0,1,2,8"
    ∷ "1,0,2,1,8"
    ∷ "1,0,3,1,92"
    ∷ "1,1,0,11,1"
    ∷ "1,1,1,9,3"
    ∷ "1,1,2,4,91"
    ∷ "1,1,3,2,93"
    ∷ "1,2,0,1,2"
    ∷ "1,2,1,1,4"
    ∷ "1,2,2,1,6"
    ∷ "1,2,3,1,93"
    ∷ [])

pub sample_listing : listing_text sample_a (0 ∷ 2 ∷ 1 ∷ 1 ∷ 11 ∷ 9 ∷ 4 ∷ 2 ∷ 1 ∷ 1 ∷ 1 ∷ 1 ∷ [])
    (one_number_each (0 ∷ 8 ∷ 8 ∷ 92 ∷ 1 ∷ 3 ∷ 91 ∷ 93 ∷ 2 ∷ 4 ∷ 6 ∷ 93 ∷ []))
    (0 ∷ 1 ∷ 1 ∷ 1 ∷ 1 ∷ 1 ∷ 1 ∷ 1 ∷ 1 ∷ 1 ∷ 1 ∷ 1 ∷ []) ≡ sample_lines
unfolding listing_text
sample_listing = refl

-- from its areas, its labels at depth 2 and its basin as they are defined
pub sample_defined : listing_text sample_a (basin_areas (sheet sample_a 2)) (basin_labels (sheet sample_a 2))
    (basins_of sample_a) ≡ sample_lines
unfolding listing_text basin_areas basin_labels basins_of
sample_defined = refl

-- as document 01 has it, from labels that are one number each; and with a column in front
pub sample_as_before : listing_of_numbers sample_a (0 ∷ 2 ∷ 1 ∷ 1 ∷ 11 ∷ 9 ∷ 4 ∷ 2 ∷ 1 ∷ 1 ∷ 1 ∷ 1 ∷ [])
    (0 ∷ 8 ∷ 8 ∷ 92 ∷ 1 ∷ 3 ∷ 91 ∷ 93 ∷ 2 ∷ 4 ∷ 6 ∷ 93 ∷ []) ≡ lines_before
unfolding listing_of_numbers
sample_as_before = refl

pub sample_column : with_basin1 lines_before ≡ sample_lines
unfolding in_front
sample_column = refl

-- a row of two cells whose water leaves to both sides: two basins of area 1, label 0
pub two_basins_lem : listing_text (grid 1 2 (16 ∷ 1 ∷ [])) (1 ∷ 1 ∷ []) (0 ∷ 0 ∷ 0 ∷ 0 ∷ []) (1 ∷ 2 ∷ [])
    ≡ lines ("basin,row,col,area,label" ∷ "1,0,0,1,0" ∷ "2,0,1,1,0" ∷ [])
unfolding listing_text
two_basins_lem = refl

-- a row of two cells with labels of 19 and of 36 digits
pub long_labels : listing_text (grid 1 2 (1 ∷ 1 ∷ [])) (1 ∷ 2 ∷ [])
    (123456789123456789 ∷ 5 ∷ 999999999999999999 ∷ 888888888888888888 ∷ []) (65536 ∷ 65536 ∷ [])
    ≡ lines
    ("basin,row,col,area,label"
    ∷ "65536,0,0,1,1234567891234567895"
    ∷ "65536,0,1,2,999999999999999999888888888888888888"
    ∷ [])
unfolding listing_text
long_labels = refl

-- refusal 6 at place 1
pub refusal_lines : refusal_text 6 1 ≡ lines ("refused,place" ∷ "6,1" ∷ [])
unfolding refusal_text
refusal_lines = refl

-- 1 by 1 with area 1, label 0 and basin 1, in buffers of dots
abbrev one_cell : List ℕ
one_cell = lines ("basin,row,col,area,label" ∷ "1,0,0,1,0" ∷ [])

pub room_to_spare : listing_into (grid 1 1 (1 ∷ [])) (1 ∷ []) (0 ∷ 0 ∷ []) (1 ∷ [])
    (replicate 37 46) ≡ record { answer = Ok 35; buffer = one_cell ++ (46 ∷ 46 ∷ []) }
unfolding listing_into
room_to_spare = refl

pub just_room : listing_into (grid 1 1 (1 ∷ [])) (1 ∷ []) (0 ∷ 0 ∷ []) (1 ∷ [])
    (replicate 35 46) ≡ record { answer = Ok 35; buffer = one_cell }
unfolding listing_into
just_room = refl

pub one_byte_short : listing_into (grid 1 1 (1 ∷ [])) (1 ∷ []) (0 ∷ 0 ∷ []) (1 ∷ [])
    (replicate 34 46) ≡ record { answer = Refused 3 0; buffer = replicate 34 46 }
unfolding listing_into
one_byte_short = refl

-- 257 rows give 1, though nothing is lent; a missing label or basin gives 3, and one number is no label
pub many_rows : (listing_values (listing_into (grid 257 1 []) [] [] [] []).answer).number ≡ 1
unfolding listing_into
many_rows = refl

pub no_label : (listing_values (listing_into (grid 1 1 (1 ∷ [])) (1 ∷ []) [] (1 ∷ []) (replicate 35 46)).answer
    ).number ≡ 3
unfolding listing_into
no_label = refl

pub one_number : (listing_values (listing_into (grid 1 1 (1 ∷ [])) (1 ∷ []) (0 ∷ []) (1 ∷ []) (replicate 35 46)).answer
    ).number ≡ 3
unfolding listing_into
one_number = refl

pub no_basin : (listing_values (listing_into (grid 1 1 (1 ∷ [])) (1 ∷ []) (0 ∷ 0 ∷ []) [] (replicate 35 46)).answer
    ).number ≡ 3
unfolding listing_into
no_basin = refl

-- an odd number at the end is no place
pub odd_number : listing_into (grid 1 1 (1 ∷ [])) (1 ∷ []) (0 ∷ 0 ∷ 7 ∷ []) (1 ∷ [])
    (replicate 35 46) ≡ record { answer = Ok 35; buffer = one_cell }
unfolding listing_into
odd_number = refl

pub refusal_in_buffer : refusal_into 14 1
    (replicate 20 46) ≡ record { answer = Ok 19; buffer = lines ("refused,place" ∷ "14,1" ∷ []) ++ (46 ∷ []) }
unfolding refusal_into
refusal_in_buffer = refl

pub longest_refusal : (listing_values (refusal_into 255 18446744073709551615 (replicate 39 46)).answer).bytes ≡ 39
unfolding refusal_into
longest_refusal = refl
