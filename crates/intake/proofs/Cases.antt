-- The definitions tried by computation: document 01's sample A line by line, one line for each refusal, and the
-- boundaries.
use mathlib.Core.Path.{◌≡◌, refl}
use mathlib.Core.List.{List, [], ◌∷◌, ◌++◌}
use Prim.Native.Nat.{ℕ}
use lib.ListN.{replicate}
use Rattle.std.proofs.Common.{Some, None}
use Rattle.decimal.specs.Ascii.{ascii}
use Rattle.lines.specs.declared.columns.Column.{Column}
use Rattle.lines.specs.declared.columns.Column.TheVariants.{Rows, Cols, Depth, Least, Split, Row, Col, Dir}
use Rattle.lines.specs.declared.columns.Columns.{Columns}
use Rattle.names.specs.Columns.{size_columns, split_size_columns, cell_columns}
use Rattle.faults.specs.declared.Sizes.{Sizes}
use Rattle.intake.specs.declared.Stage.{Stage}
use Rattle.intake.specs.declared.Stage.TheVariants.{WaitingForSizeNames, WaitingForSizes}
use Rattle.intake.specs.declared.Stage.TheVariants.{WaitingForWeightOrCellNames, WaitingForWeight}
use Rattle.intake.specs.declared.Stage.TheVariants.{WaitingForCellNames, TakingCells, Ended}
use Rattle.intake.specs.declared.Intake.{Intake}
use Rattle.intake.specs.Intake.{LentSheet, lent_sheet, After, accepted, refused, accept, refuse, line_after}
use Rattle.intake.specs.Intake.{end_taken, new_intake}
use Rattle.intake.specs.CellLines.{cells_listed, last_code}

-- sizes with least and split, and those where they are not named
abbrev pub split_sizes_of : ℕ → ℕ → ℕ → ℕ → ℕ → Sizes
split_sizes_of rows cols depth least split =
    record { rows = rows; cols = cols; depth = depth; least = least; split = split }

abbrev pub sizes_of : ℕ → ℕ → ℕ → Sizes
sizes_of rows cols depth = split_sizes_of rows cols depth 1 4

-- five columns, and three
abbrev pub five : Column → Column → Column → Column → Column → Columns
five a b c d e = record { places = Some a ∷ Some b ∷ Some c ∷ Some d ∷ Some e ∷ [] }

abbrev pub three : Column → Column → Column → Columns
three a b c = record { places = Some a ∷ Some b ∷ Some c ∷ None ∷ None ∷ [] }

abbrev pub in_stage : Stage → Intake
in_stage stage = record { stage = stage }

-- the stages of a sheet of 3 by 4 cells to depth 2, with the columns in the order of sample A
abbrev pub at_sizes : Stage
at_sizes = WaitingForSizes size_columns

abbrev pub at_names : Stage
at_names = WaitingForWeightOrCellNames (sizes_of 3 4 2)

abbrev pub at_weight : ℕ → Stage
at_weight row = WaitingForWeight (sizes_of 3 4 2) row

abbrev pub at_cell_names : Stage
at_cell_names = WaitingForCellNames (sizes_of 3 4 2)

abbrev pub at_cells : Stage
at_cells = TakingCells (sizes_of 3 4 2) cell_columns

abbrev pub at_end : Stage
at_end = Ended (sizes_of 3 4 2)

-- ---- sample A

-- what lines leave, one after the other
unfoldable pub trace : Intake → LentSheet → List (List ℕ) → List After
unfolding line_after
trace i lent [] = []
trace i lent (line ∷ lines) = let a : After = line_after i line lent in a ∷ trace a.taken.intake a.lent lines

abbrev pub sample_a : List (List ℕ)
sample_a =
    ascii "rows,cols,depth"
    ∷ ascii "3,4,2"
    ∷ ascii "row,col,dir"
    ∷ ascii "0,1,4"
    ∷ ascii "0,2,16"
    ∷ ascii "0,3,8"
    ∷ ascii "1,0,16"
    ∷ ascii "1,1,16"
    ∷ ascii "1,2,16"
    ∷ ascii "1,3,16"
    ∷ ascii "2,0,64"
    ∷ ascii "2,1,64"
    ∷ ascii "2,2,32"
    ∷ ascii "2,3,64"
    ∷ []

-- Without weights each is 1. There are 12 bytes and 3 weights for the sheet, and one more of each, which no line
-- changes.
abbrev pub ones : List ℕ → LentSheet
ones dirs = lent_sheet dirs (1 ∷ 1 ∷ 1 ∷ 8 ∷ [])

pub sample_a_lem : trace new_intake (lent_sheet (replicate 13 7) (replicate 4 8)) sample_a ≡
    accept at_sizes (lent_sheet (replicate 13 7) (replicate 4 8))
    ∷ accept at_names (ones (0 ∷ 0 ∷ 0 ∷ 0 ∷ 0 ∷ 0 ∷ 0 ∷ 0 ∷ 0 ∷ 0 ∷ 0 ∷ 0 ∷ 7 ∷ []))
    ∷ accept at_cells (ones (0 ∷ 0 ∷ 0 ∷ 0 ∷ 0 ∷ 0 ∷ 0 ∷ 0 ∷ 0 ∷ 0 ∷ 0 ∷ 0 ∷ 7 ∷ []))
    ∷ accept at_cells (ones (0 ∷ 4 ∷ 0 ∷ 0 ∷ 0 ∷ 0 ∷ 0 ∷ 0 ∷ 0 ∷ 0 ∷ 0 ∷ 0 ∷ 7 ∷ []))
    ∷ accept at_cells (ones (0 ∷ 4 ∷ 16 ∷ 0 ∷ 0 ∷ 0 ∷ 0 ∷ 0 ∷ 0 ∷ 0 ∷ 0 ∷ 0 ∷ 7 ∷ []))
    ∷ accept at_cells (ones (0 ∷ 4 ∷ 16 ∷ 8 ∷ 0 ∷ 0 ∷ 0 ∷ 0 ∷ 0 ∷ 0 ∷ 0 ∷ 0 ∷ 7 ∷ []))
    ∷ accept at_cells (ones (0 ∷ 4 ∷ 16 ∷ 8 ∷ 16 ∷ 0 ∷ 0 ∷ 0 ∷ 0 ∷ 0 ∷ 0 ∷ 0 ∷ 7 ∷ []))
    ∷ accept at_cells (ones (0 ∷ 4 ∷ 16 ∷ 8 ∷ 16 ∷ 16 ∷ 0 ∷ 0 ∷ 0 ∷ 0 ∷ 0 ∷ 0 ∷ 7 ∷ []))
    ∷ accept at_cells (ones (0 ∷ 4 ∷ 16 ∷ 8 ∷ 16 ∷ 16 ∷ 16 ∷ 0 ∷ 0 ∷ 0 ∷ 0 ∷ 0 ∷ 7 ∷ []))
    ∷ accept at_cells (ones (0 ∷ 4 ∷ 16 ∷ 8 ∷ 16 ∷ 16 ∷ 16 ∷ 16 ∷ 0 ∷ 0 ∷ 0 ∷ 0 ∷ 7 ∷ []))
    ∷ accept at_cells (ones (0 ∷ 4 ∷ 16 ∷ 8 ∷ 16 ∷ 16 ∷ 16 ∷ 16 ∷ 64 ∷ 0 ∷ 0 ∷ 0 ∷ 7 ∷ []))
    ∷ accept at_cells (ones (0 ∷ 4 ∷ 16 ∷ 8 ∷ 16 ∷ 16 ∷ 16 ∷ 16 ∷ 64 ∷ 64 ∷ 0 ∷ 0 ∷ 7 ∷ []))
    ∷ accept at_cells (ones (0 ∷ 4 ∷ 16 ∷ 8 ∷ 16 ∷ 16 ∷ 16 ∷ 16 ∷ 64 ∷ 64 ∷ 32 ∷ 0 ∷ 7 ∷ []))
    ∷ accept at_cells (ones (0 ∷ 4 ∷ 16 ∷ 8 ∷ 16 ∷ 16 ∷ 16 ∷ 16 ∷ 64 ∷ 64 ∷ 32 ∷ 64 ∷ 7 ∷ []))
    ∷ []
unfolding trace
sample_a_lem = refl

-- ---- one line

-- the cell 1 has a code, and there are weights for one more row
abbrev pub bytes : List ℕ
bytes = 0 ∷ 4 ∷ 0 ∷ 0 ∷ 0 ∷ 0 ∷ 0 ∷ 0 ∷ 0 ∷ 0 ∷ 0 ∷ 0 ∷ []

abbrev pub weights : List ℕ
weights = 5 ∷ 6 ∷ 7 ∷ 8 ∷ []

abbrev pub lent : LentSheet
lent = lent_sheet bytes weights

-- the same after accepted sizes
abbrev pub cleared : LentSheet
cleared = ones (replicate 12 0)

-- n bytes and as many weights, all 7
abbrev pub sevens : ℕ → LentSheet
sevens n = lent_sheet (replicate n 7) (replicate n 7)

-- 1: rows or columns outside 1 to 256
pub rows_0 : line_after (in_stage at_sizes) (ascii "0,4,2") lent ≡ refuse at_sizes lent 1
unfolding line_after
rows_0 = refl

pub cols_0 : line_after (in_stage at_sizes) (ascii "3,0,2") lent ≡ refuse at_sizes lent 1
unfolding line_after
cols_0 = refl

pub rows_256 : line_after (in_stage at_sizes) (ascii "256,1,2") (sevens 256) ≡ accept
    (WaitingForWeightOrCellNames (sizes_of 256 1 2)) (lent_sheet (replicate 256 0) (replicate 256 1))
unfolding line_after
rows_256 = refl

pub rows_257 : line_after (in_stage at_sizes) (ascii "257,1,2") (sevens 257) ≡ refuse at_sizes (sevens 257) 1
unfolding line_after
rows_257 = refl

pub cols_256 : line_after (in_stage at_sizes) (ascii "1,256,2") (sevens 256) ≡ accept
    (WaitingForWeightOrCellNames (sizes_of 1 256 2)) (lent_sheet (replicate 256 0) (1 ∷ replicate 255 7))
unfolding line_after
cols_256 = refl

pub cols_257 : line_after (in_stage at_sizes) (ascii "1,257,2") (sevens 257) ≡ refuse at_sizes (sevens 257) 1
unfolding line_after
cols_257 = refl

-- 2: depth outside 1 to 36
pub depth_0 : line_after (in_stage at_sizes) (ascii "3,4,0") lent ≡ refuse at_sizes lent 2
unfolding line_after
depth_0 = refl

pub depth_36 : line_after (in_stage at_sizes) (ascii "3,4,36") lent ≡ accept
    (WaitingForWeightOrCellNames (sizes_of 3 4 36)) cleared
unfolding line_after
depth_36 = refl

pub depth_37 : line_after (in_stage at_sizes) (ascii "3,4,37") lent ≡ refuse at_sizes lent 2
unfolding line_after
depth_37 = refl

pub one_before_two : line_after (in_stage at_sizes) (ascii "257,4,37") lent ≡ refuse at_sizes lent 1
unfolding line_after
one_before_two = refl

-- 3: too few direction bytes or weights
pub cells_2048 : line_after (in_stage at_sizes) (ascii "32,64,2")
    (lent_sheet (replicate 2048 7) (replicate 256 7)) ≡ accept (WaitingForWeightOrCellNames (sizes_of 32 64 2))
    (lent_sheet (replicate 2048 0) (replicate 32 1 ++ replicate 224 7))
unfolding line_after
cells_2048 = refl

pub cells_2080 : line_after (in_stage at_sizes) (ascii "32,65,2") (sevens 2048) ≡ refuse at_sizes (sevens 2048) 3
unfolding line_after
cells_2080 = refl

pub two_before_three : line_after (in_stage at_sizes) (ascii "32,65,37") lent ≡ refuse at_sizes lent 2
unfolding line_after
two_before_three = refl

-- 4: a direction that is none of the nine codes; 257 is no byte
pub no_code : line_after (in_stage at_cells) (ascii "0,0,3") lent ≡ refuse at_cells lent 4
unfolding line_after
no_code = refl

pub no_code_257 : line_after (in_stage at_cells) (ascii "0,0,257") lent ≡ refuse at_cells lent 4
unfolding line_after
no_code_257 = refl

pub four_before_ten : line_after (in_stage at_cells) (ascii "0,1,3") lent ≡ refuse at_cells lent 4
unfolding line_after
four_before_ten = refl

-- 8: a line that breaks the rules of its stage
pub no_size_names : line_after (in_stage WaitingForSizeNames)
    (ascii "row,col,dir") lent ≡ refuse WaitingForSizeNames lent 8
unfolding line_after
no_size_names = refl

pub two_sizes : line_after (in_stage at_sizes) (ascii "3,4") lent ≡ refuse at_sizes lent 8
unfolding line_after
two_sizes = refl

pub no_cell_names : line_after (in_stage at_cell_names) (ascii "rows,cols,depth") lent ≡ refuse at_cell_names lent 8
unfolding line_after
no_cell_names = refl

pub two_values : line_after (in_stage at_cells) (ascii "0,1") lent ≡ refuse at_cells lent 8
unfolding line_after
two_values = refl

pub value_100000 : line_after (in_stage at_cells) (ascii "100000,0,1") lent ≡ refuse at_cells lent 8
unfolding line_after
value_100000 = refl

-- blanks in front of a value, up to eight
pub eight_blanks_sizes : line_after (in_stage at_sizes) (ascii "        3,        4,        2") lent ≡ accept
    at_names cleared
unfolding line_after
eight_blanks_sizes = refl

pub nine_blanks_sizes : line_after (in_stage at_sizes) (ascii "3,         4,2") lent ≡ refuse at_sizes lent 8
unfolding line_after
nine_blanks_sizes = refl

pub eight_blanks_cell : line_after (in_stage at_cells) (ascii "        0,        0,        1") lent ≡ line_after
    (in_stage at_cells) (ascii "0,0,1") lent
unfolding line_after
eight_blanks_cell = refl

pub nine_blanks_cell : line_after (in_stage at_cells) (ascii "0,0,         1") lent ≡ refuse at_cells lent 8
unfolding line_after
nine_blanks_cell = refl

pub names_blank : line_after (in_stage at_cell_names) (ascii "row, col,dir") lent ≡ refuse at_cell_names lent 8
unfolding line_after
names_blank = refl

pub byte_10 : line_after (in_stage at_cells) (ascii "0,0,1\n") lent ≡ refuse at_cells lent 8
unfolding line_after
byte_10 = refl

-- 9: a row or column outside the sheet
pub row_3 : line_after (in_stage at_cells) (ascii "3,0,1") lent ≡ refuse at_cells lent 9
unfolding line_after
row_3 = refl

pub col_4 : line_after (in_stage at_cells) (ascii "0,4,1") lent ≡ refuse at_cells lent 9
unfolding line_after
col_4 = refl

pub value_99999 : line_after (in_stage at_cells) (ascii "99999,0,1") lent ≡ refuse at_cells lent 9
unfolding line_after
value_99999 = refl

pub nine_before_four : line_after (in_stage at_cells) (ascii "3,0,3") lent ≡ refuse at_cells lent 9
unfolding line_after
nine_before_four = refl

-- 10: a cell line with one of the eight codes for a cell whose byte is not 0
pub cell_again : line_after (in_stage at_cells) (ascii "0,1,4") lent ≡ refuse at_cells lent 10
unfolding line_after
cell_again = refl

pub cell_again_other : line_after (in_stage at_cells) (ascii "0,1,128") lent ≡ refuse at_cells lent 10
unfolding line_after
cell_again_other = refl

pub cell_0 : line_after (in_stage at_cells) (ascii "0,0,0") lent ≡ accept at_cells lent
unfolding line_after
cell_0 = refl

-- document 02, W4: with dir 0 the cell is withdrawn, and may be listed again, once
abbrev pub listed_as : ℕ → LentSheet
listed_as byte = lent_sheet (0 ∷ byte ∷ replicate 10 0) weights

pub withdrawn : trace (in_stage at_cells) lent (ascii "0,1,0" ∷ ascii "0,1,0" ∷ ascii "0,1,64" ∷ ascii "0,1,64" ∷ []) ≡
    accept at_cells (listed_as 0)
    ∷ accept at_cells (listed_as 0)
    ∷ accept at_cells (listed_as 64)
    ∷ refuse at_cells (listed_as 64) 10
    ∷ []
unfolding trace
withdrawn = refl

pub withdrawn_no_code : line_after (in_stage at_cells) (ascii "0,1,0") (listed_as 7) ≡ accept at_cells (listed_as 0)
unfolding line_after
withdrawn_no_code = refl

pub withdrawn_outside : line_after (in_stage at_cells) (ascii "3,1,0") lent ≡ refuse at_cells lent 9
unfolding line_after
withdrawn_outside = refl

-- the last line of a cell counts; what its byte was, where there is none
abbrev pub lines_of_cells : List (List ℕ)
lines_of_cells = ascii "0,1,0" ∷ ascii "0,2,16" ∷ ascii "0,1,64" ∷ ascii "0,2,0" ∷ ascii "0,1" ∷ []

pub last_codes : last_code 0 1 (cells_listed cell_columns lines_of_cells) 4
    ∷ last_code 0 2 (cells_listed cell_columns lines_of_cells) 4
    ∷ last_code 1 2 (cells_listed cell_columns lines_of_cells) 4
    ∷ [] ≡ 64 ∷ 0 ∷ 4 ∷ []
unfolding last_code cells_listed
last_codes = refl

-- 13: a line or an end after the end
pub line_after_end : line_after (in_stage at_end) (ascii "0,0,1") lent ≡ refuse at_end lent 13
unfolding line_after
line_after_end = refl

pub end_after_end : end_taken (in_stage at_end) ≡ refused at_end 13
unfolding end_taken
end_after_end = refl

-- 14: the end before cell names were accepted
pub end_of_nothing : end_taken new_intake ≡ refused WaitingForSizeNames 14
unfolding end_taken
end_of_nothing = refl

pub end_of_size_names : end_taken (in_stage at_sizes) ≡ refused at_sizes 14
unfolding end_taken
end_of_size_names = refl

pub end_of_sizes : end_taken (in_stage at_names) ≡ refused at_names 14
unfolding end_taken
end_of_sizes = refl

pub end_of_cells : end_taken (in_stage at_cells) ≡ accepted at_end
unfolding end_taken
end_of_cells = refl

-- ---- states that no line leads to: the sizes of the state go before 8, and 13 before them

abbrev pub too_wide : Stage
too_wide = TakingCells (sizes_of 3 257 2) cell_columns

abbrev pub too_deep : Stage
too_deep = WaitingForCellNames (sizes_of 3 4 37)

abbrev pub ended_too_deep : Stage
ended_too_deep = Ended (sizes_of 3 4 37)

pub one_before_eight : line_after (in_stage too_wide) (ascii "x") lent ≡ refuse too_wide lent 1
unfolding line_after
one_before_eight = refl

pub two_before_eight : line_after (in_stage too_deep) (ascii "row,col,dir") lent ≡ refuse too_deep lent 2
unfolding line_after
two_before_eight = refl

pub three_before_eight : line_after (in_stage at_cells) (ascii "x") (sevens 11) ≡ refuse at_cells (sevens 11) 3
unfolding line_after
three_before_eight = refl

pub thirteen_first : line_after (in_stage ended_too_deep) (ascii "x") lent ≡ refuse ended_too_deep lent 13
unfolding line_after
thirteen_first = refl

-- ---- columns in another order; a column twice gives the first of the two, and a missing one 0

pub names_turned : line_after new_intake (ascii "depth,rows,cols") lent ≡ accept
    (WaitingForSizes (three Depth Rows Cols)) lent
unfolding line_after
names_turned = refl

pub sizes_turned : line_after (in_stage (WaitingForSizes (three Depth Rows Cols)))
    (ascii "2,3,4") lent ≡ accept at_names cleared
unfolding line_after
sizes_turned = refl

pub cell_names_turned : line_after (in_stage at_cell_names) (ascii "dir,row,col") lent ≡ accept
    (TakingCells (sizes_of 3 4 2) (three Dir Row Col)) lent
unfolding line_after
cell_names_turned = refl

pub column_twice : line_after (in_stage (WaitingForSizes (three Rows Rows Cols)))
    (ascii "3,4,1") lent ≡ refuse (WaitingForSizes (three Rows Rows Cols)) lent 2
unfolding line_after
column_twice = refl

-- ---- least and split

-- a sheet of 3 by 4 cells to depth 2 at least 5 with split 3; the columns in two orders
abbrev pub at_split_sizes : Stage
at_split_sizes = WaitingForSizes split_size_columns

abbrev pub at_least_first : Stage
at_least_first = WaitingForSizes (five Least Split Depth Rows Cols)

abbrev pub at_split_names : Stage
at_split_names = WaitingForWeightOrCellNames (split_sizes_of 3 4 2 5 3)

pub split_names : line_after new_intake (ascii "rows,cols,depth,least,split") lent ≡ accept at_split_sizes lent
unfolding line_after
split_names = refl

pub split_sizes : line_after (in_stage at_split_sizes) (ascii "3,4,2,5,3") lent ≡ accept at_split_names cleared
unfolding line_after
split_sizes = refl

pub least_first_names : line_after new_intake (ascii "least,split,depth,rows,cols") lent ≡ accept at_least_first lent
unfolding line_after
least_first_names = refl

pub least_first_sizes : line_after (in_stage at_least_first) (ascii "5,3, 2,3,4") lent ≡ accept at_split_names cleared
unfolding line_after
least_first_sizes = refl

-- neither is named: least is 1 and split is 4
pub neither_named : line_after (in_stage at_sizes) (ascii "3,4,2") lent ≡ accept
    (WaitingForWeightOrCellNames (split_sizes_of 3 4 2 1 4)) cleared
unfolding line_after
neither_named = refl

-- 8: one of them alone
pub least_alone : line_after new_intake (ascii "rows,cols,depth,least") lent ≡ refuse WaitingForSizeNames lent 8
unfolding line_after
least_alone = refl

pub split_alone : line_after new_intake (ascii "split,rows,cols,depth") lent ≡ refuse WaitingForSizeNames lent 8
unfolding line_after
split_alone = refl

-- 8: more digits than a column allows, eight for least and five for the others; other than one value a column
pub least_8_digits : line_after (in_stage at_split_sizes) (ascii "3,4,2,65536000,4") lent ≡ accept
    (WaitingForWeightOrCellNames (split_sizes_of 3 4 2 65536000 4)) cleared
unfolding line_after
least_8_digits = refl

pub least_9_digits : line_after (in_stage at_split_sizes) (ascii "3,4,2,655360000,4") lent ≡ refuse at_split_sizes lent 8
unfolding line_after
least_9_digits = refl

pub rows_6_digits : line_after (in_stage at_split_sizes) (ascii "300000,4,2,1,4") lent ≡ refuse at_split_sizes lent 8
unfolding line_after
rows_6_digits = refl

pub split_6_digits : line_after (in_stage at_split_sizes) (ascii "3,4,2,1,400000") lent ≡ refuse at_split_sizes lent 8
unfolding line_after
split_6_digits = refl

pub three_for_five : line_after (in_stage at_split_sizes) (ascii "3,4,2") lent ≡ refuse at_split_sizes lent 8
unfolding line_after
three_for_five = refl

pub five_for_three : line_after (in_stage at_sizes) (ascii "3,4,2,1,4") lent ≡ refuse at_sizes lent 8
unfolding line_after
five_for_three = refl

-- 19: least outside 1 to 65,536,000, or split outside 1 to 4; after 2 and before 3
pub least_0 : line_after (in_stage at_split_sizes) (ascii "3,4,2,0,4") lent ≡ refuse at_split_sizes lent 19
unfolding line_after
least_0 = refl

pub least_65536001 : line_after (in_stage at_split_sizes) (ascii "3,4,2,65536001,4") lent ≡ refuse at_split_sizes lent 19
unfolding line_after
least_65536001 = refl

pub split_0 : line_after (in_stage at_split_sizes) (ascii "3,4,2,1,0") lent ≡ refuse at_split_sizes lent 19
unfolding line_after
split_0 = refl

pub split_1 : line_after (in_stage at_split_sizes) (ascii "3,4,2,1,1") lent ≡ accept
    (WaitingForWeightOrCellNames (split_sizes_of 3 4 2 1 1)) cleared
unfolding line_after
split_1 = refl

pub split_5 : line_after (in_stage at_split_sizes) (ascii "3,4,2,1,5") lent ≡ refuse at_split_sizes lent 19
unfolding line_after
split_5 = refl

pub two_before_nineteen : line_after (in_stage at_split_sizes) (ascii "3,4,37,0,4") lent ≡ refuse at_split_sizes lent 2
unfolding line_after
two_before_nineteen = refl

pub nineteen_before_three : line_after (in_stage at_split_sizes) (ascii "3,4,2,0,4") (sevens 11) ≡ refuse
    at_split_sizes (sevens 11) 19
unfolding line_after
nineteen_before_three = refl

-- a state with least 0 gives 19 for any line
abbrev pub least_zero : Sizes
least_zero = split_sizes_of 3 4 2 0 4

pub nineteen_names : (line : List ℕ) → line_after (in_stage (WaitingForWeightOrCellNames least_zero)) line lent
    ≡ refuse (WaitingForWeightOrCellNames least_zero) lent 19
unfolding line_after
nineteen_names line = refl

pub nineteen_weight : (line : List ℕ) → line_after (in_stage (WaitingForWeight least_zero 9)) line lent
    ≡ refuse (WaitingForWeight least_zero 9) lent 19
unfolding line_after
nineteen_weight line = refl

pub nineteen_cells : (line : List ℕ) → line_after (in_stage (TakingCells least_zero cell_columns)) line lent
    ≡ refuse (TakingCells least_zero cell_columns) lent 19
unfolding line_after
nineteen_cells line = refl

pub thirteen_before_nineteen : line_after (in_stage (Ended least_zero)) (ascii "x") lent
    ≡ refuse (Ended least_zero) lent 13
unfolding line_after
thirteen_before_nineteen = refl
