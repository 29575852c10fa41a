-- The weights of a file tried by computation: a weighted sheet line by line, what each stage of weights refuses, and
-- the boundaries.
use mathlib.Core.Path.{◌≡◌, refl}
use mathlib.Core.List.{List, [], ◌∷◌}
use Prim.Native.Nat.{ℕ}
use lib.ListN.{replicate}
use Rattle.decimal.specs.Ascii.{ascii}
use Rattle.names.specs.Columns.{cell_columns}
use Rattle.intake.specs.declared.Stage.TheVariants.{WaitingForSizeNames}
use Rattle.intake.specs.declared.Stage.TheVariants.{WaitingForWeightOrCellNames, WaitingForWeight}
use Rattle.intake.specs.declared.Stage.TheVariants.{WaitingForCellNames, TakingCells}
use Rattle.intake.specs.Intake.{LentSheet, lent_sheet, refused, accept, refuse, line_after, end_taken}
use Rattle.intake.specs.Intake.{new_intake}
use Rattle.intake.proofs.Cases.{sizes_of, in_stage, at_sizes, at_names, at_weight, at_cell_names, at_cells}
use Rattle.intake.proofs.Cases.{trace, bytes, lent, cleared}

-- ---- a weighted sheet of two rows and two columns; there are 5 bytes and 3 weights

abbrev pub weighted : List (List ℕ)
weighted =
    ascii "rows,cols,depth"
    ∷ ascii "2,2,1"
    ∷ ascii "weight"
    ∷ ascii "3"
    ∷ ascii " 1000"
    ∷ ascii "row,col,dir"
    ∷ ascii "1,0,16"
    ∷ []

pub weighted_sheet_lem : trace new_intake (lent_sheet (replicate 5 7) (replicate 3 7)) weighted ≡
    accept at_sizes (lent_sheet (replicate 5 7) (replicate 3 7))
    ∷ accept (WaitingForWeightOrCellNames (sizes_of 2 2 1)) (lent_sheet (0 ∷ 0 ∷ 0 ∷ 0 ∷ 7 ∷ []) (1 ∷ 1 ∷ 7 ∷ []))
    ∷ accept (WaitingForWeight (sizes_of 2 2 1) 0) (lent_sheet (0 ∷ 0 ∷ 0 ∷ 0 ∷ 7 ∷ []) (1 ∷ 1 ∷ 7 ∷ []))
    ∷ accept (WaitingForWeight (sizes_of 2 2 1) 1) (lent_sheet (0 ∷ 0 ∷ 0 ∷ 0 ∷ 7 ∷ []) (3 ∷ 1 ∷ 7 ∷ []))
    ∷ accept (WaitingForCellNames (sizes_of 2 2 1)) (lent_sheet (0 ∷ 0 ∷ 0 ∷ 0 ∷ 7 ∷ []) (3 ∷ 1000 ∷ 7 ∷ []))
    ∷ accept (TakingCells (sizes_of 2 2 1) cell_columns) (lent_sheet (0 ∷ 0 ∷ 0 ∷ 0 ∷ 7 ∷ []) (3 ∷ 1000 ∷ 7 ∷ []))
    ∷ accept (TakingCells (sizes_of 2 2 1) cell_columns) (lent_sheet (0 ∷ 0 ∷ 16 ∷ 0 ∷ 7 ∷ []) (3 ∷ 1000 ∷ 7 ∷ []))
    ∷ []
unfolding trace
weighted_sheet_lem = refl

-- the first row is the last
pub one_row : line_after (in_stage (WaitingForWeight (sizes_of 1 4 2) 0)) (ascii "9") lent ≡ accept
    (WaitingForCellNames (sizes_of 1 4 2)) (lent_sheet bytes (9 ∷ 6 ∷ 7 ∷ 8 ∷ []))
unfolding line_after
one_row = refl

-- ---- the weight of a row, of the last row, and its boundaries

pub weight_1 : line_after (in_stage (at_weight 1)) (ascii "1") lent ≡ accept (at_weight 2)
    (lent_sheet bytes (5 ∷ 1 ∷ 7 ∷ 8 ∷ []))
unfolding line_after
weight_1 = refl

pub weight_1000 : line_after (in_stage (at_weight 2)) (ascii "        1000") lent ≡ accept at_cell_names
    (lent_sheet bytes (5 ∷ 6 ∷ 1000 ∷ 8 ∷ []))
unfolding line_after
weight_1000 = refl

-- 17: a weight outside 1 to 1000, judged before it is cut to 16 bits. A refused line returns the state it got.
pub seventeen : trace (in_stage (at_weight 1)) lent
    (ascii "0"
    ∷ ascii "1001"
    ∷ ascii "65535"
    ∷ ascii "65536"
    ∷ ascii "65537"
    ∷ ascii "66536"
    ∷ ascii "99999"
    ∷ []) ≡ replicate 7 (refuse (at_weight 1) lent 17)
unfolding trace
seventeen = refl

-- 8: a line that is not one value
pub no_weight : trace (in_stage (at_weight 1)) lent
    (ascii "100000"
    ∷ ascii "01"
    ∷ ascii "         7"
    ∷ ascii "7 "
    ∷ ascii "7,"
    ∷ ascii "7,7"
    ∷ ascii ""
    ∷ ascii "-1"
    ∷ ascii "7\n"
    ∷ ascii "weight"
    ∷ ascii "row,col,dir"
    ∷ []) ≡ replicate 11 (refuse (at_weight 1) lent 8)
unfolding trace
no_weight = refl

-- ---- names: `weight` once and straight after the sizes, or cell names

pub weight_name : line_after (in_stage at_names) (ascii "weight") cleared ≡ accept (at_weight 0) cleared
unfolding line_after
weight_name = refl

pub cell_names_lem : line_after (in_stage at_names) (ascii "row,col,dir") cleared ≡ accept at_cells cleared
unfolding line_after
cell_names_lem = refl

pub no_names : trace (in_stage at_names) lent
    (ascii "weight,weight" ∷ ascii "weight," ∷ ascii " weight" ∷ ascii "Weight" ∷ ascii "7" ∷ ascii "0,0,1" ∷ [])
    ≡ replicate 6 (refuse at_names lent 8)
unfolding trace
no_names = refl

-- a second `weight` after the last weight; a weight too many
pub second_weight : trace (in_stage at_cell_names) lent (ascii "weight" ∷ ascii "7" ∷ [])
    ≡ replicate 2 (refuse at_cell_names lent 8)
unfolding trace
second_weight = refl

-- `weight` elsewhere
pub weight_first : line_after new_intake (ascii "weight") lent ≡ refuse WaitingForSizeNames lent 8
unfolding line_after
weight_first = refl

pub weight_for_sizes : line_after (in_stage at_sizes) (ascii "weight") lent ≡ refuse at_sizes lent 8
unfolding line_after
weight_for_sizes = refl

pub weight_after_cell_names : line_after (in_stage at_cells) (ascii "weight") lent ≡ refuse at_cells lent 8
unfolding line_after
weight_after_cell_names = refl

-- ---- 3: a weight for each row

pub weights_exact : line_after (in_stage at_sizes) (ascii "3,4,2") (lent_sheet bytes (5 ∷ 6 ∷ 7 ∷ [])) ≡ accept at_names
    (lent_sheet (replicate 12 0) (1 ∷ 1 ∷ 1 ∷ []))
unfolding line_after
weights_exact = refl

pub weights_short : line_after (in_stage at_sizes) (ascii "3,4,2") (lent_sheet bytes (5 ∷ 6 ∷ [])) ≡ refuse at_sizes
    (lent_sheet bytes (5 ∷ 6 ∷ [])) 3
unfolding line_after
weights_short = refl

pub two_before_short_weights : line_after (in_stage at_sizes) (ascii "3,4,37") (lent_sheet bytes []) ≡ refuse at_sizes
    (lent_sheet bytes []) 2
unfolding line_after
two_before_short_weights = refl

-- the same of a state, whatever its stage and the line
abbrev pub short : LentSheet
short = lent_sheet bytes (5 ∷ 6 ∷ [])

pub short_at_names : line_after (in_stage at_names) (ascii "x") short ≡ refuse at_names short 3
unfolding line_after
short_at_names = refl

pub short_at_weight : line_after (in_stage (at_weight 0)) (ascii "7") short ≡ refuse (at_weight 0) short 3
unfolding line_after
short_at_weight = refl

pub short_at_cell_names : line_after (in_stage at_cell_names) (ascii "row,col,dir") short ≡ refuse at_cell_names short 3
unfolding line_after
short_at_cell_names = refl

pub short_at_cells : line_after (in_stage at_cells) (ascii "0,0,1") short ≡ refuse at_cells short 3
unfolding line_after
short_at_cells = refl

-- ---- 9: a state that waits for the weight of a row outside its sheet, whatever the line; straight after 3

pub row_outside : trace (in_stage (at_weight 3)) lent
    (ascii "7" ∷ ascii "0" ∷ ascii "x" ∷ ascii "weight" ∷ ascii "row,col,dir" ∷ ascii "7\n" ∷ [])
    ≡ replicate 6 (refuse (at_weight 3) lent 9)
unfolding trace
row_outside = refl

pub row_far_outside : line_after (in_stage (at_weight 18446744073709551615)) (ascii "7") lent ≡ refuse
    (at_weight 18446744073709551615) lent 9
unfolding line_after
row_far_outside = refl

pub three_before_nine : line_after (in_stage (at_weight 3)) (ascii "7") short ≡ refuse (at_weight 3) short 3
unfolding line_after
three_before_nine = refl

pub two_before_nine : line_after (in_stage (WaitingForWeight (sizes_of 3 4 37) 3)) (ascii "7") short ≡ refuse
    (WaitingForWeight (sizes_of 3 4 37) 3) short 2
unfolding line_after
two_before_nine = refl

pub one_before_nine : line_after (in_stage (WaitingForWeight (sizes_of 0 4 2) 0)) (ascii "7") lent ≡ refuse
    (WaitingForWeight (sizes_of 0 4 2) 0) lent 1
unfolding line_after
one_before_nine = refl

-- ---- 14: the end in a stage of weights

pub end_of_weight_name : end_taken (in_stage (at_weight 0)) ≡ refused (at_weight 0) 14
unfolding end_taken
end_of_weight_name = refl

pub end_among_weights : end_taken (in_stage (at_weight 2)) ≡ refused (at_weight 2) 14
unfolding end_taken
end_among_weights = refl

pub end_of_row_outside : end_taken (in_stage (at_weight 3)) ≡ refused (at_weight 3) 14
unfolding end_taken
end_of_row_outside = refl

pub end_of_weights : end_taken (in_stage at_cell_names) ≡ refused at_cell_names 14
unfolding end_taken
end_of_weights = refl
