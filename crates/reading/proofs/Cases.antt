-- The definitions tried by computation.
use mathlib.Core.Path.{◌≡◌, refl}
use mathlib.Core.List.{List, [], ◌∷◌, ◌++◌}
use Prim.Native.Nat.{ℕ}
use lib.ListN.{replicate}
use Rattle.decimal.specs.Ascii.{ascii}
use Rattle.faults.specs.declared.Sizes.{Sizes}
use Rattle.intake.specs.declared.Stage.TheVariants.{Ended as AtEnd}
use Rattle.intake.specs.Intake.{LentSheet, lent_sheet, line_after, end_taken}
use Rattle.reading.specs.Lines.{lines_of, FileRead, refused_read, end_after, read_from, read_file}
use Rattle.std.specs.Prelude.{Ok}

-- ---- lines

pub no_line : lines_of [] ≡ []
unfolding lines_of
no_line = refl

pub empty_line : lines_of (ascii "\n") ≡ [] ∷ []
unfolding lines_of
empty_line = refl

pub one_line : lines_of (ascii "a") ≡ ascii "a" ∷ []
unfolding lines_of
one_line = refl

pub one_line_ended : lines_of (ascii "a\n") ≡ ascii "a" ∷ []
unfolding lines_of
one_line_ended = refl

pub three_lines : lines_of (ascii "a\n\nbc") ≡ ascii "a" ∷ [] ∷ ascii "bc" ∷ []
unfolding lines_of
three_lines = refl

-- ---- files

-- document 01's sample A, without its last line feed
abbrev pub sample_a : List ℕ
sample_a =
    ascii "rows,cols,depth\n3,4,2\nrow,col,dir\n0,1,4\n0,2,16\n0,3,8\n1,0,16\n1,1,16\n1,2,16\n1,3,16\n2,0,64\n2,1,64\n2,2,32\n2,3,64"

abbrev pub sample_codes : List ℕ
sample_codes = 0 ∷ 4 ∷ 16 ∷ 8 ∷ 16 ∷ 16 ∷ 16 ∷ 16 ∷ 64 ∷ 64 ∷ 32 ∷ 64 ∷ []

-- a file that is read to its end, with these sizes
abbrev ended_with : Sizes → LentSheet → FileRead
ended_with z lent = record { read = Ok (record { stage = AtEnd z }); lent = lent }

-- it ends with 3 rows, 4 columns, depth 2; least and split are not named
abbrev pub sample_read : LentSheet → FileRead
sample_read lent = ended_with (record { rows = 3; cols = 4; depth = 2; least = 1; split = 4 }) lent

-- 12 direction bytes and 3 weights, and 2,048 and 256
pub sample_12 : read_file (lent_sheet (replicate 12 7) (replicate 3 7)) sample_a
    ≡ sample_read (lent_sheet sample_codes (replicate 3 1))
unfolding read_file lines_of read_from line_after end_after end_taken
sample_12 = refl

pub sample_ended : read_file (lent_sheet (replicate 12 7) (replicate 3 7)) (sample_a ++ ascii "\n")
    ≡ sample_read (lent_sheet sample_codes (replicate 3 1))
unfolding read_file lines_of read_from line_after end_after end_taken
sample_ended = refl

pub sample_2048 : read_file (lent_sheet (replicate 2048 0) (replicate 256 0)) sample_a
    ≡ sample_read (lent_sheet (sample_codes ++ replicate 2036 0) (replicate 3 1 ++ replicate 253 0))
unfolding read_file lines_of read_from line_after end_after end_taken
sample_2048 = refl

-- "An empty file gives 14, place 1."
pub empty_file : read_file (lent_sheet [] []) [] ≡ refused_read 14 1 (lent_sheet [] [])
unfolding read_file lines_of read_from line_after end_after end_taken
empty_file = refl

-- an empty line is refused as the first line
pub file_of_a_line_feed : read_file (lent_sheet [] []) (ascii "\n") ≡ refused_read 8 1 (lent_sheet [] [])
unfolding read_file lines_of read_from line_after end_after end_taken
file_of_a_line_feed = refl

-- lines read plus 1
pub end_refused : read_file (lent_sheet (0 ∷ []) (0 ∷ [])) (ascii "rows,cols,depth\n1,1,1\n")
    ≡ refused_read 14 3 (lent_sheet (0 ∷ []) (1 ∷ []))
unfolding read_file lines_of read_from line_after end_after end_taken
end_refused = refl

-- the line's number, where no direction byte is lent, and where no weight is
pub sizes_refused : read_file (lent_sheet [] (0 ∷ [])) (ascii "rows,cols,depth\n1,1,1\nrow,col,dir\n")
    ≡ refused_read 3 2 (lent_sheet [] (0 ∷ []))
unfolding read_file lines_of read_from line_after end_after end_taken
sizes_refused = refl

pub sizes_refused_weights : read_file (lent_sheet (0 ∷ []) []) (ascii "rows,cols,depth\n1,1,1\nrow,col,dir\n")
    ≡ refused_read 3 2 (lent_sheet (0 ∷ []) [])
unfolding read_file lines_of read_from line_after end_after end_taken
sizes_refused_weights = refl

-- a cell twice, in a last line without its line feed
pub last_refused : read_file (lent_sheet (0 ∷ []) (0 ∷ [])) (
    ascii "rows,cols,depth\n1,1,1\nrow,col,dir\n0,0,1\n0,0,1") ≡ refused_read 10 5 (lent_sheet (1 ∷ []) (1 ∷ []))
unfolding read_file lines_of read_from line_after end_after end_taken
last_refused = refl

-- 80 bytes are read, and 81 are too many; here both break the rules of the first line
pub after_a_refusal : read_file (lent_sheet (7 ∷ []) (7 ∷ [])) (replicate 81 97 ++ ascii "\nrows,cols,depth\n")
    ≡ refused_read 8 1 (lent_sheet (7 ∷ []) (7 ∷ []))
unfolding read_file lines_of read_from line_after end_after end_taken
after_a_refusal = refl

-- ---- weights

-- what is lent for two rows of one cell
abbrev lent_two : LentSheet
lent_two = lent_sheet (0 ∷ 0 ∷ []) (0 ∷ 0 ∷ [])

-- one weight a row, then the cells
pub weights_read : read_file lent_two (ascii "rows,cols,depth\n2,1,1\nweight\n1000\n  7\nrow,col,dir\n0,0,4\n1,0,4\n")
    ≡ ended_with (record { rows = 2; cols = 1; depth = 1; least = 1; split = 4 })
    (lent_sheet (4 ∷ 4 ∷ []) (1000 ∷ 7 ∷ []))
unfolding read_file lines_of read_from line_after end_after end_taken
weights_read = refl

-- a weight of 0, in the second row
pub weight_refused : read_file lent_two (ascii "rows,cols,depth\n2,1,1\nweight\n5\n0\n")
    ≡ refused_read 17 5 (lent_sheet (0 ∷ 0 ∷ []) (5 ∷ 1 ∷ []))
unfolding read_file lines_of read_from line_after end_after end_taken
weight_refused = refl

-- a weight too few, and weights that come again
pub weight_missing : read_file lent_two (ascii "rows,cols,depth\n2,1,1\nweight\n5\nrow,col,dir\n")
    ≡ refused_read 8 5 (lent_sheet (0 ∷ 0 ∷ []) (5 ∷ 1 ∷ []))
unfolding read_file lines_of read_from line_after end_after end_taken
weight_missing = refl

pub weight_again : read_file lent_two (ascii "rows,cols,depth\n2,1,1\nweight\n5\n6\nweight\n")
    ≡ refused_read 8 6 (lent_sheet (0 ∷ 0 ∷ []) (5 ∷ 6 ∷ []))
unfolding read_file lines_of read_from line_after end_after end_taken
weight_again = refl

-- the end among the weights
pub weights_cut : read_file lent_two (ascii "rows,cols,depth\n2,1,1\nweight\n5\n")
    ≡ refused_read 14 5 (lent_sheet (0 ∷ 0 ∷ []) (5 ∷ 1 ∷ []))
unfolding read_file lines_of read_from line_after end_after end_taken
weights_cut = refl

-- ---- least and split

-- five columns, then weights and cells
pub split_read : read_file lent_two (
    ascii "split,rows,least,cols,depth\n2,2,  65536000,1,1\nweight\n1000\n  7\nrow,col,dir\n0,0,4\n1,0,4\n")
    ≡ ended_with (record { rows = 2; cols = 1; depth = 1; least = 65536000; split = 2 })
    (lent_sheet (4 ∷ 4 ∷ []) (1000 ∷ 7 ∷ []))
unfolding read_file lines_of read_from line_after end_after end_taken
split_read = refl

-- least without split, in the first line, and a split of 5, in the second
pub least_alone : read_file lent_two (ascii "rows,cols,depth,least\n2,1,1,1\n") ≡ refused_read 8 1 lent_two
unfolding read_file lines_of read_from line_after end_after end_taken
least_alone = refl

pub split_refused : read_file lent_two (ascii "rows,cols,depth,least,split\n2,1,1,1,5\n") ≡ refused_read 19 2 lent_two
unfolding read_file lines_of read_from line_after end_after end_taken
split_refused = refl
