-- Document 01's direction codes, their steps, and the cell that a step ends on.
use Rattle.std.specs.Prelude.{Bool, cond, List, [], ◌∷◌, ℕ, ◌+◌, ◌*◌, ltb, eqb, ℤ, pos, negsuc, ◌+ℤ◌, None, Some}
use Rattle.sheet.specs.declared.Step.{Step}
use Rattle.sheet.specs.Answer.{End}

abbrev pub step : ℕ → ℤ → ℤ → Step
step code row col = record { code = code; row = row; col = col }

-- east, southeast, south, southwest, west, northwest, north, northeast; row 0 is the north edge, column 0 the west
abbrev pub steps : List Step
steps =
    step 1 (pos 0) (pos 1)
    ∷ step 2 (pos 1) (pos 1)
    ∷ step 4 (pos 1) (pos 0)
    ∷ step 8 (pos 1) (negsuc 0)
    ∷ step 16 (pos 0) (negsuc 0)
    ∷ step 32 (negsuc 0) (negsuc 0)
    ∷ step 64 (negsuc 0) (pos 0)
    ∷ step 128 (negsuc 0) (pos 1)
    ∷ []

-- of the code 0, and of a byte that is no code: it stays in place
abbrev pub no_step : Step
no_step = step 0 (pos 0) (pos 0)

-- the first step of a list with a code
unfoldable pub step_in : List Step → ℕ → Step
step_in [] code = no_step
step_in (s ∷ ss) code = let r = step_in ss code in cond (eqb s.code code) s r

-- the step of a code
unfoldable pub step_of : ℕ → Step
unfolding step_in
step_of code = step_in steps code

-- the nine codes: 0, and those of the table
unfoldable pub is_code : ℕ → Bool
unfolding step_of
is_code byte = eqb (step_of byte).code byte

-- the number z, where it is below count
unfoldable pub below : ℕ → ℤ → End
below count (pos n) = cond (ltb n count) (Some n) None
below count (negsuc n) = None

-- a row or a column that a signed step leads to, of count many
unfoldable pub moved_by : ℕ → ℤ → ℕ → End
unfolding below
moved_by at z count = below count (pos at +ℤ z)

-- cell number = row × columns + column
abbrev pub cell_number : ℕ → ℕ → ℕ → ℕ
cell_number cols row col = row * cols + col

-- the cell of a row and a column, where both are on the sheet
unfoldable pub cell_at : ℕ → End → End → End
cell_at cols None col = None
cell_at cols (Some row) None = None
cell_at cols (Some row) (Some col) = Some (cell_number cols row col)

-- the cell that a step from a row and a column ends on
unfoldable pub step_end : ℕ → ℕ → ℕ → ℕ → Step → End
unfolding moved_by cell_at
step_end rows cols row col s = cell_at cols (moved_by row s.row rows) (moved_by col s.col cols)
