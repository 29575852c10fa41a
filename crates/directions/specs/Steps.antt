-- The entries of the table of steps, steps that are short, and the cell that is found one step back.
use Rattle.std.specs.Prelude.{cond, ℕ, ◌+◌, ◌%◌, ◌<◌, eqb, ℤ, get_or, None, Some}
use Rattle.std.specs.Int.Signed.{mag}
use Rattle.sheet.specs.declared.Step.{Step}
use Rattle.sheet.specs.Direction.{steps, no_step, step_end}
use Rattle.sheet.specs.Sheet.{Grid, dir_at}
use Rattle.sheet.specs.Answer.{End}

-- the k-th step of the table
abbrev pub step_at : ℕ → Step
step_at k = get_or steps k no_step

-- a row or a column below 256, and a step of at most one
pub record Near (at : ℕ) (z : ℤ) : Type 0 where
  pub small : at < 256
  pub short : mag z < 2

-- a step of at most one row and one column
pub record Short (s : Step) : Type 0 where
  pub rows : mag s.row < 2
  pub cols : mag s.col < 2

-- the cell t, if its code is that of the k-th step
unfoldable pub with_code : Grid → ℕ → End → End
with_code G k None = None
with_code G k (Some t) = cond (eqb (dir_at G t) (step_at k).code) (Some t) None

-- the neighbour of the cell in a row and a column against the k-th step: the cell one step back, if that step is its
-- own
unfoldable pub neighbour_against : Grid → ℕ → ℕ → ℕ → End
unfolding step_end with_code
neighbour_against G row col k = with_code G k (step_end G.rows G.cols row col (step_at ((k + 4) % 8)))
