-- Document 01's sheet: inside cells, where a cell's water goes, outlets.
use Rattle.std.specs.Prelude.{Bool, true, false, cond, not, List, ℕ, zero, suc, ◌*◌, ◌/◌, ◌%◌, ltb, eqb, get_or, None, Some}
use Rattle.sheet.specs.Direction.{step_of, step_end}
use Rattle.sheet.specs.Answer.{End, Next, Found}

-- the rows, columns and direction bytes of a sheet; more bytes than cells may be lent
pub record Grid : Type 0 where
  pub rows : ℕ
  pub cols : ℕ
  pub dirs : List ℕ

abbrev pub grid : ℕ → ℕ → List ℕ → Grid
grid rows cols dirs = record { rows = rows; cols = cols; dirs = dirs }

-- "sheet": a grid, the depth in digits of its labels, document 02's "least" and "split", and its weights, one a row;
-- more weights than rows may be lent
pub record Sheet : Type 0 where
  pub grid : Grid
  pub depth : ℕ
  pub least : ℕ  -- the smallest area for which a mouth is counted in a split
  pub split : ℕ  -- how many of the counted mouths of a unit are taken, at most
  pub weights : List ℕ

-- n = rows × columns
abbrev pub cells : Grid → ℕ
cells G = G.rows * G.cols

abbrev pub dir_at : Grid → ℕ → ℕ
dir_at G c = get_or G.dirs c 0

-- "inside": a cell with a non-zero code
unfoldable pub inside : Grid → ℕ → Bool
inside G c = cond (ltb c (cells G)) (not (eqb (dir_at G c) 0)) false

-- the cell that the step of an inside cell ends on
unfoldable pub end_of : Grid → ℕ → End
unfolding step_of step_end
end_of G c = step_end G.rows G.cols (c / G.cols) (c % G.cols) (step_of (dir_at G c))

-- water that a step takes off the sheet or onto an outside cell goes nowhere
unfoldable pub onto : Grid → End → Next
unfolding inside
onto G None = None
onto G (Some t) = cond (inside G t) (Some t) None

-- where a cell's water goes; that of an outside cell goes nowhere
unfoldable pub next : Grid → ℕ → Next
unfolding inside end_of onto
next G c = cond (inside G c) (onto G (end_of G c)) None

abbrev pub goes_nowhere : Next → Bool
goes_nowhere None = true
goes_nowhere (Some r) = false

-- "outlet": an inside cell whose step leaves the sheet or ends on an outside cell
unfoldable pub is_outlet : Grid → ℕ → Bool
unfolding inside next
is_outlet G c = cond (inside G c) (goes_nowhere (next G c)) false

-- the first of the m cells from i on that passes a test
unfoldable pub first_from : (ℕ → Bool) → ℕ → ℕ → Found
first_from test i zero = None
first_from test i (suc m) = let r = first_from test (suc i) m in cond (test i) (Some i) r

-- the first of n cells in "reading order", which is rising cell number, that passes a test
unfoldable pub first : (ℕ → Bool) → ℕ → Found
unfolding first_from
first test n = first_from test 0 n
