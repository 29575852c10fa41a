-- `next_at` meets its contract.
use mathlib.Core.Path.{◌≡◌, sym, ◌∙◌}
use mathlib.Core.Bool.{true}
use Prim.Native.Nat.{ℕ, ◌+◌, ◌*◌, ◌<◌}
use native.Mathlib.Omega.{arith}
use Rattle.sheet.specs.Direction.{step_of, step_end}
use Rattle.sheet.specs.Sheet.{Grid, grid, dir_at, end_of, inside}
use Rattle.directions.proofs.Steps.{step_short}
use Rattle.sheet.proofs.Cells.{end_lt, end_of_lem, inside_no, inside_yes, next_outside, next_off, next_out, next_to}
use Rattle.directions.proofs.Sizes.{on_lt, on_fits}
use Rattle.directions.proofs.Grid.next_at.Goals as goal
use Rattle.directions.proofs.Grid.next_at.Goals.{After-step_end, In_ok-to}

pub overflow_mul-code : goal.overflow_mul-code
overflow_mul-code c = omega (arith, on_fits c.requires.1)

pub overflow_add-code : goal.overflow_add-code
overflow_add-code c = omega (arith, on_fits c.requires.1)

pub bounds-self-row : goal.bounds-self-row
bounds-self-row c = omega (arith, on_lt c.requires.1, c.requires.0.long)

pub returns-then-code-eq0 : goal.returns-then-code-eq0
returns-then-code-eq0 c = next_outside _ _ (inside_no _ _ c.if-code-eq0.true)

pub step_end-requires : goal.step_end-requires
step_end-requires c = (c.requires.1, rw c.step_of.ensures (step_short _))

abbrev sheet_of-After-step_end : After-step_end → Grid
sheet_of-After-step_end c = grid c.args.self.rows c.args.self.cols c.args.self.dirs.now

abbrev cell-After-step_end : After-step_end → ℕ
cell-After-step_end c = c.args.row * c.args.self.cols + c.args.col

-- the cell is inside, and its step is followed
from_inside : (c : After-step_end)
    → inside (sheet_of-After-step_end c) (cell-After-step_end c) ≡ true
from_inside c =
    inside_yes _ _ (on_lt c.requires.1) c.if-code-eq0.false

end_is : (c : After-step_end) → c.step_end.result ≡ step_end c.args.self.rows c.args.self.cols c.args.row c.args.col
    (step_of (dir_at (sheet_of-After-step_end c) (cell-After-step_end c)))
end_is c = rw c.step_of.ensures at c.step_end.ensures

ends : (c : After-step_end)
    → c.step_end.result ≡ end_of (sheet_of-After-step_end c) (cell-After-step_end c)
ends c =
    end_is c ∙ sym (end_of_lem (sheet_of-After-step_end c) c.args.row c.args.col c.requires.1.col_on)

to-lt : (c : In_ok-to)
    → let a = c.args in c.in_ok-to.to < a.self.rows * a.self.cols
to-lt c = end_lt _ _ _ _ _ (sym c.step_end.ensures ∙ c.in_ok-to.was)

pub bounds-self-to : goal.bounds-self-to
bounds-self-to c =
    omega (arith, to-lt (goal.at.bounds-self-to c).In_ok-to, c.requires.0.long)

pub returns-in_err-to : goal.returns-in_err-to
returns-in_err-to c =
    c.from_residual.ensures
    ∙ next_off _ _ (from_inside (goal.at.returns-in_err-to c).After-step_end)
    (sym (ends (goal.at.returns-in_err-to c).After-step_end) ∙ c.in_err-to.was)

pub returns-then-self-to-eq0 : goal.returns-then-self-to-eq0
returns-then-self-to-eq0 c =
    next_out _ _ (from_inside (goal.at.returns-then-self-to-eq0 c).After-step_end) (sym (ends (goal.at.returns-then-self-to-eq0 c).After-step_end) ∙ c.in_ok-to.was) (inside_no _ _ c.if-self-to-eq0.true)

pub returns-else-self-to-eq0 : goal.returns-else-self-to-eq0
returns-else-self-to-eq0 c =
    next_to _ _
    (record {
      from_inside = from_inside (goal.at.returns-else-self-to-eq0 c).After-step_end;
      ends = sym
          (ends (goal.at.returns-else-self-to-eq0 c).After-step_end) ∙ c.in_ok-to.was;
      to_inside = inside_yes _ _ (to-lt (goal.at.returns-else-self-to-eq0 c).In_ok-to) c.if-self-to-eq0.false;
    })
