-- `is_outlet` meets its contract.
use mathlib.Core.Path.{◌≡◌, sym, ◌∙◌}
use Prim.Native.Nat.{◌+◌, ◌*◌}
use native.Mathlib.Omega.{arith}
use Rattle.sheet.specs.Sheet.{grid, next}
use Rattle.std.specs.Prelude.{is_some}
use mathlib.Core.Path.{ap}
use Rattle.sheet.proofs.Cells.{inside_no, inside_yes, is_none_outlet, outlet_outside}
use Rattle.directions.proofs.Sizes.{on_lt, on_fits}
use Rattle.directions.proofs.Grid.is_outlet.Goals as goal
use Rattle.directions.proofs.Grid.is_outlet.Goals.{After-is_none}

pub overflow_mul-row : goal.overflow_mul-row
overflow_mul-row c = omega (arith, on_fits c.requires.1)

pub overflow_add-row : goal.overflow_add-row
overflow_add-row c = omega (arith, on_fits c.requires.1)

pub bounds-self-row : goal.bounds-self-row
bounds-self-row c = omega (arith, on_lt c.requires.1, c.requires.0.long)

-- what the call answers
next_is : (c : After-is_none)
    → let a =
    c.args in c.next_at.result ≡ next (grid a.self.rows a.self.cols a.self.dirs.now)
    (a.row * a.self.cols + a.col)
next_is c = c.next_at.ensures

pub returns-then-self-row-ne0 : goal.returns-then-self-row-ne0
returns-then-self-row-ne0 c =
    is_none_outlet _ _ (inside_yes _ _ (on_lt c.requires.1) c.if-self-row-ne0.true)
    (c.is_none.result) (ap is_some (sym (next_is c)) ∙ c.is_none.ensures)

pub returns-else-self-row-ne0 : goal.returns-else-self-row-ne0
returns-else-self-row-ne0 c =
    rw c.if-self-row-ne0.false (outlet_outside _ _ (inside_no _ _ c.if-self-row-ne0.false))
