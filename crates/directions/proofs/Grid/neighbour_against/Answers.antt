-- `neighbour_against` meets its contract.
use mathlib.Core.Path.{◌≡◌, sym, ◌∙◌}
use native.Mathlib.Omega.{arith}
use Rattle.sheet.specs.Sheet.{grid}
use Rattle.directions.proofs.Steps.{table_short, back}
use Rattle.sheet.proofs.Cells.{end_lt}
use Rattle.directions.proofs.Neighbours.{step_back, neighbour_off, neighbour_no, neighbour_yes}
use Rattle.directions.proofs.Grid.neighbour_against.Goals as goal
use Rattle.directions.proofs.Grid.neighbour_against.Goals.{In_ok-from}
use Rattle.std.specs.Prelude.{Some}

-- the step back ends on the cell
ends : (c : In_ok-from)
    → let a =
    c.args in step_back (grid a.self.rows a.self.cols a.self.dirs.now)
    a.row a.col a.k ≡ Some c.in_ok-from.from
ends c =
    sym (rw c.step_at-back.ensures at c.step_end.ensures)
    ∙ c.in_ok-from.was

pub step_end-requires : goal.step_end-requires
step_end-requires c =
    (c.requires.1, rw c.step_at-back.ensures (table_short (back c.args.k)))

pub bounds-self-from : goal.bounds-self-from
bounds-self-from c = omega (arith, end_lt _ _ _ _ _ (ends (goal.at.bounds-self-from c).In_ok-from))

pub returns-in_err-from : goal.returns-in_err-from
returns-in_err-from c =
    c.from_residual.ensures ∙ neighbour_off _ _ _ _
    (sym (rw c.step_at-back.ensures at
    c.step_end.ensures) ∙ c.in_err-from.was)

pub returns-then-self-from : goal.returns-then-self-from
returns-then-self-from c =
    neighbour_yes _ _ _ _
    (record {
      ends = ends (goal.at.returns-then-self-from c).In_ok-from;
      code = rw
          c.step_at.ensures at c.if-self-from.true;
    })

pub returns-else-self-from : goal.returns-else-self-from
returns-else-self-from c =
    neighbour_no _ _ _ _ (ends (goal.at.returns-else-self-from c).In_ok-from)
    (rw c.step_at.ensures at c.if-self-from.false)
