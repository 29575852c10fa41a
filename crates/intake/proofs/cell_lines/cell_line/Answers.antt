-- `cell_line` meets its contract.
use mathlib.Core.Path.{sym, ◌∙◌}
use Rattle.intake.specs.Intake.{on_cells}
use Rattle.intake.proofs.cell_lines.cell_line.Goals as goal

pub returns-in_default : goal.returns-in_default
unfolding on_cells
returns-in_default c =
    λ weights.
    simp (sym c.read_values.ensures.line ∙ c.in_default.is, c.refused.ensures)

pub returns : goal.returns
returns c =
    λ weights. simp (
      sym c.read_values.ensures.line
          ∙ c.in-Some.is,
      c.take_cell.ensures weights,
    )
