-- `cell_names_line` meets its contract.
use mathlib.Core.Path.{sym, ◌∙◌}
use Rattle.intake.specs.Intake.{on_cell_names}
use Rattle.intake.proofs.name_lines.cell_names_line.Goals as goal

pub returns-in_default : goal.returns-in_default
unfolding on_cell_names
returns-in_default c =
    simp (
      sym c.read_cell_names.ensures.line ∙ c.in_default.is,
      c.refused.ensures,
    )

pub returns : goal.returns
unfolding on_cell_names
returns c =
    simp (
      sym c.read_cell_names.ensures.line ∙ c.in-Some.is,
      c.accepted.ensures,
    )
