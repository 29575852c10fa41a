-- `weight_or_cell_names_line` meets its contract.
use mathlib.Core.Path.{sym, ◌∙◌}
use Rattle.intake.specs.Intake.{on_weight_or_cell_names}
use Rattle.intake.proofs.name_lines.weight_or_cell_names_line.Goals as goal

pub returns-in_default : goal.returns-in_default
unfolding on_weight_or_cell_names
returns-in_default c =
    simp (
      sym c.read_weight_names.ensures.line ∙ c.in_default.is,
      c.cell_names_line.ensures,
    )

pub returns : goal.returns
unfolding on_weight_or_cell_names
returns c =
    simp (
      sym c.read_weight_names.ensures.line ∙ c.in-Some.is,
      c.accepted.ensures,
    )
