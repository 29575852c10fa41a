-- `size_names_line` meets its contract.
use mathlib.Core.Path.{sym, ◌∙◌}
use Rattle.intake.specs.Intake.{on_size_names}
use Rattle.intake.proofs.name_lines.size_names_line.Goals as goal

pub returns-in_default : goal.returns-in_default
unfolding on_size_names
returns-in_default c =
    simp (
      sym c.read_size_names.ensures.line ∙ c.in_default.is,
      c.refused.ensures,
    )

pub returns : goal.returns
unfolding on_size_names
returns c =
    simp (
      sym c.read_size_names.ensures.line ∙ c.in-Some.is,
      c.accepted.ensures,
    )
