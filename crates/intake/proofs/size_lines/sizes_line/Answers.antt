-- `sizes_line` meets its contract.
use mathlib.Core.Path.{sym, ◌∙◌}
use Rattle.intake.specs.Intake.{on_sizes}
use Rattle.intake.proofs.size_lines.sizes_line.Goals as goal

pub returns-in_default : goal.returns-in_default
unfolding on_sizes
returns-in_default c =
    simp (sym c.read_values.ensures.line ∙ c.in_default.is, c.refused.ensures)

pub returns : goal.returns
returns c =
    simp (sym c.read_values.ensures.line ∙ c.in-Some.is, c.take_sizes.ensures)
