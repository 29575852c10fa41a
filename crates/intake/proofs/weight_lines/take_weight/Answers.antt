-- `take_weight` meets its contract.
use native.Mathlib.Omega.{arith}
use mathlib.Core.Path.{sym, ◌∙◌}
use Rattle.lines.specs.Values.{first_value}
use Rattle.sheet.specs.Refusal.{weight_fits}
use Rattle.sheet.proofs.Within.{within_both}
use Rattle.intake.specs.Intake.{weight_written}
use Rattle.intake.proofs.LineLaws.{weight_accepted, weight_refused}
use Rattle.intake.proofs.weight_lines.take_weight.Goals as goal

pub overflow_cast-weights : goal.overflow_cast-weights
unfolding weight_fits
overflow_cast-weights c =
    let weight = first_value c.args.values in
    omega (arith, (within_both 1000 weight (sym c.weight_fits.ensures ∙ c.if-weight_fits.true)).1)

pub returns-then-weight_fits : goal.returns-then-weight_fits
unfolding weight_written
returns-then-weight_fits c =
    λ dirs. simp (c.accepted.ensures, c.after_weights-next.ensures)
    (sym (weight_accepted _ _ _ _ (sym c.weight_fits.ensures ∙ c.if-weight_fits.true)))

pub returns : goal.returns
returns c =
    λ dirs. simp c.refused.ensures
    (sym (weight_refused _ _ _ _ (sym c.weight_fits.ensures ∙ c.if-weight_fits.false)))
