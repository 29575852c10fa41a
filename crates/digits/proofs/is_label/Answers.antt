-- `is_label` meets its contract: a number that does not fit refuses the label, and two that fit are judged by their
-- counts of digits.
use native.Mathlib.Omega.{arith}
use mathlib.Core.Path.{sym, ◌∙◌}
use Rattle.digits.proofs.Numbers.{first_unfit, rest_unfit, label_by_counts}
use Rattle.digits.proofs.Numbers.{count_fits, count_unfit, count_short}
use Rattle.digits.proofs.is_label.Goals as goal

pub counts_fit-requires : goal.counts_fit-requires
counts_fit-requires c = (
  count_short _ _ (sym c.fitting_count.ensures ∙ c.in-Some.is),
  count_short _ _ (sym c.fitting_count-2.ensures ∙ c.in-Some-fitting_count.is),
)

pub returns-in_default : goal.returns-in_default
returns-in_default c = sym (first_unfit _ c.args.label (count_unfit _ (sym c.fitting_count.ensures ∙ c.in_default.is)))

pub returns-in_default-fitting_count : goal.returns-in_default-fitting_count
returns-in_default-fitting_count c =
    sym (rest_unfit _ c.args.label (count_unfit _ (sym c.fitting_count-2.ensures ∙ c.in_default-fitting_count.is)))

pub returns : goal.returns
returns c =
    let first = count_fits _ _ (sym c.fitting_count.ensures ∙ c.in-Some.is) in
    let rest = count_fits _ _ (sym c.fitting_count-2.ensures ∙ c.in-Some-fitting_count.is) in
    c.counts_fit.ensures ∙ rw (← first.1, ← rest.1)
    (sym (label_by_counts _ c.args.label (omega arith) first.0 rest.0))
