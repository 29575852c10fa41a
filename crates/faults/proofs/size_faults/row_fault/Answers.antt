-- `row_fault` meets its contract.
use mathlib.Core.Path.{◌≡◌, sym, ◌∙◌, ap}
use Rattle.std.proofs.lemmas.Result.{err_from_is_err_and}
use Rattle.sheet.specs.Answer.{Outcome, Refused, outcome_of_fault}
use Rattle.sheet.proofs.Answer.{accepted_no_fault, refused_fault}
use Rattle.faults.specs.Faults.{row_fault}
use Rattle.faults.proofs.FaultLaws.{row_within, row_outside, row_sizes}
use Rattle.faults.proofs.size_faults.row_fault.Goals as goal

pub returns-in_err-sizes_fault : goal.returns-in_err-sizes_fault
returns-in_err-sizes_fault c =
    let e = sym c.sizes_fault.ensures ∙ c.in_err-sizes_fault.was in
    let p = err_from_is_err_and c.from_residual.result c.from_residual.ensures.1 in
    rw (p.1, p.2) (sym e ∙ ap outcome_of_fault (sym (row_sizes _ _ _ _ (refused_fault _ e))))

pub returns-then-row-sizes : goal.returns-then-row-sizes
returns-then-row-sizes c =
    let none = accepted_no_fault _ (sym c.sizes_fault.ensures ∙ c.in_ok-sizes_fault.was) in
    let nine : ◌≡◌ {A = Outcome} (Refused 9 0) (outcome_of_fault (row_fault c.args.sizes c.args.row c.args.dirs c.args.weights)) =
    ap outcome_of_fault (sym (row_outside _ _ _ _ none c.if-row-sizes.true)) in
    cc

pub returns : goal.returns
returns c =
    ap outcome_of_fault
    (sym (row_within _ _ _ _ (accepted_no_fault _ (sym c.sizes_fault.ensures ∙ c.in_ok-sizes_fault.was)) c.if-row-sizes.false))
