-- `first_checks` meets its contract: by which of checks 1, 2, 19 and 3 is passed.
use mathlib.Core.Path.{◌≡◌, sym, ◌∙◌}
use mathlib.Core.Bool.{true}
use native.Mathlib.Omega.{arith}
use borrow.Author.Tests.{ne_eqb}
use Rattle.std.proofs.lemmas.Result.{err_from_is_err_and}
use Rattle.sheet.specs.Refusal.{sizes_fit}
use Rattle.sheet.proofs.Answer.{accepted_no_fault, refused_fault}
use Rattle.sheet.proofs.Within.{no_fault}
use Rattle.labelling.specs.Labelling.{checked_first}
use Rattle.labelling.proofs.Calls.{bounded}
use Rattle.labelling.proofs.first_checks.Goals as goal
use Rattle.labelling.proofs.first_checks.Goals.{In_ok-sheet_fault}

-- after checks 1, 2 and 19
sizes_passed : (c : In_ok-sheet_fault) → sizes_fit c.args.sizes.rows c.args.sizes.cols ≡ true
sizes_passed c = (no_fault _ _ _ _ _ (accepted_no_fault _ (sym c.sheet_fault.ensures ∙ c.in_ok-sheet_fault.was))).0

pub overflow_mul-n : goal.overflow_mul-n
overflow_mul-n c = omega (arith, (bounded _ _ (sizes_passed (goal.at.overflow_mul-n c).In_ok-sheet_fault)).cells_fit)

pub slices_fit-requires : goal.slices_fit-requires
slices_fit-requires c = (bounded _ _ (sizes_passed (goal.at.slices_fit-requires c).In_ok-sheet_fault)).cells_fit

pub returns-in_err-sheet_fault : goal.returns-in_err-sheet_fault
unfolding checked_first
returns-in_err-sheet_fault c =
    let e = sym c.sheet_fault.ensures ∙ c.in_err-sheet_fault.was in
    let p = err_from_is_err_and c.from_residual.result c.from_residual.ensures.1 in
    rw (p.1, p.2, ne_eqb _ 0 (refused_fault _ e)) (sym (rw (ne_eqb _ 0 (refused_fault _ e)) at e))

pub returns-then-not-slices_fit : goal.returns-then-not-slices_fit
unfolding checked_first
returns-then-not-slices_fit c =
    rw (
      c.numbered.ensures,
      accepted_no_fault _ (sym c.sheet_fault.ensures ∙ c.in_ok-sheet_fault.was),
      sym c.slices_fit.ensures ∙ c.if-not-slices_fit.true,
    )

pub returns : goal.returns
unfolding checked_first
returns c =
    rw (
      accepted_no_fault _ (sym c.sheet_fault.ensures ∙ c.in_ok-sheet_fault.was),
      sym c.slices_fit.ensures ∙ c.if-not-slices_fit.false,
    )
