-- `take_sizes` meets its contract.
use native.Mathlib.Omega.{arith}
use mathlib.Core.Path.{sym, ◌∙◌}
use lib.ListN.{length}
use Rattle.sheet.proofs.Answer.{accepted_no_fault, refused_fault, refused_by_fault}
use lib.Seq.{length-take-le}
use Rattle.faults.proofs.FaultLaws.{Fits, sizes_fit_lem}
use Rattle.intake.specs.Intake.{sizes_written}
use Rattle.sheet.proofs.Cells.{cells_most}
use Rattle.intake.proofs.LineLaws.{sizes_accepted, sizes_refused}
use Rattle.intake.proofs.size_lines.take_sizes.Goals as goal
use Rattle.intake.proofs.size_lines.take_sizes.Goals.{In-Ok}

-- the sizes have no fault
none : (c : In-Ok) → Fits c.sizes_in-sizes.result
    (length c.args.dirs.now)
    (length c.args.weights.now)
none c = sizes_fit_lem _ _ _ (accepted_no_fault _ (sym c.sizes_fault.ensures ∙ c.in-Ok.is))

pub overflow_mul-sizes : goal.overflow_mul-sizes
overflow_mul-sizes c =
    let fits = none (goal.at.overflow_mul-sizes c).In-Ok in
    omega (arith, cells_most fits.rows_most fits.cols_most)

pub slice_bounds-fill-end : goal.slice_bounds-fill-end
slice_bounds-fill-end c = (none (goal.at.slice_bounds-fill-end c).In-Ok).dirs_enough

pub slice_bounds-fill-end-in-Ok : goal.slice_bounds-fill-end-in-Ok
slice_bounds-fill-end-in-Ok c =
    sym (length-take-le _ _ (none (goal.at.slice_bounds-fill-end-in-Ok c).In-Ok).dirs_enough)

pub slice_bounds-fill-end-in-Ok-2 : goal.slice_bounds-fill-end-in-Ok-2
slice_bounds-fill-end-in-Ok-2 c =
    omega (arith, (none (goal.at.slice_bounds-fill-end-in-Ok-2 c).In-Ok).weights_enough)

pub slice_bounds-fill-end-in-Ok-3 : goal.slice_bounds-fill-end-in-Ok-3
slice_bounds-fill-end-in-Ok-3 c =
    sym
    (length-take-le _ _ (omega (arith, (none (goal.at.slice_bounds-fill-end-in-Ok-3 c).In-Ok).weights_enough)))

pub returns-in-Ok : goal.returns-in-Ok
unfolding sizes_written
returns-in-Ok c =
    let fits = none (goal.at.returns-in-Ok c).In-Ok in
    let fault_none = accepted_no_fault _ (sym c.sizes_fault.ensures ∙ c.in-Ok.is) in
    rw (
      c.accepted.ensures,
      c.fill.ensures.after (λ y e. e),
      c.fill-in-Ok.ensures.after (λ y e. e),
      length-take-le _ _ fits.dirs_enough,
      length-take-le _ _ fits.weights_enough,
    )
    (sym (sizes_accepted _ _ _ c.sizes_in-sizes.ensures fault_none))

pub returns-in-Err : goal.returns-in-Err
returns-in-Err c =
    let is = sym c.sizes_fault.ensures ∙ c.in-Err.is in
    simp (c.answer.ensures, refused_by_fault _ is)
    (sym (sizes_refused _ _ _ c.sizes_in-sizes.ensures (refused_fault _ is)))
