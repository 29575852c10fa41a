-- `label` meets its contract: by what the first checks give.
use mathlib.Core.Path.{◌≡◌, sym, ap, ◌∙◌}
use mathlib.Core.List.{List, ◌++◌}
use Prim.Native.Nat.{ℕ, ◌*◌, ◌≤◌}
use native.Mathlib.Omega.{arith}
use lib.ListN.{length, drop}
use lib.Seq.{length-take-le}
use Rattle.std.proofs.lemmas.Result.{err_from_is_err_and}
use Rattle.sheet.specs.Sheet.{Sheet, cells}
use Rattle.sheet.specs.Refusal.{Lent}
use Rattle.intake.specs.Intake.{lent_sheet}
use Rattle.labelling.specs.FromIntake.{sheet_of}
use Rattle.labelling.specs.Labelling.{lent, first_checks}
use Rattle.labelling.proofs.Calls.{refused, room, sizes_bounded, fitting, labelled}
use Rattle.labelling.proofs.label.Goals as goal
use Rattle.labelling.proofs.label.Goals.{After-first_checks, In_ok-first_checks}
use Rattle.sheet.specs.Answer.{Accepted}

-- the sheet and what is lent
abbrev S : After-first_checks → Sheet
S c = let a = c.args in sheet_of a.sizes (lent_sheet a.dirs.now a.weights.now)

abbrev L : After-first_checks → Lent
L c = let a = c.args in lent a.areas.now a.labels.now a.basins.now a.work.now

abbrev S-in : In_ok-first_checks → Sheet
S-in c = let a = c.args in sheet_of a.sizes (lent_sheet a.dirs.now a.weights.now)

abbrev L-in : In_ok-first_checks → Lent
L-in c = let a = c.args in lent a.areas.now a.labels.now a.basins.now a.work.now

passed : (c : In_ok-first_checks) → first_checks (S-in c) (L-in c) ≡ Accepted
passed c = sym c.first_checks.ensures ∙ c.in_ok-first_checks.was

few : (c : In_ok-first_checks) → cells (S-in c).grid ≤ 65536
few c = (sizes_bounded (S-in c) (L-in c) (passed c)).cells_fit

enough : (c : In_ok-first_checks) → 8 * cells (S-in c).grid ≤ length (L-in c).work
enough c = room (S-in c) (L-in c) (passed c)

pub overflow_mul-places : goal.overflow_mul-places
overflow_mul-places c = omega (arith, few (goal.at.overflow_mul-places c).In_ok-first_checks)

pub overflow_mul-places-2 : goal.overflow_mul-places-2
overflow_mul-places-2 c = omega (arith, few (goal.at.overflow_mul-places-2 c).In_ok-first_checks)

pub slice_bounds-label_fitting-end : goal.slice_bounds-label_fitting-end
slice_bounds-label_fitting-end c = enough (goal.at.slice_bounds-label_fitting-end c).In_ok-first_checks

pub slice_bounds-label_fitting-end-2 : goal.slice_bounds-label_fitting-end-2
slice_bounds-label_fitting-end-2 c =
    let p = (goal.at.slice_bounds-label_fitting-end-2 c).In_ok-first_checks in
    sym (length-take-le (8 * cells (S-in p).grid) (L-in p).work (enough p))

pub label_fitting-requires : goal.label_fitting-requires
label_fitting-requires c =
    let p = (goal.at.label_fitting-requires c).In_ok-first_checks in
    fitting (S-in p) (L-in p) (passed p)

pub returns-in_err-first_checks : goal.returns-in_err-first_checks
returns-in_err-first_checks c =
    let p = err_from_is_err_and c.from_residual.result c.from_residual.ensures.1 in
    let s = goal.at.returns-in_err-first_checks c in
    let told = refused (S s.After-first_checks) (L s.After-first_checks)
    (sym c.first_checks.ensures ∙ c.in_err-first_checks.was) in
    record { outcome = rw (p.1, p.2) told.0; values = rw (p.1, p.2) told.1.0; lent = told.1.1 }

pub returns : goal.returns
returns c =
    let p = (goal.at.returns c).In_ok-first_checks in
    let told = labelled (S-in p) (L-in p) (passed p) c.label_fitting.ensures.outcome c.label_fitting.ensures.areas
    c.label_fitting.ensures.labels c.label_fitting.ensures.basins
    (ap (λ (w : List ℕ). w ++ drop (8 * cells (S-in p).grid) (L-in p).work) c.label_fitting.ensures.work) in
    record { outcome = told.0; values = told.1.0; lent = told.1.1 }
