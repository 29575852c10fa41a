-- `index` meets its contract: by what the first checks give.
use mathlib.Core.Path.{◌≡◌, sym, ◌∙◌}
use Prim.Native.Nat.{◌*◌, ◌≤◌}
use native.Mathlib.Omega.{arith}
use lib.ListN.{length}
use lib.Seq.{length-take-le}
use Rattle.sheet.specs.Sheet.{Sheet, cells}
use Rattle.sheet.specs.Refusal.{Lent}
use Rattle.std.proofs.lemmas.Result.{err_from_is_err_and}
use Rattle.intake.specs.Intake.{lent_sheet}
use Rattle.labelling.specs.FromIntake.{sheet_of}
use Rattle.labelling.specs.Labelling.{lent, first_checks}
use Rattle.labelling.proofs.Calls.{room, sizes_bounded, fitting, still_passed}
use Rattle.index.specs.Index.{LentIndex, lent_index}
use Rattle.index.proofs.Steps.{refused_first, indexed_after}
use Rattle.index.proofs.index.Goals as goal
use Rattle.index.proofs.index.Goals.{After-first_checks, In_ok-first_checks}
use Rattle.sheet.specs.Answer.{Accepted}

-- the sheet and what is lent
abbrev S : After-first_checks → Sheet
S c = let a = c.args in sheet_of a.sizes (lent_sheet a.dirs.now a.weights.now)

abbrev L : After-first_checks → Lent
L c = let a = c.args in lent a.areas.now a.labels.now a.basins.now a.work.now

abbrev I : After-first_checks → LentIndex
I c = let a = c.args in lent_index a.units.now a.outlets.now a.counts.now a.unit_basins.now

abbrev S-in : In_ok-first_checks → Sheet
S-in c = let a = c.args in sheet_of a.sizes (lent_sheet a.dirs.now a.weights.now)

abbrev L-in : In_ok-first_checks → Lent
L-in c = let a = c.args in lent a.areas.now a.labels.now a.basins.now a.work.now

abbrev I-in : In_ok-first_checks → LentIndex
I-in c = let a = c.args in lent_index a.units.now a.outlets.now a.counts.now a.unit_basins.now

passed : (c : In_ok-first_checks) → first_checks (S-in c) (L-in c) ≡ Accepted
passed c = sym c.first_checks.ensures ∙ c.in_ok-first_checks.was

few : (c : In_ok-first_checks) → cells (S-in c).grid ≤ 65536
few c = (sizes_bounded (S-in c) (L-in c) (passed c)).cells_fit

enough : (c : In_ok-first_checks) → 8 * cells (S-in c).grid ≤ length (L-in c).work
enough c = room (S-in c) (L-in c) (passed c)

pub overflow_mul-places : goal.overflow_mul-places
overflow_mul-places c = omega (arith, few (goal.at.overflow_mul-places c).In_ok-first_checks)

pub overflow_mul-places-2 : goal.overflow_mul-places-2
overflow_mul-places-2 c = omega (arith, few (goal.at.overflow_mul-places-2 c).In_ok-first_checks)

pub slice_bounds-index_fitting-end : goal.slice_bounds-index_fitting-end
slice_bounds-index_fitting-end c = enough (goal.at.slice_bounds-index_fitting-end c).In_ok-first_checks

pub slice_bounds-index_fitting-end-2 : goal.slice_bounds-index_fitting-end-2
slice_bounds-index_fitting-end-2 c =
    let p = (goal.at.slice_bounds-index_fitting-end-2 c).In_ok-first_checks in
    sym (length-take-le (8 * cells (S-in p).grid) (L-in p).work (enough p))

pub index_fitting-requires : goal.index_fitting-requires
index_fitting-requires c =
    let p = (goal.at.index_fitting-requires c).In_ok-first_checks in
    record { fitting = fitting (S-in p) (L-in p) (passed p); work_value = still_passed (S-in p) (L-in p) (passed p) }

pub returns-in_err-first_checks : goal.returns-in_err-first_checks
returns-in_err-first_checks c =
    let p = err_from_is_err_and c.from_residual.result c.from_residual.ensures.1 in
    let s = (goal.at.returns-in_err-first_checks c).After-first_checks in
    let told = refused_first (S s) (L s) (I s) (sym c.first_checks.ensures ∙ c.in_err-first_checks.was) in
    record { answer = rw (p.1, p.2) told.0; values = rw (p.1, p.2) told.1.0; lent = told.1.1.0; index = told.1.1.1 }

pub returns : goal.returns
returns c =
    let p = (goal.at.returns c).In_ok-first_checks in
    let told = indexed_after (S-in p) (L-in p) (I-in p) (passed p) c.index_fitting.ensures in
    record { answer = told.0; values = told.1.0; lent = told.1.1.0; index = told.1.1.1 }
