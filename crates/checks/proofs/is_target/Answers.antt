-- `is_target` meets its contract.
use mathlib.Core.Path.{sym}
use native.Mathlib.Omega.{arith}
use Rattle.directions.proofs.Sizes.{on_lt, on_fits}
use Rattle.checks.proofs.Targets.{is_inside_lem, unreached_outside, unreached_inside}
use Rattle.checks.proofs.is_target.Goals as goal

pub overflow_mul-cell : goal.overflow_mul-cell
overflow_mul-cell c = omega (arith, on_fits c.requires.1)

pub overflow_add-cell : goal.overflow_add-cell
overflow_add-cell c = omega (arith, on_fits c.requires.1)

pub bounds-grid-cell : goal.bounds-grid-cell
bounds-grid-cell c = let p = c.requires in omega (arith, on_lt p.1, p.0.long)

pub returns-else-code-ne0 : goal.returns-else-code-ne0
returns-else-code-ne0 c = rw (c.in-Unreached.is, c.if-code-ne0.false) (sym (unreached_outside _ _ _ c.if-code-ne0.false))

pub offset_bounds-reached-cell : goal.offset_bounds-reached-cell
offset_bounds-reached-cell c = omega (arith, on_fits c.requires.1)

pub bounds-reached-cell : goal.bounds-reached-cell
bounds-reached-cell c =
    let p = c.requires in omega (arith, on_lt p.1, p.2)

pub returns-in-Inside : goal.returns-in-Inside
returns-in-Inside c = rw c.in-Inside.is (sym (is_inside_lem _ _ _ (on_lt c.requires.1)))

pub returns-then-code-ne0 : goal.returns-then-code-ne0
returns-then-code-ne0 c =
    let p = c.requires in
    rw c.in-Unreached.is (sym (unreached_inside _ _ _ (on_lt p.1) c.if-code-ne0.true))
