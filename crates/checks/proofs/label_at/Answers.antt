-- `label_at` meets its contract.
use mathlib.Core.Path.{sym}
use Prim.Native.Nat.{◌+◌, ◌*◌, ◌≤◌}
use native.Mathlib.Omega.{arith}
use lib.ListN.{length}
use Rattle.sheet.proofs.Slices.{places_enough, label_at_lem}
use Rattle.checks.proofs.label_at.Goals as goal
use Rattle.checks.proofs.label_at.Goals.{Start}

-- both numbers of the place are in the slice
both-in : (c : Start) → 2 * (c.args.place + 1) ≤ length c.args.labels.now
both-in c = places_enough (c.args.place + 1) _ (omega (arith, c.requires))

pub overflow_mul-result : goal.overflow_mul-result
overflow_mul-result c = omega (arith, both-in c)

pub offset_bounds-labels-place : goal.offset_bounds-labels-place
offset_bounds-labels-place c = omega (arith, both-in c)

pub bounds-labels-place : goal.bounds-labels-place
bounds-labels-place c = omega (arith, both-in (goal.at.bounds-labels-place c).Start)

pub overflow_mul-result-2 : goal.overflow_mul-result-2
overflow_mul-result-2 c = omega (arith, both-in (goal.at.overflow_mul-result-2 c).Start)

pub overflow_add-result : goal.overflow_add-result
overflow_add-result c = omega (arith, both-in (goal.at.overflow_add-result c).Start)

pub offset_bounds-labels-place-2 : goal.offset_bounds-labels-place-2
offset_bounds-labels-place-2 c = omega (arith, both-in (goal.at.offset_bounds-labels-place-2 c).Start)

pub bounds-labels-place-2 : goal.bounds-labels-place-2
bounds-labels-place-2 c = omega (arith, both-in (goal.at.bounds-labels-place-2 c).Start)

pub returns : goal.returns
returns c = sym (label_at_lem _ _ c.requires)
