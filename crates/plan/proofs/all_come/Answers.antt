-- `all_come` meets its contract. The invariant: the units from the present place on have all come exactly if all have.
-- The measure: the places left.
use native.Mathlib.Omega.{arith}
use mathlib.Core.Path.{refl, sym, ◌∙◌}
use Prim.Native.Nat.{◌+◌, ◌≤◌}
use lib.ListN.{length, get_or}
use Rattle.plan.proofs.Come.{come_end, come_no, come_skip}
use Rattle.plan.proofs.all_come.Goals as goal
use Rattle.plan.proofs.all_come.Goals.{In-loop-place}

-- the units that the span tells of are of the work places
span-within : (c : In-loop-place)
    → let work = c.args.work.now in
    c.loop-place.place + get_or work c.loop-place.place 0 ≤ length work
span-within c = c.requires.spans.within c.loop-place.place (omega arith)

pub loop-place-init : goal.loop-place-init
loop-place-init c = refl

pub offset_bounds-work-place : goal.offset_bounds-work-place
offset_bounds-work-place c = omega arith

pub bounds-work-place : goal.bounds-work-place
bounds-work-place c = omega arith

pub returns-then-span-eq0 : goal.returns-then-span-eq0
returns-then-span-eq0 c =
    sym (come_no _ _ c.requires.end_in_bounds _ c.loop-place-test.true c.if-span-eq0.true) ∙ c.loop-place.invariant

pub overflow_cast-place : goal.overflow_cast-place
overflow_cast-place c = omega (arith, span-within (goal.at.overflow_cast-place c).In-loop-place)

pub overflow_add-place : goal.overflow_add-place
overflow_add-place c = omega (arith, span-within (goal.at.overflow_add-place c).In-loop-place)

pub loop-place-smaller : goal.loop-place-smaller
loop-place-smaller c = omega arith

pub loop-place-preserved : goal.loop-place-preserved
loop-place-preserved c =
    let come = c.requires.spans.come c.loop-place.place in
    come_skip _ _ c.requires.end_in_bounds _ _ (λ t h l. come t (omega arith) h l) ∙ c.loop-place.invariant

pub returns : goal.returns
returns c = sym (come_end _ _ _ c.loop-place-test.false) ∙ c.loop-place.invariant
