-- `last_of_group` meets its contract. The loop's invariant: the cells from `first` to the last before `next` are of one
-- unit.
use mathlib.Core.Path.{◌≡◌, sym, ◌∙◌}
use Prim.Native.Nat.{ℕ, ◌+◌, ◌-◌}
use native.Mathlib.Omega.{arith}
use mathlib.Core.Bool.{true, false}
use lib.ListN.{length, get_or}
use Rattle.sheet.specs.Record.{same_unit, unit_at}
use Rattle.index.proofs.UnitNames.{same_true, same_false}
use Rattle.index.proofs.Groups.{run_starts, run_goes_on, run_ends, next_begins}
use Rattle.index.proofs.units.last_of_group.Goals as goal
use Rattle.index.proofs.units.last_of_group.Goals.{After-same_unit}

-- the test, by the units of the cells at two positions
test-is : (c : After-same_unit) (last : ℕ) → c.loop-next.next ≡ last + 1
    → let a = c.args in c.same_unit.result
    ≡ same_unit (unit_at a.basins.now a.labels.now (get_or a.cells.now (last + 1) 0))
    (unit_at a.basins.now a.labels.now (get_or a.cells.now a.first 0))
test-is c last e =
    rw e at (c.same_unit.ensures ∙ (λ i. same_unit (c.unit_at.ensures i) (c.unit_at-unit.ensures i)))

pub loop-next-init : goal.loop-next-init
loop-next-init c = λ last e.
    let is : last ≡ c.args.first = omega arith in
    rw is (run_starts _ _ _ _ c.requires.first_in_bounds)

pub returns-then-not-same_unit : goal.returns-then-not-same_unit
returns-then-not-same_unit c =
    let last : ℕ = c.loop-next.next - 1 in
    let e : c.loop-next.next ≡ last + 1 = omega (arith, c.loop-next.auto.next) in
    let other : c.same_unit.result ≡ false = grind arith in
    next_begins _ _ _ (c.loop-next.invariant last e) (omega arith)
    (same_false _ _ (sym (test-is (goal.at.returns-then-not-same_unit c).After-same_unit last e) ∙ other))

pub loop-next-preserved : goal.loop-next-preserved
loop-next-preserved c = λ next q.
    let last : ℕ = c.loop-next.next - 1 in
    let e : c.loop-next.next ≡ last + 1 = omega (arith, c.loop-next.auto.next) in
    let is : next ≡ last + 1 = omega arith in
    let same : c.same_unit.result ≡ true = grind arith in
    rw is (run_goes_on _ _ _ (c.loop-next.invariant last e) (omega arith)
    (same_true _ _ (sym (test-is (goal.at.loop-next-preserved c).After-same_unit last e) ∙ same)))

pub returns : goal.returns
returns c =
    let last : ℕ = length c.args.cells.now - 1 in
    run_ends _ _ _ (c.loop-next.invariant last (omega (arith, c.loop-next.auto.next, c.loop-next.auto.next-end, c.requires.first_in_bounds))) (omega arith)
