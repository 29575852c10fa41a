-- `fill_units` meets its contract. The loop's invariant: the groups before `first` are written, at the places before
-- `at`. The measure is what is left of the cells.
use Prim.Native.Nat.{◌+◌, ◌*◌, ◌≤◌}
use native.Mathlib.Omega.{arith}
use lib.ListN.{length, length-set}
use Rattle.sheet.proofs.Slices.{places_enough}
use Rattle.index.specs.Index.{lent_index}
use Rattle.index.specs.Steps.{Room}
use Rattle.index.proofs.Filling.{room_left, filling_goes_on, filling_ends}
use Rattle.index.proofs.Filling.{filling_counted}
use Rattle.index.proofs.units.fill_units.Goals as goal
use Rattle.index.proofs.units.fill_units.Goals.{After-last_of_group-last}

-- a place is left for the group
left : (c : After-last_of_group-last) → Room (c.loop-first.at + 1)
    (lent_index c.loop-first.units c.loop-first.outlets c.loop-first.counts
    c.loop-first.unit_basins)
left c = room_left _ _ _ _ c.loop-first.invariant c.last_of_group-last.ensures c.requires.room

-- both numbers of its label's place are in the slice
numbers-left : (c : After-last_of_group-last)
    → 2 * (c.loop-first.at + 1) ≤ length c.loop-first.units
numbers-left c = places_enough _ _ (left c).labels

pub offset_bounds-units-at : goal.offset_bounds-units-at
offset_bounds-units-at c = omega (arith, numbers-left (goal.at.offset_bounds-units-at c).After-last_of_group-last)

pub bounds-units-at : goal.bounds-units-at
bounds-units-at c = omega (arith, numbers-left (goal.at.bounds-units-at c).After-last_of_group-last)

pub offset_bounds-units-at-in-loop-first : goal.offset_bounds-units-at-in-loop-first
offset_bounds-units-at-in-loop-first c = omega (arith, numbers-left (goal.at.offset_bounds-units-at-in-loop-first c).After-last_of_group-last)

pub bounds-units-at-in-loop-first : goal.bounds-units-at-in-loop-first
bounds-units-at-in-loop-first c = rw (length-set _ _ _) (omega (arith, numbers-left (goal.at.bounds-units-at-in-loop-first c).After-last_of_group-last))

pub loop-first-preserved : goal.loop-first-preserved
loop-first-preserved c =
    rw c.unit_at-unit.ensures
    (filling_goes_on _ _ _ _ c.loop-first.invariant c.last_of_group-last.ensures)

pub returns : goal.returns
returns c = record {
  count = filling_counted _ _ _ _ c.loop-first.invariant c.loop-first-test.false;
  index = filling_ends _ _ _ _ c.loop-first.invariant c.loop-first-test.false
      c.requires.room;
}
