-- `write_units` meets its contract.
use mathlib.Core.Path.{◌≡◌, sym, ap, ◌∙◌, refl}
use Prim.Native.Nat.{ℕ}
use lib.ListN.{length}
use Rattle.index.specs.Index.{LentIndex, lent_index, index_fits}
use Rattle.index.specs.Steps.{groups_of, Room}
use Rattle.index.proofs.Room.{fits_room, less_room, room_found, no_room, groups_few}
use Rattle.index.proofs.units.write_units.Goals as goal
use Rattle.index.proofs.units.write_units.Goals.{After-index_fits-2, Then-index_fits, Then-index_fits-2}
use Rattle.std.specs.Prelude.{Ok}

-- what was lent, and how many groups there are
abbrev lent_at-Then-index_fits : Then-index_fits → LentIndex
lent_at-Then-index_fits c = let a = c.args in lent_index a.units.now a.outlets.now a.counts.now a.unit_basins.now

-- what was lent, and how many groups there are
abbrev lent_at-Then-index_fits-2 : Then-index_fits-2 → LentIndex
lent_at-Then-index_fits-2 c = let a = c.args in lent_index a.units.now a.outlets.now a.counts.now a.unit_basins.now

-- what was lent, and how many groups there are
abbrev lent_at-After-index_fits-2 : After-index_fits-2 → LentIndex
lent_at-After-index_fits-2 c = let a = c.args in lent_index a.units.now a.outlets.now a.counts.now a.unit_basins.now

abbrev group_count-Then-index_fits : Then-index_fits → ℕ
group_count-Then-index_fits c = let a = c.args in length (groups_of a.cells.now a.labels.now a.basins.now)

abbrev group_count-Then-index_fits-2 : Then-index_fits-2 → ℕ
group_count-Then-index_fits-2 c = let a = c.args in length (groups_of a.cells.now a.labels.now a.basins.now)

abbrev group_count-After-index_fits-2 : After-index_fits-2 → ℕ
group_count-After-index_fits-2 c = let a = c.args in length (groups_of a.cells.now a.labels.now a.basins.now)

-- there is a place for each cell, so for each group
room-for-cells : (c : Then-index_fits) → Room (group_count-Then-index_fits c) (lent_at-Then-index_fits c)
unfolding index_fits
room-for-cells c =
    let a = c.args in
    less_room _ (groups_few a.cells.now a.labels.now a.basins.now)
    (fits_room (lent_at-Then-index_fits c) (length a.cells.now) (sym (rw c.label_count-places.ensures at c.index_fits.ensures) ∙ c.if-index_fits.true))

-- the test of as many places as were counted
fits-counted : (c : After-index_fits-2)
    → c.index_fits-2.result ≡ index_fits (group_count-After-index_fits-2 c) (lent_at-After-index_fits-2 c)
unfolding index_fits
fits-counted c =
    let tested : c.index_fits-2.result ≡ index_fits c.count_units-count.result (lent_at-After-index_fits-2 c) =
    rw c.label_count-places.ensures at c.index_fits-2.ensures in
    tested ∙ ap (λ (n : ℕ). index_fits n (lent_at-After-index_fits-2 c)) c.count_units-count.ensures

-- the test of as many places as were counted
fits-counted-Then-index_fits-2 : (c : Then-index_fits-2)
    → c.index_fits-2.result ≡ index_fits (group_count-Then-index_fits-2 c) (lent_at-Then-index_fits-2 c)
unfolding index_fits
fits-counted-Then-index_fits-2 c =
    let tested : c.index_fits-2.result ≡ index_fits c.count_units-count.result (lent_at-Then-index_fits-2 c) =
    rw c.label_count-places.ensures at c.index_fits-2.ensures in
    tested ∙ ap (λ (n : ℕ). index_fits n (lent_at-Then-index_fits-2 c)) c.count_units-count.ensures

room-counted : (c : Then-index_fits-2)
    → Room (group_count-Then-index_fits-2 c) (lent_at-Then-index_fits-2 c)
room-counted c =
    fits_room (lent_at-Then-index_fits-2 c) _ (sym (fits-counted-Then-index_fits-2 c) ∙ c.if-index_fits-2.true)

pub fill_units-requires : goal.fill_units-requires
fill_units-requires c = record {
  cells_labelled = c.requires;
  room = room-for-cells (goal.at.fill_units-requires c).Then-index_fits;
}

pub returns-then-index_fits : goal.returns-then-index_fits
returns-then-index_fits c = record {
  answer = ap Ok c.fill_units.ensures.count ∙ room_found _ _ (room-for-cells (goal.at.returns-then-index_fits c).Then-index_fits);
  index = c.fill_units.ensures.index;
}

pub fill_units-requires-then-index_fits-2 : goal.fill_units-requires-then-index_fits-2
fill_units-requires-then-index_fits-2 c = record {
  cells_labelled = c.requires;
  room = room-counted (goal.at.fill_units-requires-then-index_fits-2 c).Then-index_fits-2;
}

pub returns-then-index_fits-2 : goal.returns-then-index_fits-2
returns-then-index_fits-2 c = record {
  answer = ap Ok c.fill_units-then-index_fits-2.ensures.count ∙ room_found _ _ (room-counted (goal.at.returns-then-index_fits-2 c).Then-index_fits-2);
  index = c.fill_units-then-index_fits-2.ensures.index;
}

pub returns : goal.returns
returns c = record {
  answer = rw c.numbered.ensures (no_room _ _ (sym (fits-counted (goal.at.returns c).After-index_fits-2) ∙ c.if-index_fits-2.false));
  index = refl;
}
