-- Laws of entries written one by one: what is still to write, written on the present slices, gives the whole written on
-- the slices lent.
use mathlib.Core.Path.{◌≡◌, refl, ap, ◌∙◌}
use mathlib.Core.List.{List, map}
use Prim.Native.Nat.{ℕ, suc, ◌+◌, ◌*◌, ◌-◌, ◌≤◌}
use native.Mathlib.Numerals.{add-one}
use native.Mathlib.Omega.{arith}
use lib.ListN.{length, get_or, drop, set, length-set, length-map}
use lib.Seq.{sets}
use Rattle.sheet.specs.Record.{numbers_of, label_places, unit_at}
use Rattle.sheet.proofs.Lists.{written_whole}
use Rattle.sheet.proofs.Slices.{numbers_length, places_enough}
use Rattle.index.specs.Units.{UnitEntry}
use Rattle.index.specs.Index.{LentIndex, lent_index, written_index}
use Rattle.index.specs.Steps.{groups_of, Group, Room}
use Rattle.index.proofs.Groups.{one_more, groups_past}

-- entries written from a place on
abbrev written_from : ℕ → List UnitEntry → LentIndex → LentIndex
written_from at entries I =
    lent_index (sets I.labels (2 * at) (numbers_of (map (λ (e : UnitEntry). e.unit.label) entries)))
    (sets I.outlets at (map (λ (e : UnitEntry). e.outlet) entries))
    (sets I.counts at (map (λ (e : UnitEntry). e.count) entries))
    (sets I.basins at (map (λ (e : UnitEntry). e.unit.basin) entries))

-- the groups before position `first` are written, at the places before `at`; I was lent, and J is what the slices hold
pub record Filling (cells labels basins : List ℕ) (I J : LentIndex) (at first : ℕ) : Type 0 where
  pub within : first ≤ length cells
  pub left : at + length (groups_of (drop first cells) labels basins) ≡ length (groups_of cells labels basins)
  pub units : length J.labels ≡ length I.labels
  pub outlets : length J.outlets ≡ length I.outlets
  pub counts : length J.counts ≡ length I.counts
  pub unit_basins : length J.basins ≡ length I.basins
  pub to_do : written_from at (groups_of (drop first cells) labels basins) J
      ≡ written_from 0 (groups_of cells labels basins) I

module _ (cells labels basins : List ℕ) (I : LentIndex) where
  pub filling_starts : Filling cells labels basins I I 0 0
  filling_starts = record {
    within = omega arith;
    left = omega arith;
    units = refl;
    outlets = refl;
    counts = refl;
    unit_basins = refl;
    to_do = refl;
  }

  -- a place is left for the group at `first`
  pub room_left : {J : LentIndex} {at first last : ℕ} → Filling cells labels basins I J at first
      → Group cells labels basins first last → Room (length (groups_of cells labels basins)) I → Room (at + 1) J
  room_left f g room =
      let more = one_more cells labels basins g in
      record {
        labels = omega (arith, f.left, ap label_places f.units, room.labels);
        outlets = omega (arith, f.left, f.outlets, room.outlets);
        counts = omega (arith, f.left, f.counts, room.counts);
        basins = omega (arith, f.left, f.unit_basins, room.basins);
      }

  pub filling_goes_on : {J : LentIndex} {at first last : ℕ} → Filling cells labels basins I J at first
      → Group cells labels basins first last
      → Filling cells labels basins I
      (lent_index
      (set (set J.labels (2 * at) (unit_at basins labels (get_or cells first 0)).label.first) (2 * at + 1)
      (unit_at basins labels (get_or cells first 0)).label.rest)
      (set J.outlets at (get_or cells first 0)) (set J.counts at (last - first + 1))
      (set J.basins at (unit_at basins labels (get_or cells first 0)).basin)) (at + 1) (last + 1)
  unfolding numbers_of
  filling_goes_on {J} {at} {first} {last} f g = record {
    within = omega (arith, g.to);
    left = omega (arith, f.left, one_more cells labels basins g);
    units = rw (length-set, length-set) f.units;
    outlets = length-set J.outlets at _ ∙ f.outlets;
    counts = length-set J.counts at _ ∙ f.counts;
    unit_basins = length-set J.basins at _ ∙ f.unit_basins;
    to_do =
        let next : 2 * (at + 1) ≡ suc (suc (2 * at)) = omega arith in
        rw (next, add-one (2 * at), add-one at) (rw g.is at f.to_do);
  }

  pub filling_ends : {J : LentIndex} {at first : ℕ} → Filling cells labels basins I J at first → length cells ≤ first
      → Room (length (groups_of cells labels basins)) I → J ≡ written_index (groups_of cells labels basins) I
  unfolding numbers_of
  filling_ends {J} {at} {first} f l room =
      let g = groups_of cells labels basins in
      let room-for-numbers : length (numbers_of (map (λ (e : UnitEntry). e.unit.label) g)) ≤ length I.labels =
      rw (numbers_length, length-map) (places_enough (length g) _ room.labels) in
      rw (groups_past cells labels basins first l) at f.to_do ∙ rw (
        written_whole (numbers_of (map (λ (e : UnitEntry). e.unit.label) g)) I.labels room-for-numbers,
        written_whole (map (λ (e : UnitEntry). e.outlet) g) I.outlets (rw length-map room.outlets),
        written_whole (map (λ (e : UnitEntry). e.count) g) I.counts (rw length-map room.counts),
        written_whole (map (λ (e : UnitEntry). e.unit.basin) g) I.basins (rw length-map room.basins),
      )

  pub filling_counted : {J : LentIndex} {at first : ℕ} → Filling cells labels basins I J at first → length cells ≤ first
      → at ≡ length (groups_of cells labels basins)
  filling_counted {at = at} {first = first} f l =
      omega (arith, f.left, ap length (groups_past cells labels basins first l))
