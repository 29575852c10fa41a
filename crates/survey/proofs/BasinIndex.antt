-- A basin's part of the index: where its units stand, side by side, and their labels.
use mathlib.Core.Path.{◌≡◌, refl, sym, ◌∙◌, ap}
use mathlib.Core.Bool.{true}
use mathlib.Core.List.{List}
use Prim.Native.Nat.{ℕ, ◌+◌, ◌-◌, ◌≤◌, ◌<◌}
use native.Mathlib.Omega.{arith}
use lib.ListN.{length, length-drop, take, drop}
use lib.Seq.{length-take-le, get_or-take, get_or-drop}
use Rattle.sheet.specs.declared.Label.{Label}
use Rattle.sheet.specs.declared.UnitName.{UnitName}
use Rattle.sheet.specs.Record.{digits_of, no_digits, labels_in, unit_name, units_in}
use Rattle.sheet.specs.Flow.{is_label}
use Rattle.sheet.proofs.Slices.{labels_length}
use Rattle.sheet.proofs.Units.{units_length, unit_listed}
use Rattle.claims.specs.Parting.{Begins, begins_none}
use Rattle.lookup.specs.Lookup.{greatest_depth, lookup_part}
use Rattle.lookup.specs.Exactly.{entry_at, BeginsSo, LookupFinds}
use Rattle.lookup.proofs.Counted.{every_at}
use Rattle.lookup.proofs.Exactly.{found_by}
use Rattle.index.specs.Index.{LentIndex}
use Rattle.index.specs.Steps.{Room}
use Rattle.index.specs.Meaning.{index_unit}
use Rattle.index.proofs.UnitNames.{same_unit_lem}
use Rattle.plan.specs.Meaning.{label_in, Stands}
use Rattle.survey.specs.Survey.{basin_index}

-- no digits are a label, and begin every label
pub no_digits_label : is_label greatest_depth no_digits ≡ true
unfolding is_label
no_digits_label = refl

begins_no_digits : (x : List ℕ) → Begins (digits_of no_digits) x
unfolding digits_of
begins_no_digits x = begins_none

-- a part of a list: how long it is, and what stands at a place
module _ (start count : ℕ) (l : List Label) (within : start + count ≤ length l) where
  part_length : length (take count (drop start l)) ≡ count
  part_length = length-take-le count (drop start l) (omega (arith, length-drop start l))

  part_at : (i : ℕ) → i < count → label_in (take count (drop start l)) i ≡ label_in l (start + i)
  part_at i h = get_or-take count (drop start l) i no_digits h ∙ get_or-drop start l i no_digits

-- the units of a basin among those of the index
pub record BasinPlaces (I : LentIndex) (units basin : ℕ) : Type 0 where
  -- the first of them stands here
  pub start : ℕ
  pub within : (i : ℕ) → i < length (basin_index I units basin) → start + i < units
  -- they have the labels of the basin's index
  pub unit : (i : ℕ) → i < length (basin_index I units basin)
      → index_unit I (start + i) ≡ unit_name basin (label_in (basin_index I units basin) i)
  pub labels : (i : ℕ) → i < length (basin_index I units basin)
      → is_label greatest_depth (label_in (basin_index I units basin) i) ≡ true
  -- and there are no others
  pub stands : (k : ℕ) → k < units → (p : Label) → index_unit I k ≡ unit_name basin p
      → Stands (basin_index I units basin) (length (basin_index I units basin)) p

module _ (units : ℕ) (I : LentIndex) (room : Room units I) (basin : ℕ) where
  abbrev of_basin : List Label
  of_basin = basin_index I units basin

  abbrev all_labels : List Label
  all_labels = take units (labels_in I.labels)

  abbrev all_basins : List ℕ
  all_basins = take units I.basins

  abbrev leading : UnitName
  leading = unit_name basin no_digits

  -- ---- all units

  labels_long : length all_labels ≡ units
  labels_long = length-take-le units (labels_in I.labels) (omega (arith, labels_length I.labels, room.labels))

  basins_long : length all_basins ≡ units
  basins_long = length-take-le units I.basins room.basins

  units_long : length (units_in all_basins all_labels) ≡ units
  units_long = units_length all_basins all_labels (omega (arith, labels_long, basins_long)) ∙ labels_long

  entry_is : (k : ℕ) → k < units → entry_at (units_in all_basins all_labels) k ≡ index_unit I k
  entry_is k l =
      unit_listed all_basins all_labels k (omega (arith, basins_long)) (omega (arith, labels_long))
      ∙ same_unit_lem (get_or-take units I.basins k 0 l) (get_or-take units (labels_in I.labels) k no_digits l)

  -- ---- those of the basin, as a lookup finds them

  module _ (finds : LookupFinds leading all_labels all_basins) where
    abbrev start : ℕ
    start = finds.start

    index_is : of_basin ≡ take finds.count (drop start all_labels)
    unfolding lookup_part
    index_is = rw finds.answer

    part_within : start + finds.count ≤ length all_labels
    part_within = omega (arith, finds.part.within, units_long, labels_long)

    index_length : length of_basin ≡ finds.count
    index_length = rw index_is (part_length start finds.count all_labels part_within)

    place_within : (i : ℕ) → i < length of_basin → start + i < units
    place_within i l = omega (arith, part_within, labels_long, index_length)

    label_listed : (i : ℕ) → i < length of_basin → label_in of_basin i ≡ label_in all_labels (start + i)
    label_listed i l =
        rw index_is (part_at start finds.count all_labels part_within i (omega (arith, index_length)))

    label_judged : (i : ℕ) → i < length of_basin → is_label greatest_depth (label_in of_basin i) ≡ true
    label_judged i l =
        let f = found_by leading all_labels all_basins start finds.count finds.answer in
        rw (label_listed i l)
        (every_at no_digits (is_label greatest_depth) all_labels (start + i) f.entries
        (omega (arith, labels_long, place_within i l)))

    place_unit : (i : ℕ) → i < length of_basin → index_unit I (start + i) ≡ unit_name basin (label_in of_basin i)
    place_unit i l =
        let w = place_within i l in
        let begun = (finds.part.exactly (start + i) (omega (arith, units_long, w))).0
        (omega arith, omega (arith, index_length)) in
        same_unit_lem (ap (λ (u : UnitName). u.basin) (sym (entry_is (start + i) w)) ∙ begun.basin)
        (sym (label_listed i l ∙ get_or-take units (labels_in I.labels) (start + i) no_digits w))

    place_found : (k : ℕ) → k < units → (p : Label) → index_unit I k ≡ unit_name basin p
        → Stands of_basin (length of_basin) p
    place_found k l p e =
        let so : BeginsSo leading (entry_at (units_in all_basins all_labels) k) = record {
          basin = ap (λ (u : UnitName). u.basin) (entry_is k l ∙ e);
          digits = begins_no_digits _;
        } in
        let lies = (finds.part.exactly k (omega (arith, units_long))).1 so in
        let here : k - start < length of_basin = omega (arith, index_length, lies.0, lies.1) in
        let back : start + (k - start) ≡ k = omega (arith, lies.0) in
        record {
          place = k - start;
          within = here;
          is = ap (λ (u : UnitName). u.label) (sym (place_unit (k - start) here) ∙ ap (index_unit I) back ∙ e);
        }

    pub basin_places : BasinPlaces I units basin
    basin_places = record {
      start = start;
      within = place_within;
      unit = place_unit;
      labels = label_judged;
      stands = place_found;
    }
