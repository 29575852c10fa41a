-- The unit at a place of the distinct units of an accepted sheet, and lookups in them.
use mathlib.Core.Path.{◌≡◌, refl, ap}
use mathlib.Core.Bool.{Bool, true}
use mathlib.Core.List.{List, [], ◌∷◌, map, Memᴰ}
use Prim.Native.Nat.{ℕ, ◌<◌}
use native.Mathlib.Omega.{arith}
use lib.Dec.{leb}
use lib.ListN.{length, length-map, get_or}
use borrow.Author.Tests.{le-leb}
use Rattle.sheet.specs.declared.Label.{Label}
use Rattle.sheet.specs.declared.UnitName.{UnitName}
use Rattle.sheet.specs.Sheet.{Sheet, cells}
use Rattle.sheet.specs.Record.{no_digits, unit_name, basin_and_digits, units_in}
use Rattle.sheet.specs.Label.{label_digits}
use Rattle.sheet.specs.Basins.{basin_digits}
use Rattle.sheet.specs.Refusal.{Lent, outcome}
use Rattle.sheet.specs.Flow.{every, is_label}
use Rattle.sheet.proofs.Records.{record_is_label}
use Rattle.claims.specs.Demand.{Inside}
use Rattle.claims.proofs.Written.{one_to_nine}
use Rattle.lookup.specs.Lookup.{greatest_depth, start_of, length_of, lookup_answer}
use Rattle.lookup.specs.Exactly.{PairsRise, LookupFinds}
use Rattle.lookup.proofs.Rising.{pairs_rising}
use Rattle.lookup.proofs.Exactly.{rising_exactly}
use Rattle.index.specs.Units.{unit_of, distinct_units}
use Rattle.index.proofs.ListPlaces.{at_place, map_at}
use Rattle.index.proofs.UnitsRise.{rise_at}
use Rattle.index.proofs.Distinct.{CellOf, among_rise, among_from}
use Rattle.index.proofs.WrittenUnits.{short, digits_told}
use Rattle.sheet.specs.Answer.{Accepted}

-- the columns of the labels and of the basins
abbrev pub labels_of_units : List (List ℕ) → List Label
labels_of_units xs = map (λ (x : List ℕ). (unit_of x).label) xs

abbrev pub basins_of_units : List (List ℕ) → List ℕ
basins_of_units xs = map (λ (x : List ℕ). (unit_of x).basin) xs

every_map : (test : Label → Bool) (xs : List (List ℕ))
    → ((x : List ℕ) → Memᴰ x xs → test (unit_of x).label ≡ true) → every test (labels_of_units xs) ≡ true
unfolding every
every_map test [] h = refl
every_map test (x ∷ xs) h = rw (h x (Memᴰ.head refl)) (every_map test xs (λ y m. h y (Memᴰ.tail m)))

-- the two columns name the units
units_named : (xs : List (List ℕ)) → units_in (basins_of_units xs) (labels_of_units xs) ≡ map unit_of xs
unfolding units_in
units_named [] = refl
units_named (x ∷ xs) = ap (λ (us : List UnitName). unit_of x ∷ us) (units_named xs)

module _ (S : Sheet) (L : Lent) (accepted : outcome S L ≡ Accepted) where
  is_label_36 : (c : ℕ) → Inside S c → is_label greatest_depth (unit_of (basin_digits S c)).label ≡ true
  unfolding basin_digits unit_of
  is_label_36 c i =
      record_is_label (label_digits S c) (one_to_nine S L accepted c i) (short S L accepted c) greatest_depth
      (short S L accepted c)

  -- a cell of the unit at a place
  pub cell_of_lem : (k : ℕ) → k < length (distinct_units S) → CellOf S (cells S.grid) (get_or (distinct_units S) k [])
  unfolding distinct_units
  cell_of_lem k l =
      among_from S (cells S.grid) (get_or (distinct_units S) k []) (at_place [] (distinct_units S) k l)

  -- its basin and digits, of its name
  pub digits_of_lem : (k : ℕ) → k < length (distinct_units S)
      → basin_and_digits (unit_of (get_or (distinct_units S) k [])) ≡ get_or (distinct_units S) k []
  digits_of_lem k l =
      let c = cell_of_lem k l in rw c.named at (digits_told S L accepted c.cell c.is_inside_lem)

  are_labels : every (is_label greatest_depth) (labels_of_units (distinct_units S)) ≡ true
  unfolding distinct_units
  are_labels =
      every_map (is_label greatest_depth) (distinct_units S)
      (λ x m.
      let c = among_from S (cells S.grid) x m in
      rw c.named at (is_label_36 c.cell c.is_inside_lem))

  names_rise : PairsRise (map unit_of (distinct_units S))
  unfolding distinct_units
  names_rise = record {
    earlier = λ i j l h.
        let k : j < length (distinct_units S) = rw (length-map (distinct_units S) unit_of) at h in
        let a = map_at [] (unit_name 0 no_digits) unit_of (distinct_units S) i (omega arith) in
        let b = map_at [] (unit_name 0 no_digits) unit_of (distinct_units S) j k in
        rw (a, b, digits_of_lem i (omega arith), digits_of_lem j k) (rise_at (among_rise S (cells S.grid)) i j l k);
  }

  enough : leb (length (labels_of_units (distinct_units S))) (length (basins_of_units (distinct_units S))) ≡ true
  enough =
      le-leb (length (labels_of_units (distinct_units S))) (length (basins_of_units (distinct_units S)))
      (omega (
        arith,
        length-map (distinct_units S) (λ (x : List ℕ). (unit_of x).label),
        length-map (distinct_units S) (λ (x : List ℕ). (unit_of x).basin),
      ))

  -- a lookup of a label is not refused, and hands back exactly its basin's labels that begin so
  pub finds : (leading : UnitName) → is_label greatest_depth leading.label ≡ true
      → LookupFinds leading (labels_of_units (distinct_units S)) (basins_of_units (distinct_units S))
  unfolding lookup_answer
  finds leading e =
      let names = map unit_of (distinct_units S) in
      let r = pairs_rising names names_rise in
      record {
        start = start_of leading names;
        count = length_of leading names;
        answer = rw (enough, e, are_labels, units_named (distinct_units S), r);
        part = rw (units_named (distinct_units S)) (rising_exactly leading names r);
      }
