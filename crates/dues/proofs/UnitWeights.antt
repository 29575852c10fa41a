-- The weights of one basin's units: S(k) sums those of the first k, the order along rivers gives each, and all together
-- are the area of the basin's outlet.
use mathlib.Core.Path.{◌≡◌, refl, sym, ◌∙◌, ap}
use mathlib.Core.Bool.{Bool, true, false, cond, true≢false}
use mathlib.Core.List.Memᴰ
use mathlib.Core.List.{List, [], ◌∷◌, map, Memᴰ}
use mathlib.Core.Logic.{inl, inr}
use Prim.Native.Nat.{ℕ, zero, suc, ◌*◌, ◌≤◌, ◌<◌}
use native.Mathlib.Nat.{zero-add}
use native.Mathlib.Omega.{arith}
use lib.Dec.{eqb}
use lib.ListN.{length, length-map, take, drop}
use lib.Seq.{take-length, ext_get_or}
use borrow.Author.Tests.{eqb-true, eqb-false, eq-eqb}
use Rattle.sheet.specs.declared.UnitName.{UnitName}
use Rattle.sheet.specs.Sheet.{Sheet, cells, inside, next, is_outlet}
use Rattle.sheet.specs.Water.{Passes, passes}
use Rattle.sheet.specs.Area.{count, sum_over, drains_into, weight, area}
use Rattle.sheet.specs.Record.{same_unit, unit_at, basin_and_digits}
use Rattle.sheet.specs.Basins.{basin_of, basin_digits}
use Rattle.sheet.specs.Refusal.{Lent, both, outcome, lent_after}
use Rattle.sheet.proofs.Cells.{inside_lt}
use Rattle.sheet.proofs.Lists.{length_list, list_at}
use Rattle.sheet.proofs.Within.{both_true}
use Rattle.directions.specs.Sizes.{most_cells}
use Rattle.claims.specs.Bounds.{sum, most_area}
use Rattle.claims.proofs.Counts.{not-true}
use Rattle.claims.proofs.Sums.{sum_same, sum_mono}
use Rattle.claims.proofs.GridLaws.{passes_is}
use Rattle.claims.proofs.Sheets.{PassedOn, outlet_is}
use Rattle.claims.proofs.BasinNumbers.{number_of_way, outlet_number, same_outlet, outlet_own, outlet_of_is}
use Rattle.claims.proofs.Theorems.{area_bounds}
use Rattle.claims.proofs.Written.{grid_checks}
use Rattle.order.specs.Places.{cells_in, sizes_in, Arranged}
use Rattle.index.specs.Units.{unit_of, is_of_unit, is_of_one, UnitEntry, distinct_units}
use Rattle.index.specs.Groups.{grouped}
use Rattle.index.proofs.ListPlaces.{at_place}
use Rattle.index.proofs.UnitNames.{same_true, same_false}
use Rattle.index.proofs.UnitsRise.{UnitsRise, take_rise, same_units}
use Rattle.index.proofs.Distinct.{among_rise, among_has, among_from, of_unit, unit_of_lem}
use Rattle.index.proofs.Counting.{Once, once_none, once_on, summed_all, summed_cells}
use Rattle.index.proofs.Partition.{sum_units, of_one, one_of_lem}
use Rattle.index.proofs.WrittenUnits.{unit_digits_written, unit_told}
use Rattle.index.proofs.GroupsInOrder.{NeverFall, fall_none, fall_on, entry_digits, GroupsOf, groups_of}
use Rattle.index.proofs.UnitsInOrder.{entries_map}
use Rattle.dues.specs.Levy.{basin_of_unit, units_of_basin, weight_of_first, is_of_basin, whole_weight, due_of_first, due}
use Rattle.dues.specs.Levy.{dues_of}
use Rattle.dues.specs.Steps.{basin_start, basin_size, basin_cells, part_weights, counts_of, dues_by}
use Rattle.dues.proofs.Shares.{up_to, dues_length, dues_at}
use Rattle.dues.proofs.BasinUnits.{of_basin_mem, mem_of_basin, of_basin_rise}
use Rattle.dues.proofs.BasinParts.{part_inside, part_basin, part_has}
use Rattle.dues.proofs.PartWeights.{weight_in, part_weights_lem}
use Rattle.sheet.specs.Answer.{Accepted}

-- ---- lists

take_map : (f : List ℕ → ℕ) (k : ℕ) (xs : List (List ℕ)) → map f (take k xs) ≡ take k (map f xs)
take_map f zero xs = refl
take_map f (suc k) [] = refl
take_map f (suc k) (x ∷ xs) = ap (λ (t : List ℕ). f x ∷ t) (take_map f k xs)

-- a part of a list has no other members
take_mem : {A : Type 0} (k : ℕ) (cs : List A) {c : A} → Memᴰ c (take k cs) → Memᴰ c cs
take_mem zero cs m = absurd (Memᴰ.not-nil m)
take_mem (suc k) [] m = m
take_mem (suc k) (d ∷ cs) m = elim (Memᴰ.cases_cons m) [
  | inl e ↦ Memᴰ.head e
  | inr j ↦ Memᴰ.tail (take_mem k cs j)
]

once_take : (k : ℕ) {cs : List ℕ} → Once cs → Once (take k cs)
once_take zero o = once_none
once_take (suc k) once_none = once_none
once_take (suc k) (once_on {cs = cs} n o) = once_on (λ m. n (take_mem k cs m)) (once_take k o)

once_drop : (k : ℕ) {cs : List ℕ} → Once cs → Once (drop k cs)
once_drop zero o = o
once_drop (suc k) once_none = once_none
once_drop (suc k) (once_on n o) = once_drop k o

falls_take : {unit : ℕ → UnitName} (k : ℕ) {cs : List ℕ} → NeverFall unit cs → NeverFall unit (take k cs)
falls_take zero w = fall_none
falls_take (suc k) fall_none = fall_none
falls_take (suc k) (fall_on {cs = cs} t h w) = fall_on t (λ d m. h d (take_mem k cs m)) (falls_take k w)

falls_drop : {unit : ℕ → UnitName} (k : ℕ) {cs : List ℕ} → NeverFall unit cs → NeverFall unit (drop k cs)
falls_drop zero w = w
falls_drop (suc k) fall_none = fall_none
falls_drop (suc k) (fall_on t h w) = falls_drop k w

-- ---- any sheet

-- the weight of the unit x
abbrev pub unit_weight : Sheet → List ℕ → ℕ
unit_weight S x = sum_over (cells S.grid) (is_of_unit S x) (weight S)

both_is : (a b : Bool) → a ≡ true → b ≡ true → both a b ≡ true
both_is a b e f = rw (e, f) refl

-- cells of one unit are of one basin
same_basin : (S : Sheet) (c d : ℕ) → basin_digits S c ≡ basin_digits S d → basin_of S.grid c ≡ basin_of S.grid d
unfolding basin_digits
same_basin S c d e = ap basin_of_unit e

module _ (S : Sheet) (basin : ℕ) where
  pub units_rise : UnitsRise (units_of_basin S basin)
  unfolding units_of_basin distinct_units
  units_rise = of_basin_rise basin (among_rise S (cells S.grid))

  -- the unit of an inside cell of the basin
  pub has_unit : (c : ℕ) → inside S.grid c ≡ true → basin_of S.grid c ≡ basin
      → Memᴰ (basin_digits S c) (units_of_basin S basin)
  unfolding units_of_basin distinct_units basin_digits
  has_unit c i e =
      mem_of_basin basin (distinct_units S) (basin_digits S c)
      (among_has S (cells S.grid) c (inside_lt S.grid c i) i) e

  -- a cell of a unit of the basin
  pub record CellIn (x : List ℕ) : Type 0 where
    pub cell : ℕ
    pub is_inside_lem : inside S.grid cell ≡ true
    pub of_basin_lem : basin_of S.grid cell ≡ basin
    pub named : basin_digits S cell ≡ x

  pub unit_has : (x : List ℕ) → Memᴰ x (units_of_basin S basin) → CellIn x
  unfolding units_of_basin distinct_units basin_digits
  unit_has x m =
      let r = of_basin_mem basin (distinct_units S) x m in
      let c = among_from S (cells S.grid) x r.0 in
      record {
        cell = c.cell;
        is_inside_lem = c.is_inside_lem;
        of_basin_lem = rw (sym c.named) at r.1;
        named = c.named;
      }

  pub of_basin_is : (c : ℕ) → inside S.grid c ≡ true → basin_of S.grid c ≡ basin → is_of_basin S basin c ≡ true
  unfolding is_of_basin
  of_basin_is c i e = both_is _ _ i (eq-eqb (basin_of S.grid c) basin e)

  pub is_of_basin_lem : (c : ℕ) → is_of_basin S basin c ≡ true
      → (inside S.grid c ≡ true) × (basin_of S.grid c ≡ basin)
  unfolding is_of_basin
  is_of_basin_lem c h =
      let r = both_true (inside S.grid c) (eqb (basin_of S.grid c) basin) h in
      (r.0, eqb-true (basin_of S.grid c) basin r.1)

  -- the cells of the basin's units are those of the basin
  all_of_basin : (q : ℕ) → is_of_one S (units_of_basin S basin) q ≡ is_of_basin S basin q
  all_of_basin q = go (is_of_basin S basin q) refl
    where
      go : (b : Bool) → is_of_basin S basin q ≡ b → is_of_one S (units_of_basin S basin) q ≡ b
      go true h = let r = is_of_basin_lem q h in one_of_lem S (units_of_basin S basin) q r.0 (has_unit q r.0 r.1)
      go false h =
          not-true _
          (λ u.
          let r = of_one S (units_of_basin S basin) q u in
          let c = unit_has (basin_digits S q) r.1 in
          true≢false (sym (of_basin_is q r.0 (same_basin S q c.cell (sym c.named) ∙ c.of_basin_lem)) ∙ h))

  -- the cells of some of them are of the basin
  pub some_of_basin : (k q : ℕ) → is_of_one S (take k (units_of_basin S basin)) q ≡ true → is_of_basin S basin q ≡ true
  some_of_basin k q h =
      let r = of_one S (take k (units_of_basin S basin)) q h in
      let c = unit_has (basin_digits S q) (take_mem k (units_of_basin S basin) r.1) in
      of_basin_is q r.0 (same_basin S q c.cell (sym c.named) ∙ c.of_basin_lem)

  -- the weights of the units, in the index's order
  abbrev pub unit_weights : List ℕ
  unit_weights = map (unit_weight S) (units_of_basin S basin)

  pub first_is : (k : ℕ) → weight_of_first S basin k ≡ up_to unit_weights k
  unfolding weight_of_first
  first_is k =
      sym (sum_units S (weight S) (take k (units_of_basin S basin)) (take_rise k units_rise))
      ∙ ap (sum (λ w. w)) (take_map (unit_weight S) k (units_of_basin S basin))

  pub first_none : weight_of_first S basin 0 ≡ 0
  unfolding sum
  first_none = first_is 0

  pub first_all : weight_of_first S basin (length (units_of_basin S basin)) ≡ whole_weight S basin
  unfolding weight_of_first whole_weight
  first_all =
      ap (λ (xs : List (List ℕ)). sum_over (cells S.grid) (is_of_one S xs) (weight S))
      (take-length (units_of_basin S basin))
      ∙ sum_same (cells S.grid) _ _ (weight S) (weight S) (λ q l. all_of_basin q) (λ q l. refl)

  -- the dues by these weights are those of the definition
  pub dues_are : (total : ℕ) → dues_by total (whole_weight S basin) 0 unit_weights ≡ dues_of S basin total
  unfolding dues_of due due_of_first
  dues_are total =
      let whole = whole_weight S basin in
      let long = dues_length total whole 0 unit_weights ∙ length-map (units_of_basin S basin) (unit_weight S) in
      ext_get_or 0 _ _ (long ∙ sym (length_list (due S basin total) 0 (length (units_of_basin S basin))))
      (λ k l.
      let m : k < length unit_weights = rw (dues_length total whole 0 unit_weights) at l in
      let a : up_to unit_weights (suc k) ≡ weight_of_first S basin (suc k) = sym (first_is (suc k)) in
      let b : up_to unit_weights k ≡ weight_of_first S basin k = sym (first_is k) in
      dues_at total whole 0 unit_weights k m
      ∙ (rw (zero-add (up_to unit_weights (suc k)), zero-add (up_to unit_weights k), a, b) refl)
      ∙ sym (list_at (due S basin total) 0 (length (units_of_basin S basin)) k (rw long at l)
      ∙ ap (due S basin total) (zero-add k)))

-- ---- an accepted sheet

module _ (S : Sheet) (L : Lent) (accepted : outcome S L ≡ Accepted) (basin : ℕ) where
  abbrev P : PassedOn S.grid
  P = grid_checks S L accepted

  pub whole_most : whole_weight S basin ≤ most_area
  unfolding whole_weight
  whole_most =
      let all = (area_bounds S L accepted).most_of_all in
      let some = sum_mono (cells S.grid) (inside S.grid) (is_of_basin S basin) (weight S)
      (λ q h. (is_of_basin_lem S basin q h).0) in
      omega (arith, all, some)

  -- its outlet
  module _ (o : ℕ) (is : is_outlet S.grid o ≡ true) (numbered : count (suc o) (is_outlet S.grid) ≡ basin) where
    pub outlet_inside : inside S.grid o ≡ true
    outlet_inside = (outlet_is S.grid o is).0

    -- the water that passes it is that of the basin's cells
    all_drain : (q : ℕ) → drains_into S.grid o q ≡ is_of_basin S basin q
    unfolding drains_into is_of_basin
    all_drain q = go (inside S.grid q) refl (eqb (basin_of S.grid q) basin) refl
      where
        to_outlet : inside S.grid q ≡ true → basin_of S.grid q ≡ basin → Passes (next S.grid) q o
        to_outlet i e =
            let own = outlet_number S.grid P o is ∙ numbered in
            let same = same_outlet S.grid P q o i outlet_inside (e ∙ sym own) ∙ outlet_own S.grid P o is in
            rw same at (outlet_of_is S.grid P q i).1

        go : (a : Bool) → inside S.grid q ≡ a → (b : Bool) → eqb (basin_of S.grid q) basin ≡ b
            → cond a (passes (next S.grid) (cells S.grid) q o) false ≡ both a b
        go true i true e =
            (passes_is S.grid q o i).1 (to_outlet i (eqb-true (basin_of S.grid q) basin e))
        go true i false e =
            not-true _
            (λ h. eqb-false (basin_of S.grid q) basin e
            (number_of_way S.grid P q o i is ((passes_is S.grid q o i).0 h) ∙ numbered))
        go false i b e = refl

    pub outlet_area : area S o ≡ whole_weight S basin
    unfolding area whole_weight
    outlet_area =
        rw outlet_inside
        (sum_same (cells S.grid) _ _ (weight S) (weight S) (λ q l. all_drain q) (λ q l. refl))

    pub whole_some : 0 < whole_weight S basin
    whole_some = omega (arith, (area_bounds S L accepted).least o outlet_inside, outlet_area)

  -- ---- with its order along rivers, in which units never fall
  abbrev unit : ℕ → UnitName
  unit = unit_at (lent_after S L).basins (lent_after S L).labels

  module _ {areas work : List ℕ} {queued : ℕ} (small : cells S.grid ≤ most_cells)
      (room : length work ≡ 8 * cells S.grid) (arranged : Arranged S.grid areas work queued)
      (once : Once (cells_in (cells S.grid) work queued))
      (falls : NeverFall unit (cells_in (cells S.grid) work queued)) where
    abbrev sz : List ℕ
    sz = sizes_in (cells S.grid) work queued

    abbrev part : List ℕ
    part = basin_cells (cells_in (cells S.grid) work queued) sz basin

    its_inside : (c : ℕ) → Memᴰ c part → inside S.grid c ≡ true
    its_inside = part_inside S.grid P small room arranged basin

    part_once : Once part
    part_once = once_take (basin_size sz basin) (once_drop (basin_start sz basin) once)

    part_falls : NeverFall unit part
    part_falls = falls_take (basin_size sz basin) (falls_drop (basin_start sz basin) falls)

    pub listed_weight : sum (weight S) part ≡ whole_weight S basin
    unfolding whole_weight
    listed_weight =
        sym (summed_all (weight S) part)
        ∙ sym (summed_cells (cells S.grid) part (is_of_basin S basin) (λ c. true) (weight S) part_once (record {
          below = λ c m. inside_lt S.grid c (its_inside c m);
          listed = λ q l h.
              let r = is_of_basin_lem S basin q h in part_has S.grid P small room arranged basin q r.0 r.1;
          same = λ c m. of_basin_is S basin c (its_inside c m) (part_basin S.grid P small room arranged basin c m);
        }))

    groups : GroupsOf unit part (grouped unit part)
    groups = groups_of unit part part_falls

    -- an entry's first cell is of the basin, and has its unit
    entry_stands : (e : UnitEntry) → Memᴰ e (grouped unit part) → Memᴰ e.outlet part
    entry_stands e m = let g = groups.each e m in rw g.at at (at_place 0 part g.place g.below)

    entry_named : (e : UnitEntry) → Memᴰ e (grouped unit part) → basin_digits S e.outlet ≡ entry_digits e
    entry_named e m =
        sym (unit_digits_written S L accepted e.outlet (its_inside _ (entry_stands e m)))
        ∙ ap basin_and_digits (groups.each e m).named

    pub same_digits_lem : map entry_digits (grouped unit part) ≡ units_of_basin S basin
    same_digits_lem =
        same_units _ _ groups.rise (units_rise S basin)
        (λ z m.
        let e = Memᴰ.of_map entry_digits (grouped unit part) m in
        let k = entry_stands e.0 e.1 in
        rw (← e.2, ← entry_named e.0 e.1)
        (has_unit S basin e.0.outlet (its_inside _ k) (part_basin S.grid P small room arranged basin _ k)))
        (λ z m.
        let c = unit_has S basin z m in
        let e = groups.has c.cell (part_has S.grid P small room arranged basin _ c.is_inside_lem c.of_basin_lem) in
        let q = ap basin_and_digits e.2 ∙ unit_digits_written S L accepted c.cell c.is_inside_lem ∙ c.named in
        rw q at (Memᴰ.map entry_digits e.1))

    -- so there are as many groups as units
    pub groups_long : length (grouped unit part) ≡ length (units_of_basin S basin)
    groups_long = sym (length-map (grouped unit part) entry_digits) ∙ ap length same_digits_lem

    entry_told : (e : UnitEntry) → Memᴰ e (grouped unit part) → unit_of (entry_digits e) ≡ e.unit
    entry_told e m =
        rw (groups.each e m).named at (unit_told S L accepted e.outlet (its_inside _ (entry_stands e m)))

    -- a listed cell is of an entry's unit exactly if it has its name
    same_test : (e : UnitEntry) → Memᴰ e (grouped unit part) → (c : ℕ) → Memᴰ c part
        → is_of_unit S (entry_digits e) c ≡ same_unit (unit c) e.unit
    same_test e m c k = go (same_unit (unit c) e.unit) refl
      where
        i : inside S.grid c ≡ true
        i = its_inside c k

        go : (b : Bool) → same_unit (unit c) e.unit ≡ b → is_of_unit S (entry_digits e) c ≡ b
        go true q =
            of_unit S c (entry_digits e) i
            (sym (unit_digits_written S L accepted c i) ∙ ap basin_and_digits (same_true (unit c) e.unit q))
        go false q =
            not-true _
            (λ u. same_false (unit c) e.unit q
            (sym (unit_told S L accepted c i)
            ∙ ap unit_of (unit_digits_written S L accepted c i ∙ (unit_of_lem S c (entry_digits e) u).1) ∙ entry_told e m))

    entry_weight : (e : UnitEntry) → Memᴰ e (grouped unit part)
        → weight_in unit (weight S) part e ≡ unit_weight S (entry_digits e)
    entry_weight e m =
        sym (summed_cells (cells S.grid) part (is_of_unit S (entry_digits e)) (λ c. same_unit (unit c) e.unit)
        (weight S) part_once (record {
          below = λ c k. inside_lt S.grid c (its_inside c k);
          listed = λ q l h. listed q h;
          same = same_test e m;
        }))
      where
        listed : (q : ℕ) → is_of_unit S (entry_digits e) q ≡ true → Memᴰ q part
        listed q h =
            let r = unit_of_lem S q (entry_digits e) h in
            let k = entry_stands e m in
            part_has S.grid P small room arranged basin q r.0
            (same_basin S q e.outlet (r.1 ∙ sym (entry_named e m))
            ∙ part_basin S.grid P small room arranged basin _ k)

    pub listed_parts : part_weights (weight S) (counts_of (grouped unit part)) part ≡ unit_weights S basin
    listed_parts =
        part_weights_lem unit (weight S) part part_falls
        ∙ entries_map (weight_in unit (weight S) part) (unit_weight S) (grouped unit part) entry_weight
        ∙ ap (map (unit_weight S)) same_digits_lem
