-- The groups of an accepted sheet's order along rivers are the units of its definition.
use mathlib.Core.Path.{◌≡◌, refl, sym, ◌∙◌, ap}
use mathlib.Core.Bool.{Bool, true, false}
use mathlib.Core.List.Memᴰ
use mathlib.Core.List.{List, [], ◌∷◌, map, map-id, Memᴰ}
use Prim.Native.Nat.{ℕ, suc, ◌≤◌, ◌<◌}
use native.Mathlib.Omega.{arith}
use lib.ListN.{length, get_or}
use Rattle.sheet.specs.declared.UnitName.{UnitName}
use Rattle.sheet.specs.Sheet.{Sheet, cells, next}
use Rattle.sheet.specs.Record.{same_unit, unit_at, basin_and_digits, unit_digits_at}
use Rattle.sheet.specs.Label.{areas_of}
use Rattle.sheet.specs.Basins.{basin_digits}
use Rattle.sheet.specs.Refusal.{Lent, outcome, written, lent_after}
use Rattle.sheet.proofs.Cells.{inside_lt}
use Rattle.claims.specs.Demand.{Inside}
use Rattle.claims.specs.Dictionary.{NotAfter}
use Rattle.claims.proofs.Counts.{not-true}
use Rattle.rivers.specs.LabelOrder.{InLabelOrder}
use Rattle.rivers.proofs.WrittenOrder.{same_in_order}
use Rattle.order.specs.Places.{cells_in, Arranged}
use Rattle.labelling.proofs.LabelOrder.{labels_in_order}
use Rattle.index.specs.Units.{is_of_unit, unit_of, UnitEntry, unit_entry, entry_of_unit, distinct_units, units}
use Rattle.index.specs.Units.{outlet_cell, unit_cells}
use Rattle.index.specs.Groups.{grouped}
use Rattle.index.proofs.UnitNames.{same_true, same_false}
use Rattle.index.proofs.UnitsRise.{same_units}
use Rattle.index.proofs.Distinct.{among_rise, among_has, among_from, of_unit, unit_of_lem}
use Rattle.index.proofs.ListPlaces.{at_place, place_of}
use Rattle.index.proofs.Counting.{Once, once_none, once_on, SameTests, counted_cells}
use Rattle.index.proofs.GroupsInOrder.{NeverFall, fall_none, fall_on, entry_digits, GroupsOf, groups_of}
use Rattle.index.proofs.WrittenUnits.{unit_digits_written, unit_written, unit_told}
use Rattle.index.proofs.Outlets.{outlet_is}
use Rattle.sheet.specs.Answer.{Accepted}

-- ---- a list of cells by its places

never_fall : (unit : ℕ → UnitName) (cs : List ℕ)
    → ((i : ℕ) → i < length cs → unit_of (basin_and_digits (unit (get_or cs i 0))) ≡ unit (get_or cs i 0))
    → ((i j : ℕ) → i ≤ j → j < length cs
    → NotAfter (basin_and_digits (unit (get_or cs i 0))) (basin_and_digits (unit (get_or cs j 0))))
    → NeverFall unit cs
never_fall unit [] told falls = fall_none
never_fall unit (c ∷ cs) told falls =
    fall_on (told 0 (omega arith))
    (λ d m.
    let p = place_of 0 cs m in
    rw p.2 at (falls 0 (suc p.0) (omega arith) (omega (arith, p.1))))
    (never_fall unit cs (λ i l. told (suc i) (omega arith))
    (λ i j l k. falls (suc i) (suc j) (omega arith) (omega arith)))

stand_once : (cs : List ℕ)
    → ((i j : ℕ) → i < length cs → j < length cs → get_or cs i 0 ≡ get_or cs j 0 → i ≡ j) → Once cs
stand_once [] once = once_none
stand_once (c ∷ cs) once =
    once_on
    (λ m.
    let p = place_of 0 cs m in
    let e = once 0 (suc p.0) (omega arith) (omega (arith, p.1)) (sym p.2) in
    omega arith)
    (stand_once cs (λ i j l k e. let q = once (suc i) (suc j) (omega arith) (omega arith) e in omega arith))

-- values of entries that are told by their basins and digits
pub entries_map : {A : Type 0} (f : UnitEntry → A) (g : List ℕ → A) (es : List UnitEntry)
    → ((e : UnitEntry) → Memᴰ e es → f e ≡ g (entry_digits e)) → map f es ≡ map g (map entry_digits es)
entries_map f g [] h = refl
entries_map f g (e ∷ es) h =
    let p = h e (Memᴰ.head refl) in
    let q = entries_map f g es (λ d m. h d (Memᴰ.tail m)) in λ i. p i ∷ q i

-- ---- an accepted sheet, with its order along rivers

module _ (S : Sheet) (L : Lent) (old : List ℕ) {areas work : List ℕ} {queued : ℕ} (accepted : outcome S L ≡ Accepted)
    (measured : areas ≡ written (areas_of S) old) (arranged : Arranged S.grid areas work queued) where
  abbrev cs : List ℕ
  cs = cells_in (cells S.grid) work queued

  abbrev unit : ℕ → UnitName
  unit = unit_at (lent_after S L).basins (lent_after S L).labels

  order : InLabelOrder (next S.grid) (Inside S) (unit_digits_at (lent_after S L).basins (lent_after S L).labels) cs 0
      queued
  order = labels_in_order S L old accepted measured arranged

  defined : InLabelOrder (next S.grid) (Inside S) (basin_digits S) cs 0 queued
  defined = same_in_order (λ c h. h) (λ c h. h) (unit_digits_written S L accepted) order

  long : length cs ≡ queued
  long = arranged.long

  told : (c : ℕ) → Inside S c → unit_of (basin_and_digits (unit c)) ≡ unit c
  told = unit_told S L accepted

  pub listed_inside : (c : ℕ) → Memᴰ c cs → Inside S c
  listed_inside c m =
      let p = place_of 0 cs m in
      rw p.2 at (order.are_inside p.0 (omega arith) (omega (arith, p.1, long)))

  pub inside_listed : (c : ℕ) → Inside S c → Memᴰ c cs
  inside_listed c i =
      let p = order.all_stand c i in rw p.3 at (at_place 0 cs p.0 (omega (arith, p.2, long)))

  pub listed_once : Once cs
  listed_once =
      stand_once cs
      (λ i j l k e. order.once i j (omega arith) (omega (arith, long)) (omega arith) (omega (arith, long)) e)

  pub falls : NeverFall unit cs
  falls =
      never_fall unit cs
      (λ i l. told (get_or cs i 0) (order.are_inside i (omega arith) (omega (arith, long))))
      (λ i j l k. order.never_fall i j (omega arith) l (omega (arith, long)))

  groups : GroupsOf unit cs (grouped unit cs)
  groups = groups_of unit cs falls

  -- an entry's first cell is inside, and is of its unit
  entry_inside : (e : UnitEntry) → Memᴰ e (grouped unit cs) → Inside S e.outlet
  entry_inside e m =
      let g = groups.each e m in
      listed_inside e.outlet (rw g.at at (at_place 0 cs g.place g.below))

  entry_named : (e : UnitEntry) → Memᴰ e (grouped unit cs) → basin_digits S e.outlet ≡ entry_digits e
  entry_named e m =
      sym (unit_digits_written S L accepted e.outlet (entry_inside e m))
      ∙ ap basin_and_digits (groups.each e m).named

  pub same_digits_lem : map entry_digits (grouped unit cs) ≡ distinct_units S
  unfolding distinct_units
  same_digits_lem =
      same_units _ _ groups.rise (among_rise S (cells S.grid))
      (λ z m.
      let e = Memᴰ.of_map entry_digits (grouped unit cs) m in
      let i = entry_inside e.0 e.1 in
      rw (← e.2, ← entry_named e.0 e.1)
      (among_has S (cells S.grid) e.0.outlet (inside_lt S.grid _ i) i))
      (λ z m.
      let c = among_from S (cells S.grid) z m in
      let e = groups.has c.cell (inside_listed c.cell c.is_inside_lem) in
      let q = ap basin_and_digits e.2 ∙ unit_digits_written S L accepted c.cell c.is_inside_lem ∙ c.named in
      rw q at (Memᴰ.map entry_digits e.1))

  entry_outlet : (e : UnitEntry) → Memᴰ e (grouped unit cs) → outlet_cell S (entry_digits e) ≡ e.outlet
  entry_outlet e m =
      let g = groups.each e m in
      let l = g.below in
      outlet_is S L accepted (entry_digits e) e.outlet (entry_named e m)
      (rw (g.at, entry_named e m) at
      (defined.first_is_outlet g.place (omega arith) (omega (arith, long))
      (λ k a b q.
      let i = unit_written S L accepted (get_or cs k 0) (order.are_inside k a (omega (arith, long))) in
      let j = unit_written S L accepted (get_or cs g.place 0)
      (order.are_inside g.place (omega arith) (omega (arith, long))) in
      g.first k (omega arith) (i ∙ ap unit_of q ∙ sym j ∙ ap unit g.at ∙ g.named))))

  entry_told : (e : UnitEntry) → Memᴰ e (grouped unit cs) → unit_of (entry_digits e) ≡ e.unit
  entry_told e m = rw (groups.each e m).named at (told e.outlet (entry_inside e m))

  -- a listed cell is of an entry's unit exactly if that unit was written for it
  same_test : (e : UnitEntry) → Memᴰ e (grouped unit cs) → (c : ℕ) → Memᴰ c cs
      → is_of_unit S (entry_digits e) c ≡ same_unit (unit c) e.unit
  same_test e m c k = go (same_unit (unit c) e.unit) refl
    where
      i : Inside S c
      i = listed_inside c k

      go : (b : Bool) → same_unit (unit c) e.unit ≡ b → is_of_unit S (entry_digits e) c ≡ b
      go true q =
          of_unit S c (entry_digits e) i
          (sym (unit_digits_written S L accepted c i) ∙ ap basin_and_digits (same_true (unit c) e.unit q))
      go false q =
          not-true _
          (λ u. same_false (unit c) e.unit q
          (unit_written S L accepted c i ∙ ap unit_of (unit_of_lem S c (entry_digits e) u).1 ∙ entry_told e m))

  -- so the listed cells with that unit are its cells
  pub entry_tests : (e : UnitEntry) → Memᴰ e (grouped unit cs)
      → SameTests (cells S.grid) cs (is_of_unit S (entry_digits e)) (λ c. same_unit (unit c) e.unit)
  entry_tests e m = record {
    below = λ c k. inside_lt S.grid c (listed_inside c k);
    listed = λ q l h. inside_listed q (unit_of_lem S q (entry_digits e) h).0;
    same = same_test e m;
  }

  entry_count : (e : UnitEntry) → Memᴰ e (grouped unit cs) → unit_cells S (entry_digits e) ≡ e.count
  unfolding unit_cells
  entry_count e m =
      counted_cells (cells S.grid) cs (is_of_unit S (entry_digits e)) (λ c. same_unit (unit c) e.unit) listed_once
      (entry_tests e m)
      ∙ sym (groups.each e m).has_count

  entry_is : (e : UnitEntry) → Memᴰ e (grouped unit cs) → e ≡ entry_of_unit S (entry_digits e)
  unfolding entry_of_unit
  entry_is e m =
      let p = sym (entry_told e m) in
      let q = sym (entry_outlet e m) in let r = sym (entry_count e m) in λ i. unit_entry (p i) (q i) (r i)

  pub groups_are_units : grouped unit cs ≡ units S
  unfolding units
  groups_are_units =
      sym (map-id (grouped unit cs)) ∙ entries_map (λ e. e) (entry_of_unit S) (grouped unit cs) entry_is
      ∙ ap (map (entry_of_unit S)) same_digits_lem
