-- The index that the call wrote for an accepted sheet says what specs/Meaning.antt states.
use mathlib.Core.Path.{◌≡◌, refl, sym, ◌∙◌, ap}
use mathlib.Core.Bool.{Bool, true, false, cond, true≢false}
use mathlib.Core.List.{List, [], ◌∷◌, ◌++◌, map}
use Prim.Native.Nat.{ℕ, ◌<◌}
use native.Mathlib.Omega.{arith}
use lib.Dec.{ltb}
use lib.ListN.{length, length-map, get_or, take, drop}
use lib.Seq.{take-append_seam}
use borrow.Author.Tests.{ltb-true, ltb-false}
use Rattle.sheet.specs.Sheet.{Sheet, cells, inside, next}
use Rattle.sheet.specs.Water.{DrainsTo}
use Rattle.sheet.specs.Area.{count}
use Rattle.sheet.specs.declared.UnitName.{UnitName}
use Rattle.sheet.specs.Record.{digits_of, labels_in, numbers_of, same_unit, unit_at, basin_and_digits, unit_digits_at}
use Rattle.sheet.specs.Basins.{basin_digits}
use Rattle.sheet.specs.Refusal.{Lent, both, outcome, lent_after}
use Rattle.sheet.proofs.Slices.{labels_numbers}
use Rattle.sheet.proofs.Cells.{inside_lt}
use Rattle.claims.specs.Dictionary.{is_before}
use Rattle.claims.specs.Bounds.{sum}
use Rattle.claims.specs.Demand.{Shares, OneOutlet, Inside, digits_at, basin_at, OfBasin}
use Rattle.claims.specs.Parting.{Begins, begins_on}
use Rattle.claims.proofs.Counts.{not-true}
use Rattle.claims.proofs.Sums.{count_sum, sum_same}
use Rattle.claims.proofs.Dictionary.{before_irreflexive}
use Rattle.claims.proofs.Parting.{begins_first, begins_rest}
use Rattle.claims.proofs.Units.{drains_map, begins_all}
use Rattle.claims.proofs.Theorems.{demand_three}
use Rattle.faults.specs.declared.Sizes.{Sizes}
use Rattle.intake.specs.declared.Intake.{Intake}
use Rattle.intake.specs.Intake.{LentSheet, ended_sizes}
use Rattle.labelling.specs.FromIntake.{sheet_of, lent_with, intake_lent}
use Rattle.labelling.specs.Demand.{OfIntake}
use Rattle.index.specs.Units.{unit_of, UnitEntry, distinct_units, units, is_of_unit, outlet_cell, unit_cells}
use Rattle.index.specs.Index.{LentIndex, index_fits, room_for, indexed_on, indexed, written_index}
use Rattle.index.specs.Index.{index_after}
use Rattle.index.specs.FromIntake.{indexed_with, index_with, intake_indexed, intake_index_after}
use Rattle.index.specs.Meaning.{IndexMeaningWhole, HasUnit, IndexMeaning, IndexedDirectly, IndexedFrom}
use Rattle.index.specs.Meaning.{index_unit, index_basin, index_label, index_outlet, index_count}
use Rattle.index.proofs.ListPlaces.{place_of}
use Rattle.index.proofs.UnitNames.{same_unit_lem, same_true, same_false}
use Rattle.index.proofs.UnitsRise.{rise_at}
use Rattle.index.proofs.Distinct.{among_rise, among_has, of_unit, unit_of_lem}
use Rattle.index.proofs.WrittenUnits.{unit_digits_written, unit_written}
use Rattle.index.proofs.Outlets.{begins_same, outlet_is}
use Rattle.index.proofs.Partition.{counts_add}
use Rattle.index.proofs.Columns.{units_long, label_column, basin_column, outlet_column, count_column_lem, column_at_lem}
use Rattle.index.proofs.Columns.{label_column_at}
use Rattle.index.proofs.Lookups.{labels_of_units, basins_of_units, cell_of_lem, digits_of_lem, finds}
use Rattle.sheet.specs.Answer.{Outcome, Accepted, Refused}
use Rattle.std.specs.Prelude.{Err, Ok, None, Option, Some}

begins_both : {a b : ℕ} {w x : List ℕ} → a ≡ b → Begins w x → Begins (a ∷ w) (b ∷ x)
begins_both e h = rw e (begins_on h)

-- ---- an accepted sheet, and the index of its units written over what I held

module _ (S : Sheet) (L : Lent) (accepted : outcome S L ≡ Accepted) (I : LentIndex) where
  abbrev basins : List ℕ
  basins = (lent_after S L).basins

  abbrev labels : List ℕ
  labels = (lent_after S L).labels

  abbrev index : LentIndex
  index = written_index (units S) I

  -- the basin and digits of the unit at a place
  abbrev at : ℕ → List ℕ
  at k = get_or (distinct_units S) k []

  module _ (k : ℕ) (l : k < length (distinct_units S)) where
    unit_at_lem : index_unit index k ≡ unit_of (at k)
    unit_at_lem =
        same_unit_lem (column_at_lem (λ x. (unit_of x).basin) (distinct_units S) _ I.basins k (basin_column S) l)
        (label_column_at (distinct_units S) _ I.labels k (label_column S) l)

    outlet_at_lem : index_outlet index k ≡ outlet_cell S (at k)
    outlet_at_lem = column_at_lem (outlet_cell S) (distinct_units S) _ I.outlets k (outlet_column S) l

    count_at_lem : index_count index k ≡ unit_cells S (at k)
    count_at_lem = column_at_lem (unit_cells S) (distinct_units S) _ I.counts k (count_column_lem S) l

    digits_at_lem : basin_and_digits (index_unit index k) ≡ at k
    digits_at_lem = ap basin_and_digits unit_at_lem ∙ digits_of_lem S L accepted k l

    -- the cells of the basin that share the label's digits, and the inside cells that share basin and digits
    abbrev SharesLabel : ℕ → Type 0
    SharesLabel = Shares (OfBasin S basins (index_basin index k)) (digits_at labels) (digits_of (index_label index k))

    abbrev SharesUnit : ℕ → Type 0
    SharesUnit = Shares (Inside S) (basin_digits S) (at k)

    label_unit : (c : ℕ) → SharesLabel c → SharesUnit c
    unfolding basin_and_digits
    label_unit c s =
        let i = s.is_inside_lem.is_inside_lem in
        let b : Begins (basin_and_digits (index_unit index k)) (unit_digits_at basins labels c) =
        begins_both (sym s.is_inside_lem.numbered) s.begins in
        record { is_inside_lem = i; begins = rw (digits_at_lem, unit_digits_written S L accepted c i) at b }

    unit_label : (c : ℕ) → SharesUnit c → SharesLabel c
    unfolding basin_and_digits
    unit_label c s =
        let i = s.is_inside_lem in
        let b : Begins (basin_and_digits (index_unit index k)) (unit_digits_at basins labels c) =
        rw (digits_at_lem, unit_digits_written S L accepted c i) s.begins in
        record {
          is_inside_lem = record { is_inside_lem = i; numbered = sym (begins_first b) };
          begins = begins_rest b;
        }

    -- a cell that shares basin and digits has just these
    shares_same : (c : ℕ) → SharesUnit c → basin_digits S c ≡ at k
    shares_same c s =
        let d = cell_of_lem S L accepted k l in
        begins_same S L accepted d.cell c d.is_inside_lem s.is_inside_lem (rw d.named s.begins) ∙ d.named

    -- the cells that share basin and digits are the cells of the unit
    shares_unit : (c : ℕ) → SharesUnit c → HasUnit S basins labels (index_unit index k) c
    shares_unit c s = record {
      is_inside_lem = s.is_inside_lem;
      named = unit_written S L accepted c s.is_inside_lem ∙ ap unit_of (shares_same c s) ∙ sym unit_at_lem;
    }

    unit_shares : (c : ℕ) → HasUnit S basins labels (index_unit index k) c → SharesUnit c
    unit_shares c h =
        let i = h.is_inside_lem in
        let e : basin_digits S c ≡ at k =
        sym (unit_digits_written S L accepted c i) ∙ ap basin_and_digits h.named ∙ digits_at_lem in
        record { is_inside_lem = i; begins = rw e (begins_all (at k)) }

    -- the cell of the one-outlet statement is the unit's outlet cell
    named_outlet : (o : OneOutlet (next S.grid) (OfBasin S basins (index_basin index k)) (digits_at labels)
        (digits_of (index_label index k))) → o.cell ≡ outlet_cell S (at k)
    named_outlet o =
        let d = o.drains in
        let s = label_unit o.cell d.among in
        sym (outlet_is S L accepted (at k) o.cell (shares_same o.cell s)
        (record { among = s; drains = λ x t. drains_map label_unit (d.drains x (unit_label x t)) }))

    the_outlet : OneOutlet (next S.grid) (OfBasin S basins (index_basin index k)) (digits_at labels)
        (digits_of (index_label index k))
    the_outlet =
        let c = cell_of_lem S L accepted k l in
        ((demand_three S L accepted).within (index_basin index k)).one_outlet (digits_of (index_label index k)) c.cell
        (unit_label c.cell (record { is_inside_lem = c.is_inside_lem; begins = rw c.named (begins_all (at k)) }))

    unit_outlet_lem : (p : ℕ) → HasUnit S basins labels (index_unit index k) p
        → (o : OneOutlet (next S.grid) (OfBasin S basins (basin_at basins p)) (digits_at labels) (digits_at labels p))
        → o.cell ≡ index_outlet index k
    unit_outlet_lem p h =
        rw (ap (λ (u : UnitName). u.basin) h.named, ap (λ (u : UnitName). digits_of u.label) h.named)
        (λ o. named_outlet o ∙ sym outlet_at_lem)

    outlet_drains : DrainsTo (next S.grid) (HasUnit S basins labels (index_unit index k)) (index_outlet index k)
    outlet_drains =
        let o = the_outlet in
        let d : DrainsTo (next S.grid) (HasUnit S basins labels (index_unit index k)) o.cell = record {
          among = shares_unit o.cell (label_unit o.cell o.drains.among);
          drains = λ x h.
              drains_map (λ y s. shares_unit y (label_unit y s))
              (o.drains.drains x (unit_label x (unit_shares x h)));
        } in
        rw (named_outlet o ∙ sym outlet_at_lem) at d

    -- the test of a unit's cells by basin and digits and by the unit that was written
    pub same_test : (c : ℕ) → is_of_unit S (at k) c
        ≡ both (inside S.grid c) (same_unit (unit_at basins labels c) (index_unit index k))
    same_test c = go (inside S.grid c) refl (same_unit (unit_at basins labels c) (index_unit index k)) refl
      where
        go : (s : Bool) → inside S.grid c ≡ s
            → (t : Bool) → same_unit (unit_at basins labels c) (index_unit index k) ≡ t
            → is_of_unit S (at k) c ≡ both s t
        go true i true e =
            of_unit S c (at k) i
            (sym (unit_digits_written S L accepted c i) ∙ ap basin_and_digits (same_true _ _ e) ∙ digits_at_lem)
        go true i false e =
            not-true _
            (λ u. same_false _ _ e
            (unit_written S L accepted c i ∙ ap unit_of (unit_of_lem S c (at k) u).1 ∙ sym unit_at_lem))
        go false i t e = not-true _ (λ u. true≢false (sym (unit_of_lem S c (at k) u).0 ∙ i))

    count_is : index_count index k
        ≡ count (cells S.grid)
        (λ c. both (inside S.grid c) (same_unit (unit_at basins labels c) (index_unit index k)))
    unfolding unit_cells
    count_is =
        count_at_lem ∙ count_sum (cells S.grid) (is_of_unit S (at k))
        ∙ sum_same (cells S.grid) _ _ (λ q. 1) (λ q. 1) (λ q l'. same_test q) (λ q l'. refl)
        ∙ sym (count_sum (cells S.grid) _)

  rises : (i k : ℕ) → i < k → k < length (distinct_units S)
      → is_before (basin_and_digits (index_unit index i)) (basin_and_digits (index_unit index k)) ≡ true
  unfolding distinct_units
  rises i k l h =
      rw (digits_at_lem i (omega arith), digits_at_lem k h) (rise_at (among_rise S (cells S.grid)) i k l h)

  stands_once : (i k : ℕ) → i < length (distinct_units S) → k < length (distinct_units S)
      → index_unit index i ≡ index_unit index k → i ≡ k
  stands_once i k l h e = go (ltb i k) refl (ltb k i) refl
    where
      unlike : {a b : UnitName} → is_before (basin_and_digits a) (basin_and_digits b) ≡ true → a ≡ b → ⊥
      unlike {a} {b} r q = true≢false (sym r ∙ rw q (before_irreflexive (basin_and_digits b)))

      go : (s : Bool) → ltb i k ≡ s → (t : Bool) → ltb k i ≡ t → i ≡ k
      go true p t q = absurd (unlike (rises i k (ltb-true i k p) h) e)
      go false p true q = absurd (unlike (rises k i (ltb-true k i q) l) (sym e))
      go false p false q = omega (arith, ltb-false i k p, ltb-false k i q)

  all_counts : take (length (units S)) index.counts ≡ map (unit_cells S) (distinct_units S)
  all_counts =
      ap (λ (n : ℕ). take n index.counts) (sym (length-map (units S) (λ (e : UnitEntry). e.count)))
      ∙ take-append_seam (map (λ (e : UnitEntry). e.count) (units S)) _ ∙ count_column_lem S

  -- the basins and the labels of the index, as lists
  all_basins_lem : take (length (units S)) index.basins ≡ basins_of_units (distinct_units S)
  all_basins_lem =
      ap (λ (n : ℕ). take n index.basins) (sym (length-map (units S) (λ (e : UnitEntry). e.unit.basin)))
      ∙ take-append_seam (map (λ (e : UnitEntry). e.unit.basin) (units S)) _ ∙ basin_column S

  all_labels_lem : take (length (units S)) (labels_in index.labels) ≡ labels_of_units (distinct_units S)
  all_labels_lem =
      let new = map (λ (e : UnitEntry). e.unit.label) (units S) in
      ap (take (length (units S))) (labels_numbers new (drop (length (numbers_of new)) I.labels))
      ∙ ap (λ (n : ℕ). take n (new ++ labels_in (drop (length (numbers_of new)) I.labels)))
      (sym (length-map (units S) (λ (e : UnitEntry). e.unit.label)))
      ∙ take-append_seam new _ ∙ label_column S

  pub means : IndexMeaning S basins labels (length (units S)) index
  unfolding distinct_units
  means = record {
    rising = λ i k l h. rises i k l (omega (arith, units_long S));
    stands = λ c i.
        let p = place_of [] (distinct_units S) (among_has S (cells S.grid) c (inside_lt S.grid c i) i) in (
          p.0,
          omega (arith, p.1, units_long S),
          unit_at_lem p.0 p.1 ∙ ap unit_of p.2 ∙ sym (unit_written S L accepted c i),
        );
    once = λ i k l h e. stands_once i k (omega (arith, units_long S)) (omega (arith, units_long S)) e;
    no_other = λ k l.
        let h : k < length (distinct_units S) = omega (arith, units_long S) in
        let c = cell_of_lem S L accepted k h in (
          c.cell,
          record {
            is_inside_lem = c.is_inside_lem;
            named = unit_written S L accepted c.cell c.is_inside_lem ∙ ap unit_of c.named ∙ sym (unit_at_lem k h);
          },
        );
    outlet = λ k l. outlet_drains k (omega (arith, units_long S));
    one_outlet = λ k l.
        let h : k < length (distinct_units S) = omega (arith, units_long S) in
        (the_outlet k h, named_outlet k h (the_outlet k h) ∙ sym (outlet_at_lem k h));
    unit_outlet_lem = λ k l. unit_outlet_lem k (omega (arith, units_long S));
    counts = λ k l. count_is k (omega (arith, units_long S));
    counts_add = ap (sum (λ m. m)) all_counts ∙ counts_add S;
    lookups = λ leading e. rw (all_labels_lem, all_basins_lem) (finds S L accepted leading e);
  }

-- ---- the index as the call wrote it

-- what an accepted call comes to
pub record IndexFilled (S : Sheet) (L : Lent) (I : LentIndex) (count : ℕ) : Type 0 where
  pub accepted : outcome S L ≡ Accepted
  pub all_units : count ≡ length (units S)
  pub fits : index_fits (length (units S)) I ≡ true

pub index_filled : (S : Sheet) (L : Lent) (I : LentIndex) (count : ℕ) → indexed S L I ≡ Ok count
    → IndexFilled S L I count
unfolding indexed indexed_on room_for
index_filled S L I count e = by_outcome (outcome S L) refl e
  where
    by_room : outcome S L ≡ Accepted → (b : Bool) → index_fits (length (units S)) I ≡ b
        → cond b (Ok (length (units S))) (Refused 3 0) ≡ Ok count → IndexFilled S L I count
    by_room q true f h = record { accepted = q; all_units = cc; fits = f }
    by_room q false f h = let z : ◌≡◌ {A = ℕ} 0 1 = cc in absurd (omega arith)

    by_outcome : (o : Outcome) → outcome S L ≡ o → indexed_on o (length (units S)) I ≡ Ok count
        → IndexFilled S L I count
    by_outcome Accepted q h = by_room q (index_fits (length (units S)) I) refl h
    by_outcome (Err refusal) q h = let z : ◌≡◌ {A = ℕ} 0 1 = cc in absurd (omega arith)

directly : (S : Sheet) (L : Lent) (I : LentIndex) (L' : Lent) (I' : LentIndex) (count : ℕ)
    → IndexedDirectly S L I L' I' count → IndexMeaning S L'.basins L'.labels count I'
unfolding index_after
directly S L I L' I' count c =
    let f = index_filled S L I count c.answer in
    rw (c.lent, c.index, c.answer, f.all_units) (means S L f.accepted I)

-- an accepted call from an intake is a direct call with the sheet of the intake, which had ended
from_sizes : (i : Intake) (sizes : Option Sizes) (T : LentSheet) (L : Lent) (I : LentIndex) (L' : Lent) (I' : LentIndex)
    (count : ℕ) → ended_sizes i.stage ≡ sizes → indexed_with sizes T L I ≡ Ok count
    → L' ≡ lent_with sizes T L → I' ≡ index_with sizes T L I
    → OfIntake (λ S written. IndexedDirectly S L I written I' count) i T L'
unfolding indexed_with lent_with index_with
from_sizes i None T L I L' I' count e a f g = let z : ◌≡◌ {A = ℕ} 0 1 = cc in absurd (omega arith)
from_sizes i (Some z) T L I L' I' count e a f g = record {
  sizes = z;
  ended = e;
  holds = record { answer = a; lent = f; index = g };
}

pub indexed_from : (i : Intake) (T : LentSheet) (L : Lent) (I : LentIndex) (L' : Lent) (I' : LentIndex) (count : ℕ)
    → IndexedFrom i T L I L' I' count → OfIntake (λ S written. IndexedDirectly S L I written I' count) i T L'
unfolding intake_indexed intake_lent intake_index_after
indexed_from i T L I L' I' count c =
    from_sizes i (ended_sizes i.stage) T L I L' I' count refl c.answer c.lent c.index

pub index_meaning_whole : IndexMeaningWhole
index_meaning_whole = record {
  directly = directly;
  from_intake = λ i T L I L' I' count c. let d = indexed_from i T L I L' I' count c in record {
    sizes = d.sizes;
    ended = d.ended;
    holds = directly (sheet_of d.sizes T) L I L' I' count d.holds;
  };
}
