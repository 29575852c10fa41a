-- The check of a survey plan on the index of a basin of an accepted sheet says what specs/Survey.antt states.
use mathlib.Core.Path.{◌≡◌, refl, sym, ◌∙◌, ap}
use mathlib.Core.Bool.{true}
use mathlib.Core.List.{List, map}
use mathlib.Core.Logic.{◌≢◌, ◌↔◌}
use Prim.Native.Nat.{ℕ, ◌+◌, ◌≤◌, ◌<◌}
use native.Mathlib.Omega.{arith}
use lib.ListN.{length, length-append, length-map, drop}
use borrow.Author.Tests.{eq-eqb}
use Rattle.sheet.specs.declared.Label.{Label}
use Rattle.sheet.specs.declared.UnitName.{UnitName}
use Rattle.sheet.specs.Sheet.{Sheet, next}
use Rattle.sheet.specs.Water.{Passes}
use Rattle.sheet.specs.Record.{digits_of, numbers_of, label_at, unit_name, basin_and_digits}
use Rattle.sheet.specs.Refusal.{Lent, written, lent_after}
use Rattle.sheet.proofs.Slices.{numbers_length, numbers_enough}
use Rattle.claims.specs.Dictionary.{is_before}
use Rattle.claims.specs.Parting.{PartAt, MeetsRule}
use Rattle.claims.specs.Demand.{OfBasin, DemandThreeOf}
use Rattle.claims.specs.Flow.{OutletFlowMeaning}
use Rattle.claims.proofs.Theorems.{demand_three}
use Rattle.claims.proofs.FlowMeaning.{outlet_flow_meaning}
use Rattle.labelling.specs.FromIntake.{sheet_of}
use Rattle.index.specs.Units.{UnitEntry, units}
use Rattle.index.specs.Index.{LentIndex, written_index, index_after}
use Rattle.index.specs.Steps.{Room}
use Rattle.index.specs.Meaning.{index_unit, index_outlet, HasUnit, IndexMeaning, IndexedDirectly}
use Rattle.index.proofs.Meaning.{means, index_filled, indexed_from}
use Rattle.plan.specs.Plan.{plan_answer}
use Rattle.plan.specs.Meaning.{label_in, Stands, ByDigits, GoodPlan, GoodIndex}
use Rattle.plan.proofs.Meaning.{plan_meaning}
use Rattle.survey.specs.Survey.{basin_index, WaterPasses, SurveyMeaning, SurveyMeaningWhole}
use Rattle.survey.proofs.BasinIndex.{BasinPlaces, no_digits_label, basin_places}
use Rattle.sheet.specs.Answer.{Accepted}

-- units of one basin stand in the order of their labels
labels_before : (basin : ℕ) (p q : Label)
    → is_before (basin_and_digits (unit_name basin p)) (basin_and_digits (unit_name basin q)) ≡ true
    → is_before (digits_of p) (digits_of q) ≡ true
unfolding is_before basin_and_digits
labels_before basin p q e = rw (eq-eqb basin basin refl) at e

-- one order for another that asks no more of different units of the index
in_order_lem : (A B : Label → Label → Type 0) (index plan : List Label)
    → ((p q : Label) → Stands index (length index) p → Stands index (length index) q → p ≢ q → B q p → A q p)
    → GoodPlan A index plan → GoodPlan B index plan
in_order_lem A B index plan f o = record {
  known = o.known;
  stands = o.stands;
  once = o.once;
  after = λ j k l m n w. o.after j k l m n (f _ _ (o.known j l) (o.known k m) n w);
}

module _ (S : Sheet) (basins labels : List ℕ) (units : ℕ) (I : LentIndex)
    (index-means : IndexMeaning S basins labels units I) (room : Room units I) (demand : DemandThreeOf S basins labels)
    (flows : OutletFlowMeaning S basins labels) where
  -- a cell's basin and label, of the name of its unit
  of_basin_lem : (u : UnitName) (c : ℕ) → HasUnit S basins labels u c → OfBasin S basins u.basin c
  of_basin_lem u c h = record { is_inside_lem = h.is_inside_lem; numbered = ap (λ (v : UnitName). v.basin) h.named }

  label_of : (u : UnitName) (c : ℕ) → HasUnit S basins labels u c → label_at labels c ≡ u.label
  label_of u c h = ap (λ (v : UnitName). v.label) h.named

  module _ (basin : ℕ) where
    abbrev of_basin : List Label
    of_basin = basin_index I units basin

    places : BasinPlaces I units basin
    places = basin_places units I room basin (index-means.lookups _ no_digits_label)

    -- the place in the index of the unit at a place of the basin's
    abbrev place : ℕ → ℕ
    place i = places.start + i

    cell_at : (i : ℕ) → i < length of_basin → (c : ℕ) × HasUnit S basins labels (unit_name basin (label_in of_basin i)) c
    cell_at i l = rw (places.unit i l) at (index-means.no_other (place i) (places.within i l))

    -- ---- the basin's index has the labels of its units, and is never refused

    holds : (p : Label) → Stands of_basin (length of_basin) p ↔ ((c : ℕ) × HasUnit S basins labels (unit_name basin p) c)
    holds p = (
      λ s. rw s.is at (cell_at s.place s.within),
      λ h.
          let k = index-means.stands h.0 h.1.is_inside_lem in
          places.stands k.0 k.1 p (k.2 ∙ h.1.named),
    )

    rise : (i j : ℕ) → i < j → j < length of_basin
        → is_before (digits_of (label_in of_basin i)) (digits_of (label_in of_basin j)) ≡ true
    rise i j l h =
        labels_before basin (label_in of_basin i) (label_in of_basin j)
        (rw (places.unit i (omega arith), places.unit j h) at
        (index-means.rising (place i) (place j) (omega arith) (places.within j h)))

    different : (i j : ℕ) → i < j → j < length of_basin → label_in of_basin i ≢ label_in of_basin j
    different i j l h e =
        let same = index-means.once (place i) (place j) (places.within i (omega arith)) (places.within j h)
        (places.unit i (omega arith) ∙ ap (unit_name basin) e ∙ sym (places.unit j h)) in
        omega (arith, same)

    -- two units of the basin part
    units_part : (p q : Label) (c d : ℕ) → HasUnit S basins labels (unit_name basin p) c
        → HasUnit S basins labels (unit_name basin q) d → p ≢ q → (k : ℕ) × PartAt (digits_of p) (digits_of q) k
    units_part p q c d h g n =
        let e = label_of _ c h in
        let f = label_of _ d g in
        rw (e, f) at ((demand.within basin).labels_part c d (of_basin_lem _ c h) (of_basin_lem _ d g) (rw (e, f) n))

    good : GoodIndex of_basin
    good = record {
      labels = record { labels = places.labels };
      rise = record { rise = rise };
      parted = record {
        parted = λ i j l h.
            let c = cell_at i (omega arith) in
            let d = cell_at j h in
            units_part _ _ c.0 d.0 c.1 d.1 (different i j l h);
      };
    }

    -- ---- water passes an outlet exactly if the digit rule is met

    outlet_rule : (p q : Label) (k : ℕ) → k < units → index_unit I k ≡ unit_name basin p
        → (d : ℕ) → HasUnit S basins labels (unit_name basin q) d → p ≢ q
        → Passes (next S.grid) d (index_outlet I k) ↔ MeetsRule (digits_of p) (digits_of q)
    outlet_rule p q k l e d g n =
        let u = index-means.no_other k l in
        let c = u.0 in
        let h : HasUnit S basins labels (unit_name basin p) c = rw e at u.1 in
        let o = flows.outlet c h.is_inside_lem in
        let is = index-means.unit_outlet_lem k l c u.1 o in
        let bc = (of_basin_lem _ c h).numbered in
        let bd = (of_basin_lem _ d g).numbered in
        let lc = label_of _ c h in
        let ld = label_of _ d g in
        rw (is, lc, ld) at (flows.rule c d h.is_inside_lem g.is_inside_lem (bc ∙ sym bd) (rw (lc, ld) n))

    by_water : (p q : Label) → Stands of_basin (length of_basin) p → Stands of_basin (length of_basin) q → p ≢ q
        → ByDigits q p → WaterPasses S basins labels units I basin q p
    by_water p q s t n m =
        let d = (holds q).0 t in
        let e = places.unit s.place s.within ∙ ap (unit_name basin) s.is in
        let l = places.within s.place s.within in
        record {
          place = place s.place;
          within = l;
          is = e;
          cell = d.0;
          from = d.1;
          passes = (outlet_rule p q (place s.place) l e d.0 d.1 n).1 m;
        }

    by_digits : (p q : Label) → p ≢ q → WaterPasses S basins labels units I basin q p → ByDigits q p
    by_digits p q n w = (outlet_rule p q w.place w.within w.is w.cell w.from n).0 w.passes

    accepted : (plan : List Label) (places : ℕ) → length of_basin ≤ places
        → (plan_answer of_basin plan places ≡ Accepted) ↔ GoodPlan (WaterPasses S basins labels units I basin) of_basin plan
    accepted plan places l =
        let a = (plan_meaning of_basin plan places).accepted in (
          λ e. in_order_lem ByDigits _ of_basin plan (λ p q s t n w. by_digits p q n w) (a.0 e).2,
          λ o. a.1 (good, l, in_order_lem _ ByDigits of_basin plan by_water o),
        )

  pub survey_means : SurveyMeaning S basins labels units I
  survey_means = record {
    holds = holds;
    never_refused = good;
    accepted = accepted;
    whole_units = λ basin q p n w c h k l e.
        (outlet_rule basin p q k l e c h (λ x. n (sym x))).1 (by_digits basin p q (λ x. n (sym x)) w);
  }

-- ---- the index as the call wrote it

-- which has a place for each unit that was written
written_long : (new old : List ℕ) → length new ≤ length (written new old)
written_long new old = omega (arith, length-append new (drop (length new) old))

column_long : (f : UnitEntry → ℕ) (entries : List UnitEntry) (old : List ℕ)
    → length entries ≤ length (written (map f entries) old)
column_long f entries old = omega (arith, written_long (map f entries) old, length-map entries f)

index_room : (entries : List UnitEntry) (I : LentIndex) → Room (length entries) (written_index entries I)
index_room entries I =
    let new = map (λ (e : UnitEntry). e.unit.label) entries in
    record {
      labels = numbers_enough _ _ (omega (
        arith,
        written_long (numbers_of new) I.labels,
        numbers_length new,
        length-map entries (λ (e : UnitEntry). e.unit.label),
      ));
      outlets = column_long (λ (e : UnitEntry). e.outlet) entries I.outlets;
      counts = column_long (λ (e : UnitEntry). e.count) entries I.counts;
      basins = column_long (λ (e : UnitEntry). e.unit.basin) entries I.basins;
    }

directly : (S : Sheet) (L : Lent) (I : LentIndex) (L' : Lent) (I' : LentIndex) (count : ℕ)
    → IndexedDirectly S L I L' I' count → SurveyMeaning S L'.basins L'.labels count I'
unfolding index_after
directly S L I L' I' count c =
    let f = index_filled S L I count c.answer in
    rw (c.lent, c.index, c.answer, f.all_units)
    (survey_means S (lent_after S L).basins (lent_after S L).labels (length (units S))
    (written_index (units S) I) (means S L f.accepted I) (index_room (units S) I)
    (demand_three S L f.accepted) (outlet_flow_meaning S L f.accepted))

pub survey_meaning : SurveyMeaningWhole
survey_meaning = record {
  directly = directly;
  from_intake = λ i T L I L' I' count c. let d = indexed_from i T L I L' I' count c in record {
    sizes = d.sizes;
    ended = d.ended;
    holds = directly (sheet_of d.sizes T) L I L' I' count d.holds;
  };
}
