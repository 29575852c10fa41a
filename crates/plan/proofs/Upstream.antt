-- The units upstream of a unit stand right after it in the index: those that begin with its label up to where its last
-- odd digits start.
use mathlib.Core.Path.{◌≡◌, refl, sym, ◌∙◌}
use mathlib.Core.Bool.{Bool, true, false, cond, true≢false}
use mathlib.Core.List.{List, [], ◌∷◌}
use mathlib.Core.Logic.{◌↔◌}
use Prim.Native.Nat.{ℕ, ◌+◌, ◌≤◌, ◌<◌}
use native.Mathlib.Omega.{arith}
use lib.Dec.{ltb}
use lib.ListN.{length, get_or}
use borrow.Author.Tests.{ltb-true, ltb-false}
use Rattle.sheet.specs.declared.Label.{Label}
use Rattle.sheet.specs.declared.UnitName.{UnitName}
use Rattle.sheet.specs.Record.{digits_of, no_digits, basin_and_digits}
use Rattle.sheet.specs.Refusal.{both}
use Rattle.sheet.specs.Flow.{every, is_odd, is_label}
use Rattle.sheet.proofs.Within.{both_true}
use Rattle.claims.specs.Dictionary.{is_before}
use Rattle.claims.specs.Parting.{MeetsRule, Begins, begins_none, begins_on}
use Rattle.claims.proofs.Dictionary.{Earlier, earlier_now, earlier_on, before_earlier, earlier_before}
use Rattle.claims.proofs.Dictionary.{before_irreflexive, before_transitive}
use Rattle.claims.proofs.Parting.{Parted, parted_now, parted_on, Rule, rule_now, rule_on, all_odd}
use Rattle.claims.proofs.Parting.{begins_first, begins_rest, at_parted, at_rule, rule_at_lem}
use Rattle.lookup.specs.Lookup.{greatest_depth, begins, begins_with, is_rising, start_of, length_of}
use Rattle.lookup.specs.Exactly.{entry_at}
use Rattle.lookup.proofs.Begins.{begins_agrees, begins_not_before}
use Rattle.lookup.proofs.Exactly.{not_past, not_past_at, rising_exactly}
use Rattle.plan.specs.Plan.{of_one_basin, units_of_one, is_upstream}
use Rattle.plan.specs.Meaning.{label_in, digits_in, GoodIndex}
use Rattle.plan.specs.Steps.{Judged, place_of, before_last_odd, label_before_last_odd, end_of}
use Rattle.plan.proofs.IndexMeaning.{labels_agree, rising_agree, parted_agree}
use Rattle.plan.proofs.LastOdd.{none_left, begins_left, digits_of_left}
use Rattle.plan.proofs.Places.{place_is, end_is, label_in_lem}
use Rattle.plan.proofs.PlanPlaces.{test_false}
use Rattle.plan.proofs.UnitsOfOne.{units_of_one_length, unit_of_one, before_of_one, rising_of_one}
use Rattle.plan.proofs.UpstreamMeaning.{upstream_agrees}
use Rattle.std.specs.Prelude.{Some}

-- ---- digits

-- one digit less in front, all odd still
odd_rest : (a : ℕ) (x : List ℕ) → all_odd (a ∷ x) ≡ true → all_odd x ≡ true
unfolding every
odd_rest a x e = (both_true (is_odd a) (all_odd x) e).1

-- where the rule is met, y begins with the digits of x up to where its last odd digits start
rule_begins : {x y : List ℕ} → Rule x y → Begins (before_last_odd x) y
unfolding before_last_odd
rule_begins (rule_now l o) = rw o begins_none
rule_begins (rule_on {a = a} {x = x} {y = y} r) = go (all_odd (a ∷ x)) (rule_begins r)
  where
    go : (b : Bool) → Begins (before_last_odd x) y → Begins (cond b [] (a ∷ before_last_odd x)) (a ∷ y)
    go true h = begins_none
    go false h = begins_on h

met : {x y : List ℕ} → MeetsRule x y → Rule x y
met {x} {y} m = at_rule x y m.place m.part m.rule

rule_earlier : {x y : List ℕ} → Rule x y → Earlier x y
rule_earlier (rule_now l o) = earlier_now l
rule_earlier (rule_on r) = earlier_on (rule_earlier r)

-- where the first digits are the same, the others stand so
earlier_rest : {a b : ℕ} {x y : List ℕ} → Earlier (a ∷ x) (b ∷ y) → a ≡ b → Earlier x y
earlier_rest (earlier_now l) e = absurd (omega arith)
earlier_rest (earlier_on f) e = f

-- and where it does and stands after x, the rule is met
begins_rule : {x y : List ℕ} → Parted x y → Earlier x y → Begins (before_last_odd x) y → Rule x y
unfolding before_last_odd
begins_rule (parted_now {a = a} {b = b} {x = x} {y = y} n) (earlier_now l) h = go (all_odd (a ∷ x)) refl h
  where
    go : (s : Bool) → all_odd (a ∷ x) ≡ s → Begins (cond s [] (a ∷ before_last_odd x)) (b ∷ y) → Rule (a ∷ x) (b ∷ y)
    go true e h = rule_now l e
    go false e h = absurd (n (begins_first h))
begins_rule (parted_now n) (earlier_on e) h = absurd (n refl)
begins_rule (parted_on {a = a} {x = x} {y = y} p) e h =
    rule_on (begins_rule p (earlier_rest e refl) (go (all_odd (a ∷ x)) refl h))
  where
    go : (s : Bool) → all_odd (a ∷ x) ≡ s → Begins (cond s [] (a ∷ before_last_odd x)) (a ∷ y)
        → Begins (before_last_odd x) y
    go true o h = rw (none_left x (odd_rest a x o)) begins_none
    go false o h = begins_rest h

-- the digits up to where the last odd ones start begin the others, and what stands after these does not stand before
-- those
begun : (x : List ℕ) → begins (before_last_odd x) x ≡ true
begun x = (begins_agrees (before_last_odd x) x).1 (begins_left x)

begun_not_ahead : (x y : List ℕ) → is_before x y ≡ true → is_before y (before_last_odd x) ≡ false
begun_not_ahead x y e = go (is_before y (before_last_odd x)) refl
  where
    go : (t : Bool) → is_before y (before_last_odd x) ≡ t → t ≡ false
    go true f =
        absurd (true≢false (sym (before_transitive x y (before_last_odd x) e f)
        ∙ begins_not_before (before_last_odd x) x (begun x)))
    go false f = refl

-- ---- the index

begins_of_one : (p q : Label) → begins_with (of_one_basin p) (of_one_basin q) ≡ begins (digits_of p) (digits_of q)
unfolding begins_with basin_and_digits begins
begins_of_one p q = refl

module _ (index : List Label) (p : Label) (i : ℕ) (judged : Judged index) (here : place_of index p ≡ Some i) where
  abbrev rises : is_rising (units_of_one index) ≡ true
  rises = judged.rising.rises

  abbrev units : List UnitName
  units = units_of_one index

  abbrev leading : UnitName
  leading = of_one_basin (label_before_last_odd p)

  within : i < length index
  within = (place_is index p i here).0

  is : label_in index i ≡ p
  is = (place_is index p i here).1

  is_label_lem : is_label greatest_depth p ≡ true
  is_label_lem = rw is at (label_in_lem index judged.rising i within)

  good : GoodIndex index
  good = record {
    labels = (labels_agree index).0 judged.rising.labels;
    rise = (rising_agree index).0 rises;
    parted = (parted_agree index).0 judged.part;
  }

  -- the digits of p, and those of them with which the units upstream of it begin
  abbrev own : List ℕ
  own = digits_of p

  abbrev begin : List ℕ
  begin = before_last_odd own

  -- a unit is not past the end exactly if it stands before these or begins with them
  not_past_lem : (j : ℕ) → j < length index
      → cond (is_before (digits_in index j) begin) true (begins begin (digits_in index j)) ≡ ltb j (end_of index p)
  not_past_lem j l =
      let n : not_past leading (entry_at units j) ≡ ltb j (start_of leading units + length_of leading units) =
      not_past_at leading units rises j (omega (arith, units_of_one_length index)) in
      rw (
        end_is index p,
        ← digits_of_left p is_label_lem,
        ← before_of_one (label_in index j) (label_before_last_odd p),
        ← begins_of_one (label_before_last_odd p) (label_in index j),
        ← unit_of_one index j l,
      ) n

  pub end_after_lem : (i < end_of index p) × (end_of index p ≤ length index)
  end_after_lem =
      let e = rw (is, begins_not_before begin own (begun own), begun own) at (not_past_lem i within) in (
        ltb-true i (end_of index p) (sym e),
        rw (end_is index p) (omega (arith, (rising_exactly leading units rises).within, units_of_one_length index)),
      )

  -- a unit is upstream of p exactly if the digit rule is met
  by_rule : (j : ℕ) → j < length index → (is_upstream (label_in index j) p ≡ true) ↔ MeetsRule own (digits_in index j)
  by_rule j l = rw is at (upstream_agrees index good i j within l)

  -- which it is only for units after it
  not_before : (j : ℕ) → j ≤ i → is_before own (digits_in index j) ≡ false
  not_before j h = go (ltb j i) refl (is_before own (digits_in index j)) refl
    where
      go : (s : Bool) → ltb j i ≡ s → (t : Bool) → is_before own (digits_in index j) ≡ t → t ≡ false
      go s e false f = refl
      go true e true f =
          let before = rw is at (rising_of_one index rises j i (ltb-true j i e) within) in
          absurd (true≢false (sym (before_transitive own (digits_in index j) own f before) ∙ before_irreflexive own))
      go false e true f =
          let same : j ≡ i = omega (arith, ltb-false j i e) in
          absurd (true≢false (sym (rw (same, is) at f) ∙ before_irreflexive own))

  range_up_to : (j : ℕ) → j < length index → j ≤ i → is_upstream (label_in index j) p ≡ false
  range_up_to j l h =
      test_false (is_upstream (label_in index j) p) (by_rule j l)
      (λ m. true≢false (sym (earlier_before (rule_earlier (met m))) ∙ not_before j h))

  -- of those after it they are the ones that begin so
  range_begins : (j : ℕ) → i < j → j < length index
      → is_upstream (label_in index j) p ≡ begins begin (digits_in index j)
  range_begins j h l = go (begins begin (digits_in index j)) refl
    where
      after : is_before own (digits_in index j) ≡ true
      after = rw is at (rising_of_one index rises i j h l)

      rule : begins begin (digits_in index j) ≡ true → MeetsRule own (digits_in index j)
      rule e =
          let t = rw is at (good.parted.parted i j h l) in
          let r = begins_rule (at_parted own (digits_in index j) t.0 t.1)
          (before_earlier own (digits_in index j) after) ((begins_agrees begin (digits_in index j)).0 e) in
          record { place = t.0; part = t.1; rule = rule_at_lem r t.0 t.1 }

      go : (b : Bool) → begins begin (digits_in index j) ≡ b → is_upstream (label_in index j) p ≡ b
      go true e = (by_rule j l).1 (rule e)
      go false e =
          test_false (is_upstream (label_in index j) p) (by_rule j l)
          (λ m. true≢false (sym ((begins_agrees begin (digits_in index j)).1 (rule_begins (met m))) ∙ e))

  range_after : (j : ℕ) → i < j → j < length index → is_upstream (label_in index j) p ≡ ltb j (end_of index p)
  range_after j h l =
      let after : is_before own (digits_in index j) ≡ true = rw is at (rising_of_one index rises i j h l) in
      range_begins j h l ∙ (rw (begun_not_ahead own (digits_in index j) after) at (not_past_lem j l))

-- the units upstream of a unit stand after it and before the end
pub upstream_range : (index : List Label) (p : Label) (i j : ℕ) → Judged index → place_of index p ≡ Some i
    → j < length index → is_upstream (get_or index j no_digits) p ≡ both (ltb i j) (ltb j (end_of index p))
upstream_range index p i j judged here l = go (ltb i j) refl
  where
    go : (b : Bool) → ltb i j ≡ b → is_upstream (get_or index j no_digits) p ≡ both b (ltb j (end_of index p))
    go true e = range_after index p i judged here j (ltb-true i j e) l
    go false e = range_up_to index p i judged here j l (ltb-false i j e)
