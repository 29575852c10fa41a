-- Places in a rising index: the units below a limit stand first, and a label's place is where they end.
use mathlib.Core.Path.{◌≡◌, refl, sym, ap, ◌∙◌}
use mathlib.Core.Bool.{Bool, true, false, true≢false}
use mathlib.Core.List.{List}
use mathlib.Core.Logic.{◌≢◌}
use Prim.Native.Nat.{ℕ, ◌+◌, ◌≤◌, ◌<◌}
use native.Mathlib.Omega.{arith}
use lib.Dec.{ltb}
use lib.ListN.{length, get_or, replicate}
use borrow.Author.Tests.{le-ltb, ltb-true, ltb-false}
use Rattle.sheet.specs.declared.Label.{Label}
use Rattle.sheet.specs.declared.UnitName.{UnitName}
use Rattle.sheet.specs.Record.{no_digits, same_label, digits_of}
use Rattle.sheet.specs.Flow.{is_label}
use Rattle.sheet.proofs.First.{NoneBelow, first_none, first_at_lem, none_first, at_first}
use Rattle.sheet.proofs.Records.{same_true, same_is, same_not, same_false}
use Rattle.claims.specs.Dictionary.{is_before}
use Rattle.claims.proofs.Dictionary.{before_irreflexive}
use Rattle.lookup.specs.Lookup.{greatest_depth, start_of, length_of}
use Rattle.lookup.specs.Exactly.{entry_at}
use Rattle.lookup.specs.Padded.{padded, padded_end, is_below, count_below}
use Rattle.lookup.proofs.Counted.{every_at, counted_most}
use Rattle.lookup.proofs.Exactly.{ahead_at, not_past_at}
use Rattle.lookup.proofs.Limits.{start_below, end_below}
use Rattle.lookup.proofs.PaddedOrder.{unit_before_padded, unit_not_past_padded}
use Rattle.plan.specs.Plan.{of_one_basin, units_of_one, is_one_of}
use Rattle.plan.specs.Meaning.{label_in}
use Rattle.plan.specs.Steps.{Rising, StandFirst, place_of, label_before_last_odd, end_of}
use Rattle.plan.proofs.PlanPlaces.{test_false, one_of_agrees}
use Rattle.plan.proofs.UnitsOfOne.{units_of_one_length, unit_of_one, before_of_one}
use Rattle.plan.proofs.UnitsOfOne.{rising_of_one, places_differ}
use Rattle.std.specs.Prelude.{None, Some}

-- ---- the place of a label

abbrev is_at : List Label → Label → ℕ → Bool
is_at index p i = same_label (label_in index i) p

pub place_is : (index : List Label) (p : Label) (i : ℕ) → place_of index p ≡ Some i
    → (i < length index) × (get_or index i no_digits ≡ p)
unfolding place_of
place_is index p i e =
    let f = at_first (is_at index p) (length index) i e in (f.below, same_true (label_in index i) p f.passes)

pub place_some : (index : List Label) (p : Label) (i : ℕ) → place_of index p ≡ Some i → is_one_of index p ≡ true
place_some index p i e =
    let f = place_is index p i e in (one_of_agrees index p).1 (record { place = i; within = f.0; is = f.1 })

pub place_none : (index : List Label) (p : Label) → place_of index p ≡ None → is_one_of index p ≡ false
unfolding place_of
place_none index p e =
    test_false (is_one_of index p) (one_of_agrees index p)
    (λ s. same_false (label_in index s.place) p
    (none_first (is_at index p) (length index) e s.place s.within) s.is)

-- ---- the units below a limit

pub count_most : (index : List Label) (limit : ℕ) → count_below 1 limit (units_of_one index) ≤ length index
unfolding count_below
count_most index limit =
    omega (arith, counted_most (is_below 1 limit) (units_of_one index), units_of_one_length index)

-- where they stand first, the label at a place is below the limit exactly if the place is before their end
pub below_at : (index : List Label) (limit : ℕ) → StandFirst limit (units_of_one index) → (i : ℕ) → i < length index
    → ltb (padded (label_in index i)) limit ≡ ltb i (count_below 1 limit (units_of_one index))
unfolding is_below
below_at index limit f i l =
    let b : is_below 1 limit (entry_at (units_of_one index) i) ≡ ltb i (count_below 1 limit (units_of_one index)) =
    f.below i (omega (arith, units_of_one_length index)) in
    rw (unit_of_one index i l) at b

-- the place where the units upstream of a unit end, by the units that stand before its leading digits or begin so
pub end_is : (index : List Label) (p : Label)
    → let leading = of_one_basin (label_before_last_odd p) in
    end_of index p ≡ start_of leading (units_of_one index) + length_of leading (units_of_one index)
unfolding end_of
end_is index p = refl

-- ---- a rising index

module _ (index : List Label) (r : Rising index) where
  abbrev units : List UnitName
  units = units_of_one index

  -- each label of it is a label
  pub label_in_lem : (i : ℕ) → i < length index → is_label greatest_depth (label_in index i) ≡ true
  label_in_lem i l = every_at no_digits (is_label greatest_depth) index i r.labels l

  entry_labelled : (i : ℕ) → i < length units → is_label greatest_depth (entry_at units i).label ≡ true
  entry_labelled i l =
      let h : i < length index = omega (arith, units_of_one_length index) in
      rw (unit_of_one index i h) (label_in_lem i h)

  -- ---- the units below a label, or below the end of those that begin with it, stand first

  module _ (p : Label) (label : is_label greatest_depth p ≡ true) where
    abbrev leading : UnitName
    leading = of_one_basin p

    count_start : count_below 1 (padded p) units ≡ start_of leading units
    unfolding units_of_one
    count_start = start_below leading (replicate (length index) 1) index label r.labels

    pub count_end : count_below 1 (padded_end p) units ≡ start_of leading units + length_of leading units
    unfolding units_of_one
    count_end = end_below leading (replicate (length index) 1) index label r.labels

    pub start_first : StandFirst (padded p) units
    start_first = record {
      below = λ i l.
          sym (unit_before_padded (entry_at units i) leading (entry_labelled i l) label)
          ∙ ahead_at leading units r.rises i l ∙ ap (ltb i) (sym count_start);
    }

    pub end_first : StandFirst (padded_end p) units
    end_first = record {
      below = λ i l.
          sym (unit_not_past_padded (entry_at units i) leading (entry_labelled i l) label)
          ∙ not_past_at leading units r.rises i l ∙ ap (ltb i) (sym count_end);
    }

  -- ---- the place of a label

  -- the place where a label stands is the only one
  pub place_at_lem : (p : Label) (i : ℕ) → i < length index → same_label (label_in index i) p ≡ true → place_of index p ≡ Some i
  unfolding place_of
  place_at_lem p i l e =
      first_at_lem (is_at index p) (length index) i (record { below = l; passes = e; none_before = none })
    where
      none : NoneBelow (is_at index p) i
      none j h = same_not (label_in index j) p (λ f.
          let other : j ≢ i = omega arith in
          places_differ index r.rises j i (omega arith) l other (f ∙ sym (same_true (label_in index i) p e)))

  -- what is no label has none
  pub place_of_none : (p : Label) → is_label greatest_depth p ≡ false → place_of index p ≡ None
  unfolding place_of
  place_of_none p e =
      first_none (is_at index p) (length index)
      (λ i l. same_not (label_in index i) p (λ f. true≢false (sym (label_in_lem i l) ∙ rw f e)))

  module _ (p : Label) (label : is_label greatest_depth p ≡ true) where
    -- a label stands where the units before it end
    place_counted : (i : ℕ) → i < length index → label_in index i ≡ p → count_below 1 (padded p) units ≡ i
    place_counted i l e = go (ltb start i) refl
      where
        start : ℕ
        start = start_of (of_one_basin p) units

        at : (j : ℕ) → j < length index → is_before (digits_of (label_in index j)) (digits_of p) ≡ ltb j start
        at j h =
            let a = ahead_at (of_one_basin p) units r.rises j (omega (arith, units_of_one_length index)) in
            sym (before_of_one (label_in index j) p) ∙ (rw (unit_of_one index j h) at a)

        go : (b : Bool) → ltb start i ≡ b → count_below 1 (padded p) units ≡ i
        go true b =
            let h = ltb-true start i b in
            let before = rw e at (rising_of_one index r.rises start i h l) in
            absurd (true≢false (sym before ∙ at start (omega arith) ∙ le-ltb start start (omega arith)))
        go false b =
            let not-ahead : ltb i start ≡ false = sym (at i l) ∙ rw e (before_irreflexive (digits_of p)) in
            omega (arith, count_start p label, ltb-false start i b, ltb-false i start not-ahead)

    -- so one that does not stand there has no place
    pub place_of_other : (c : ℕ) → c ≡ count_below 1 (padded p) units
        → (c < length index → same_label (label_in index c) p ≡ false) → place_of index p ≡ None
    unfolding place_of
    place_of_other c e other =
        first_none (is_at index p) (length index)
        (λ i l. same_not (label_in index i) p (λ f.
        let here : c ≡ i = e ∙ place_counted i l f in
        true≢false (sym (rw here (same_is (label_in index i) p f)) ∙ other (rw here l))))
