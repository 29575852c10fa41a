-- The dues that the call wrote for an accepted sheet say what specs/Meaning.antt states.
use mathlib.Core.Path.{◌≡◌, refl, sym, ◌∙◌, ap}
use mathlib.Core.Bool.{Bool, true, false, cond}
use mathlib.Core.List.Memᴰ
use mathlib.Core.List.{List, [], ◌∷◌}
use Prim.Native.Nat.{ℕ, zero, suc, ◌+◌, ◌-◌, ◌≤◌, ◌<◌}
use native.Mathlib.Decide.{dec_lt}
use native.Mathlib.Nat.{zero-add, mul-div_cancel}
use native.Mathlib.Omega.{arith}
use lib.Dec.{leb}
use lib.ListN.{length, length-map, get_or, take, drop}
use lib.Seq.{take-append_seam, take-length}
use borrow.Author.Tests.{leb-true, le-leb}
use Rattle.sheet.specs.Sheet.{Sheet, cells, is_outlet}
use Rattle.sheet.specs.Area.{count, weight}
use Rattle.sheet.specs.Refusal.{Lent, outcome, written, lent_after}
use Rattle.sheet.proofs.Lists.{length_list, written_at}
use Rattle.claims.specs.Bounds.{sum, most_area}
use Rattle.claims.proofs.Sums.{sum_same, sum_mono}
use Rattle.claims.proofs.BasinNumbers.{basin_some, basin_most}
use Rattle.claims.proofs.Written.{grid_checks}
use Rattle.faults.specs.declared.Sizes.{Sizes}
use Rattle.intake.specs.declared.Intake.{Intake}
use Rattle.intake.specs.Intake.{LentSheet, ended_sizes}
use Rattle.labelling.specs.FromIntake.{sheet_of, intake_lent, lent_with}
use Rattle.index.specs.Units.{unit_of, distinct_units, units}
use Rattle.index.specs.Index.{LentIndex, indexed, written_index}
use Rattle.index.specs.FromIntake.{indexed_with, intake_indexed}
use Rattle.index.specs.Meaning.{index_basin}
use Rattle.index.proofs.ListPlaces.{at_place, map_at}
use Rattle.index.proofs.Distinct.{among_rise}
use Rattle.index.proofs.Columns.{units_long, basin_column, column_at_lem}
use Rattle.index.proofs.Meaning.{means, same_test, index_filled}
use Rattle.dues.specs.Levy.{greatest_total, basin_of_unit, units_of_basin, weight_of_first, is_of_basin, whole_weight}
use Rattle.dues.specs.Levy.{due_of_first, due, dues_of, total_fits, with_dues, levied_on, levied, lent_after_levy}
use Rattle.dues.specs.Levy.{index_after_levy, dues_after}
use Rattle.dues.specs.FromIntake.{intake_levied, intake_lent_after_levy, intake_index_after_levy, intake_dues_after}
use Rattle.dues.specs.FromIntake.{levied_with, index_levied_with, dues_with}
use Rattle.dues.specs.Meaning.{HasBasin, BasinPlaces, index_weight, BasinShared, LevyMeaning, LeviedDirectly}
use Rattle.dues.specs.Meaning.{LevyMeaningFrom, LevyMeaningWhole}
use Rattle.dues.proofs.Shares.{product_most, up_to, upto_more, owed, owed_none, dues_sum, Near, due_near}
use Rattle.dues.proofs.BasinUnits.{of_basin_mem, Stretch, stretch}
use Rattle.dues.proofs.UnitWeights.{unit_weight, unit_weights, unit_has, first_is, first_none, first_all, dues_are}
use Rattle.dues.proofs.UnitWeights.{some_of_basin, whole_some, whole_most}
use Rattle.sheet.specs.Answer.{Counted, Accepted, Refused}
use Rattle.std.specs.Prelude.{Err, Ok, None, Option, Some}

-- the first cell up to which so many pass a test
count_reaches : (t : ℕ → Bool) (n b : ℕ) → 1 ≤ b → b ≤ count n t → (o : ℕ) × (t o ≡ true) × (count (suc o) t ≡ b)
unfolding count
count_reaches t zero b l m = absurd (omega arith)
count_reaches t (suc n) b l m = go (t n) refl m (count_reaches t n b l)
  where
    go : (s : Bool) → t n ≡ s → b ≤ cond s (suc (count n t)) (count n t)
        → (b ≤ count n t → (o : ℕ) × (t o ≡ true) × (count (suc o) t ≡ b))
        → (o : ℕ) × (t o ≡ true) × (count (suc o) t ≡ b)
    go true e h f = elim (dec_lt (count n t) b) [
      | yes k ↦ (n, e, rw e (omega arith))
      | no k ↦ f (omega arith)
    ]
    go false e h f = f h

unit_basin : (x : List ℕ) → (unit_of x).basin ≡ basin_of_unit x
unfolding unit_of
unit_basin [] = refl
unit_basin (b ∷ x) = refl

-- ---- an accepted sheet, with the index of its units and the dues of one basin's written over what I and D held

module _ (S : Sheet) (L : Lent) (accepted : outcome S L ≡ Accepted) (I : LentIndex) (basin total : ℕ) (D : List ℕ)
    (most : total ≤ greatest_total) where
  abbrev basins : List ℕ
  basins = (lent_after S L).basins

  abbrev labels : List ℕ
  labels = (lent_after S L).labels

  abbrev index : LentIndex
  index = written_index (units S) I

  abbrev dues : List ℕ
  dues = written (dues_of S basin total) D

  abbrev its : List (List ℕ)
  its = units_of_basin S basin

  abbrev whole : ℕ
  whole = whole_weight S basin

  -- ---- the places of the basin's units
  stands : (start : ℕ) × Stretch basin (distinct_units S) start
  unfolding distinct_units
  stands = stretch basin (among_rise S (cells S.grid))

  abbrev start : ℕ
  start = stands.0

  its_within : start + length its ≤ length (distinct_units S)
  unfolding units_of_basin
  its_within = stands.1.within

  its_at : (k : ℕ) → k < length its → get_or (distinct_units S) (start + k) [] ≡ get_or its k []
  unfolding units_of_basin
  its_at = stands.1.at

  its_only : (k : ℕ) → k < length (distinct_units S) → basin_of_unit (get_or (distinct_units S) k []) ≡ basin
      → (start ≤ k) × (k < start + length its)
  unfolding units_of_basin
  its_only = stands.1.no_other

  its_basin : (k : ℕ) → k < length its → basin_of_unit (get_or its k []) ≡ basin
  unfolding units_of_basin
  its_basin k l = (of_basin_mem basin (distinct_units S) (get_or its k []) (at_place [] its k l)).1

  basin_at_lem : (k : ℕ) → k < length (distinct_units S)
      → index_basin index k ≡ basin_of_unit (get_or (distinct_units S) k [])
  basin_at_lem k l =
      column_at_lem (λ x. (unit_of x).basin) (distinct_units S) _ I.basins k (basin_column S) l
      ∙ unit_basin (get_or (distinct_units S) k [])

  places : BasinPlaces index (length (units S)) basin start (length its)
  places = record {
    within = omega (arith, its_within, units_long S);
    its = λ k l. basin_at_lem (start + k) (omega (arith, its_within)) ∙ ap basin_of_unit (its_at k l) ∙ its_basin k l;
    no_other = λ k l e.
        let h : k < length (distinct_units S) = omega (arith, units_long S) in its_only k h (sym (basin_at_lem k h) ∙ e);
  }

  -- ---- their dues

  -- S(k) is at most A
  first_most : (k : ℕ) → weight_of_first S basin k ≤ whole
  unfolding weight_of_first whole_weight
  first_most k =
      sum_mono (cells S.grid) (is_of_basin S basin) _ (weight S) (some_of_basin S basin k)

  module _ (k : ℕ) (l : k < length its) where
    weight_is : index_weight S basins labels index (start + k) ≡ unit_weight S (get_or its k [])
    weight_is =
        sum_same (cells S.grid) _ _ (weight S) (weight S)
        (λ q b. sym (same_test S L accepted I (start + k) (omega (arith, its_within)) q)) (λ q b. refl)
        ∙ ap (unit_weight S) (its_at k l)

    first_more : weight_of_first S basin (suc k)
        ≡ weight_of_first S basin k + index_weight S basins labels index (start + k)
    first_more =
        first_is S basin (suc k)
        ∙ upto_more (unit_weights S basin) k (rw (length-map its (unit_weight S)) l)
        ∙ (rw (first_is S basin k, weight_is, map_at [] 0 (unit_weight S) its k l) refl)

    owes : get_or dues k 0
        ≡ owed total whole (weight_of_first S basin (suc k)) - owed total whole (weight_of_first S basin k)
    unfolding dues_of due due_of_first
    owes = written_at (due S basin total) (length its) k D l

    near : 0 < whole → Near total whole (get_or dues k 0) (index_weight S basins labels index (start + k))
    near w =
        rw (owes, first_more)
        (due_near total whole w (weight_of_first S basin k) (index_weight S basins labels index (start + k)))

  dues_length : length (dues_of S basin total) ≡ length its
  unfolding dues_of
  dues_length = length_list (due S basin total) 0 (length its)

  all_owed : 0 < whole → sum (λ m. m) (dues_of S basin total) ≡ total
  all_owed w =
      let ws = unit_weights S basin in
      let all : sum (λ w. w) ws ≡ whole =
      ap (sum (λ w. w)) (sym (take-length ws)) ∙ ap (up_to ws) (length-map its (unit_weight S))
      ∙ sym (first_is S basin (length its)) ∙ first_all S basin in
      let added = dues_sum total whole w 0 ws in
      let once : owed total whole (0 + sum (λ w. w) ws) ≡ total =
      ap (owed total whole) (zero-add (sum (λ w. w) ws) ∙ all) ∙ mul-div_cancel total w in
      rw (← dues_are S basin total) (omega (arith, added, once, owed_none total whole))

  -- ---- a basin that the sheet has
  some_weight : HasBasin S basin → 0 < whole
  some_weight h =
      let o = count_reaches (is_outlet S.grid) (cells S.grid) basin h.some h.most in
      whole_some S L accepted basin o.0 o.1 o.2

  shared : HasBasin S basin → BasinShared S basins labels basin total start (length its) index dues
  shared h =
      let w = some_weight h in
      record {
        first_none = first_none S basin;
        first_more = first_more;
        first_all = first_all S basin;
        whole_some = w;
        owes = owes;
        dues_add =
            ap (λ (n : ℕ). sum (λ m. m) (take n dues)) (sym dues_length)
            ∙ ap (sum (λ m. m)) (take-append_seam (dues_of S basin total) (drop (length (dues_of S basin total)) D))
            ∙ all_owed w;
        cent_above = λ k l. (near k l w).0;
        cent_below = λ k l. (near k l w).1;
      }

  -- ---- a basin that it lacks
  no_units : ¬ HasBasin S basin → its ≡ []
  no_units n = go its refl
    where
      go : (xs : List (List ℕ)) → its ≡ xs → xs ≡ []
      go [] e = refl
      go (x ∷ xs) e =
          let c = unit_has S basin x (rw e (Memᴰ.head refl)) in
          let P = grid_checks S L accepted in
          absurd (n (record {
            some = omega (arith, c.of_basin_lem, basin_some S.grid P c.cell c.is_inside_lem);
            most = omega (arith, c.of_basin_lem, basin_most S.grid P c.cell c.is_inside_lem);
          }))

  lacking : ¬ HasBasin S basin → (length its ≡ 0) × (dues ≡ D)
  unfolding dues_of
  lacking n = let e = no_units n in (ap length e, rw e refl)

  pub levy_means : LevyMeaning S basins labels basin total (length (units S)) index D dues
  levy_means = record {
    index = means S L accepted I;
    start = start;
    number = length its;
    places = places;
    shared = shared;
    lacking = lacking;
    total_most = most;
    products_fit = λ k.
        let m : weight_of_first S basin k ≤ most_area =
        omega (arith, first_most k, whole_most S L accepted basin) in
        omega (arith, product_most most m);
  }

-- ---- the dues as the call wrote them

-- what an accepted call comes to
levied_units : (total : ℕ) (answer : Counted) (wanted : ℕ) (D : List ℕ) (count : ℕ)
    → levied_on total answer wanted D ≡ Ok count → (total_fits total ≡ true) × (answer ≡ Ok count)
unfolding levied_on with_dues
levied_units total answer wanted D count e = go (total_fits total) refl e
  where
    clash : {number place : ℕ} → ◌≡◌ {A = Counted} (Refused number place) (Ok count) → ⊥
    clash h = let z : ◌≡◌ {A = ℕ} 0 1 = cc in omega arith

    by_answer : (a : Counted) → with_dues a wanted D ≡ Ok count → a ≡ Ok count
    by_answer (Ok units) h = by_room (leb wanted (length D)) h
      where
        by_room : (b : Bool) → ◌≡◌ {A = Counted} (cond b (Ok units) (Refused 3 0)) (Ok count)
            → ◌≡◌ {A = Counted} (Ok units) (Ok count)
        by_room true k = k
        by_room false k = absurd (clash k)
    by_answer (Err refusal) h = absurd (clash h)

    go : (b : Bool) → total_fits total ≡ b → cond b (with_dues answer wanted D) (Refused 18 0) ≡ Ok count
        → (total_fits total ≡ true) × (answer ≡ Ok count)
    go true f h = (f, by_answer answer h)
    go false f h = absurd (clash h)

-- and where it is accepted
units_levied : (total : ℕ) (answer : Counted) (wanted : ℕ) (D : List ℕ) (count : ℕ) → total ≤ greatest_total
    → answer ≡ Ok count → wanted ≤ length D → levied_on total answer wanted D ≡ Ok count
unfolding levied_on total_fits with_dues
units_levied total answer wanted D count l e r =
    rw (le-leb total greatest_total l, e, le-leb wanted (length D) r) refl

within_bound : (total : ℕ) → total_fits total ≡ true → total ≤ greatest_total
unfolding total_fits
within_bound total e = leb-true total greatest_total e

directly : (S : Sheet) (L : Lent) (I : LentIndex) (basin total : ℕ) (D : List ℕ) (L' : Lent) (I' : LentIndex)
    (D' : List ℕ) (count : ℕ) → LeviedDirectly S L I basin total D L' I' D' count
    → LevyMeaning S L'.basins L'.labels basin total count I' D D'
unfolding levied lent_after_levy index_after_levy dues_after
directly S L I basin total D L' I' D' count c =
    let a = levied_units total (indexed S L I) (length (units_of_basin S basin)) D count c.answer in
    let f = index_filled S L I count a.1 in
    rw (c.lent, c.index, c.dues, c.answer, a.0, f.all_units)
    (levy_means S L f.accepted I basin total D (within_bound total a.0))

from_sizes : (i : Intake) (sizes : Option Sizes) (T : LentSheet) (L : Lent) (I : LentIndex) (basin total : ℕ)
    (D : List ℕ) (L' : Lent) (I' : LentIndex) (D' : List ℕ) (count : ℕ) → ended_sizes i.stage ≡ sizes
    → levied_with sizes T L I basin total D ≡ Ok count → L' ≡ cond (total_fits total) (lent_with sizes T L) L
    → I' ≡ index_levied_with sizes T L I basin total D → D' ≡ dues_with sizes T L I basin total D
    → LevyMeaningFrom i T L' basin total count I' D D'
unfolding levied_with lent_with index_levied_with dues_with lent_after_levy
from_sizes i None T L I basin total D L' I' D' count e a f g h = absurd (refused (total_fits total) a)
  where
    refused : (b : Bool) → cond b (Refused 15 0) (Refused 18 0) ≡ Ok count → ⊥
    refused true q = let y : ◌≡◌ {A = ℕ} 0 1 = cc in omega arith
    refused false q = let y : ◌≡◌ {A = ℕ} 0 1 = cc in omega arith
from_sizes i (Some z) T L I basin total D L' I' D' count e a f g h = record {
  sizes = z;
  ended = e;
  holds =
      directly (sheet_of z T) L I basin total D L' I' D' count (record { answer = a; lent = f; index = g; dues = h });
}

-- from an intake that has ended
units_levied_from : (i : Intake) (sizes : Option Sizes) (T : LentSheet) (L : Lent) (I : LentIndex) (basin total : ℕ)
    (D : List ℕ) (count : ℕ) (z : Sizes) → total ≤ greatest_total → indexed_with sizes T L I ≡ Ok count
    → sizes ≡ Some z → length (units_of_basin (sheet_of z T) basin) ≤ length D
    → levied_with sizes T L I basin total D ≡ Ok count
unfolding levied_with indexed_with levied
units_levied_from i sizes T L I basin total D count z l e q r =
    rw q (units_levied total (indexed (sheet_of z T) L I) (length (units_of_basin (sheet_of z T) basin)) D count l
    (rw q at e) r)

pub levy_meaning_whole : LevyMeaningWhole
unfolding levied intake_levied intake_lent_after_levy intake_index_after_levy intake_dues_after intake_indexed intake_lent
levy_meaning_whole = record {
  directly = directly;
  from_intake = λ i T L I basin total D L' I' D' count c.
      from_sizes i (ended_sizes i.stage) T L I basin total D L' I' D' count refl c.answer c.lent c.index
      c.dues;
  accepts = λ S L I basin total D count.
      units_levied total (indexed S L I) (length (units_of_basin S basin)) D count;
  accepts_from = λ i T L I basin total D count z l e q r.
      units_levied_from i (ended_sizes i.stage) T L I basin total D count z l e q r;
}
