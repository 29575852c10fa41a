-- The answers of the plan's check mean what they say.
use mathlib.Core.Path.{◌≡◌, refl, ◌∙◌}
use mathlib.Core.Bool.{Bool, true, false, cond}
use mathlib.Core.List.{List}
use mathlib.Core.Logic.{inl, inr}
use Prim.Native.Nat.{ℕ, zero, suc, ◌+◌, ◌≤◌, ◌<◌}
use native.Mathlib.Omega.{arith}
use lib.Dec.{eqb, leb, ltb}
use lib.ListN.{length}
use borrow.Author.Tests.{ltb-true, ltb-false, leb-true, leb-false, le-leb, lt-leb}
use Rattle.sheet.specs.declared.Label.{Label}
use Rattle.sheet.specs.Flow.{every, is_label}
use Rattle.lookup.specs.Lookup.{greatest_depth, is_rising}
use Rattle.plan.specs.Plan.{units_of_one, all_part, is_one_of, index_fault, plan_answer}
use Rattle.plan.specs.Meaning.{label_in, Stands, ByDigits, GoodPlan, AllLabels, AllRise, AllParted, GoodIndex}
use Rattle.plan.specs.Meaning.{UnknownOrUsed, Awaits, FitsUpTo, Reached, Numbered, PlanMeaningWhole}
use Rattle.plan.specs.Meaning.{of_index, of_plan, of_missing}
use Rattle.plan.proofs.IndexMeaning.{labels_agree, rising_agree, parted_agree}
use Rattle.plan.proofs.PlanPlaces.{test_fails, test_false, before, before_agrees, fault_at, fault_at_lem}
use Rattle.plan.proofs.PlanPlaces.{FaultAt, fault_unknown, fault_awaits, fault_none}
use Rattle.plan.proofs.PlanOrder.{in_order_lem, order_fits}
use Rattle.plan.proofs.PlanSteps.{answer_from, missing, answer_step, answer_end, missing_step, none_missing}
use Rattle.plan.proofs.PlanSteps.{missing_reach, missing_first, answer_reach, answer_twenty, answer_twenty_one}
use Rattle.sheet.specs.Answer.{Outcome, Accepted, Refused}

-- ---- what holds with each answer

abbrev IsInOrder : List Label → List Label → ℕ → Type 0
IsInOrder index plan places = GoodIndex index × (length index ≤ places) × GoodPlan ByDigits index plan

abbrev IsUnknown : List Label → List Label → ℕ → ℕ → Type 0
IsUnknown index plan places k = Reached index plan places k × (k < length plan) × UnknownOrUsed index plan k

abbrev IsTooEarly : List Label → List Label → ℕ → ℕ → Type 0
IsTooEarly index plan places k =
    Reached index plan places k × (k < length plan) × (¬ UnknownOrUsed index plan k) × Awaits index plan k

abbrev IsMissing : List Label → List Label → ℕ → ℕ → Type 0
IsMissing index plan places i =
    Reached index plan places (length plan) × (i < length index) × (¬ Stands plan (length plan) (label_in index i))
    × ((m : ℕ) → m < i → Stands plan (length plan) (label_in index m))

data Told (index plan : List Label) (places : ℕ) : Outcome → Type 0 where
  told_order : IsInOrder index plan places → Told index plan places Accepted
  told_labels : ¬ AllLabels index → Told index plan places (Refused 11 0)
  told_rise : AllLabels index × (¬ AllRise index) → Told index plan places (Refused 16 0)
  told_parted : AllLabels index × AllRise index × (¬ AllParted index) → Told index plan places (Refused 12 0)
  told_room : GoodIndex index × (places < length index) → Told index plan places (Refused 3 0)
  told_unknown : {k : ℕ} → IsUnknown index plan places k → Told index plan places (Refused 20 (suc k))
  told_early : {k : ℕ} → IsTooEarly index plan places k → Told index plan places (Refused 21 (suc k))
  told_missing : {i : ℕ} → IsMissing index plan places i → Told index plan places (Refused 22 (suc i))

-- each answer tells what holds
module _ {index plan : List Label} {places : ℕ} where
  is_order : Told index plan places Accepted → IsInOrder index plan places
  is_order (told_order t) = t

  is_labels : Told index plan places (Refused 11 0) → ¬ AllLabels index
  is_labels (told_labels t) = t

  is_rise : Told index plan places (Refused 16 0) → AllLabels index × (¬ AllRise index)
  is_rise (told_rise t) = t

  is_parted : Told index plan places (Refused 12 0) → AllLabels index × AllRise index × (¬ AllParted index)
  is_parted (told_parted t) = t

  is_room : Told index plan places (Refused 3 0) → GoodIndex index × (places < length index)
  is_room (told_room t) = t

  is_unknown : (k : ℕ) → Told index plan places (Refused 20 (suc k)) → IsUnknown index plan places k
  is_unknown k (told_unknown t) = t

  is_early : (k : ℕ) → Told index plan places (Refused 21 (suc k)) → IsTooEarly index plan places k
  is_early k (told_early t) = t

  is_missing : (i : ℕ) → Told index plan places (Refused 22 (suc i)) → IsMissing index plan places i
  is_missing i (told_missing t) = t

  numbered : (number place : ℕ) → Told index plan places (Refused number place) → Numbered index plan number place
  numbered number place (told_labels t) = of_index (inl refl) refl
  numbered number place (told_rise t) = of_index (inr (inl refl)) refl
  numbered number place (told_parted t) = of_index (inr (inr (inl refl))) refl
  numbered number place (told_room t) = of_index (inr (inr (inr refl))) refl
  numbered number place (told_unknown t) = of_plan (inl refl) (omega arith) t.1
  numbered number place (told_early t) = of_plan (inr refl) (omega arith) t.1
  numbered number place (told_missing t) = of_missing refl (omega arith) t.1

-- ---- the answer, by what holds of the index and the work places

module _ (index plan : List Label) (places : ℕ) where
  answer_eleven : ¬ AllLabels index → plan_answer index plan places ≡ Refused 11 0
  unfolding plan_answer
  answer_eleven n = rw (test_false _ (labels_agree index) n)

  answer_sixteen : AllLabels index → ¬ AllRise index → plan_answer index plan places ≡ Refused 16 0
  unfolding plan_answer
  answer_sixteen l n = rw ((labels_agree index).1 l, test_false _ (rising_agree index) n)

  answer_twelve : AllLabels index → AllRise index → ¬ AllParted index → plan_answer index plan places ≡ Refused 12 0
  unfolding plan_answer
  answer_twelve l r n = rw ((labels_agree index).1 l, (rising_agree index).1 r, test_false _ (parted_agree index) n)

  good_index : GoodIndex index → index_fault index ≡ 0
  unfolding index_fault
  good_index g =
      rw ((labels_agree index).1 g.labels, (rising_agree index).1 g.rise, (parted_agree index).1 g.parted)

  answer_three : GoodIndex index → places < length index → plan_answer index plan places ≡ Refused 3 0
  unfolding plan_answer
  answer_three g l = rw (good_index g, lt-leb (length index) places l)

  answer_start : GoodIndex index → length index ≤ places → plan_answer index plan places ≡ answer_from index plan 0
  unfolding plan_answer
  answer_start g l = rw (good_index g, le-leb (length index) places l)

-- ---- every answer tells what holds

-- what holds below k and at k holds below the next
one_more : (P : ℕ → Type 0) (k : ℕ) → ((j : ℕ) → j < k → P j) → P k → (j : ℕ) → j < suc k → P j
one_more P k below here j l = go (ltb j k) refl
  where
    go : (b : Bool) → ltb j k ≡ b → P j
    go true e = below j (ltb-true j k e)
    go false e = let same : j ≡ k = omega (arith, ltb-false j k e) in rw same here

module _ (index plan : List Label) (places : ℕ) (good : GoodIndex index) (room : length index ≤ places) where
  reached : (k : ℕ) → FitsUpTo index plan k → Reached index plan places k
  reached k fits = record { good = good; room = room; fits = fits }

  -- after the last place
  tell_missing : FitsUpTo index plan (length plan) → (d i : ℕ) → i + d ≡ length index
      → ((m : ℕ) → m < i → Stands plan (length plan) (label_in index m)) → Told index plan places (missing index plan i)
  tell_missing fits zero i e stands =
      let all : i ≡ length index = omega arith in
      let ordered = in_order_lem index plan fits (λ m l. stands m (omega arith)) in
      rw (all, none_missing index plan) (told_order (good, room, ordered))
  tell_missing fits (suc d) i e stands =
      rw (missing_step index plan i (omega arith)) (go (is_one_of (before plan (length plan)) (label_in index i)) refl
      (tell_missing fits d (suc i) (omega arith)))
    where
      go : (b : Bool) → is_one_of (before plan (length plan)) (label_in index i) ≡ b
          → (((m : ℕ) → m < suc i → Stands plan (length plan) (label_in index m))
          → Told index plan places (missing index plan (suc i)))
          → Told index plan places (cond b (missing index plan (suc i)) (Refused 22 (suc i)))
      go true f rest =
          rest (one_more (λ m. Stands plan (length plan) (label_in index m)) i stands
          ((before_agrees plan (length plan) (label_in index i)).0 f))
      go false f rest =
          told_missing {i = i} (
            reached (length plan) fits,
            omega arith,
            test_fails _ (before_agrees plan (length plan) (label_in index i)) f,
            stands,
          )

  -- from a place of the plan on
  tell_plan : (d k : ℕ) → k + d ≡ length plan → FitsUpTo index plan k → Told index plan places (answer_from index plan k)
  tell_plan zero k e fits =
      let all : k ≡ length plan = omega arith in
      rw (all, answer_end index plan) (tell_missing (rw all at fits) (length index) 0 (omega arith)
      (λ m l. absurd (omega arith)))
  tell_plan (suc d) k e fits =
      rw (answer_step index plan k (omega arith)) (go (fault_at index plan k) (fault_at_lem index plan good k)
      (tell_plan d (suc k) (omega arith)))
    where
      go : (f : ℕ) → FaultAt index plan k f
          → (FitsUpTo index plan (suc k) → Told index plan places (answer_from index plan (suc k)))
          → Told index plan places (cond (eqb f 0) (answer_from index plan (suc k)) (Refused f (suc k)))
      go f (fault_unknown u) rest = told_unknown {k = k} (reached k fits, omega arith, u)
      go f (fault_awaits n a) rest = told_early {k = k} (reached k fits, omega arith, n, a)
      go f (fault_none n a) rest = rest (record {
        fits = one_more
            (λ j. (¬ UnknownOrUsed index plan j) × (¬ Awaits index plan j)) k fits.fits (n, a);
      })

tell : (index plan : List Label) (places : ℕ) → Told index plan places (plan_answer index plan places)
tell index plan places = labels (every (is_label greatest_depth) index) refl
  where
    none : FitsUpTo index plan 0
    none = record { fits = λ k l. absurd (omega arith) }

    of_room : GoodIndex index → (b : Bool) → leb (length index) places ≡ b
        → Told index plan places (plan_answer index plan places)
    of_room g true e =
        let room = leb-true (length index) places e in
        rw (answer_start index plan places g room)
        (tell_plan index plan places g room (length plan) 0 (omega arith) none)
    of_room g false e =
        let few = leb-false (length index) places e in
        rw (answer_three index plan places g few) (told_room (g, few))

    parted : AllLabels index → AllRise index → (b : Bool) → all_part index ≡ b
        → Told index plan places (plan_answer index plan places)
    parted l r true e =
        of_room (record { labels = l; rise = r; parted = (parted_agree index).0 e }) (leb (length index) places) refl
    parted l r false e =
        let n = test_fails _ (parted_agree index) e in
        rw (answer_twelve index plan places l r n) (told_parted (l, r, n))

    rise : AllLabels index → (b : Bool) → is_rising (units_of_one index) ≡ b
        → Told index plan places (plan_answer index plan places)
    rise l true e = parted l ((rising_agree index).0 e) (all_part index) refl
    rise l false e =
        let n = test_fails _ (rising_agree index) e in
        rw (answer_sixteen index plan places l n) (told_rise (l, n))

    labels : (b : Bool) → every (is_label greatest_depth) index ≡ b
        → Told index plan places (plan_answer index plan places)
    labels true e = rise ((labels_agree index).0 e) (is_rising (units_of_one index)) refl
    labels false e =
        let n = test_fails _ (labels_agree index) e in
        rw (answer_eleven index plan places n) (told_labels n)

-- ---- the theorem

pub plan_meaning : PlanMeaningWhole
plan_meaning index plan places = record {
  accepted = (λ e. is_order (told e), accept);
  eleven = (λ e. is_labels (told e), answer_eleven index plan places);
  sixteen = (λ e. is_rise (told e), λ t. answer_sixteen index plan places t.0 t.1);
  twelve = (λ e. is_parted (told e), λ t. answer_twelve index plan places t.0 t.1 t.2);
  three = (λ e. is_room (told e), λ t. answer_three index plan places t.0 t.1);
  twenty = λ k. (λ e. is_unknown k (told e), twenty k);
  twenty_one = λ k. (λ e. is_early k (told e), twenty_one k);
  twenty_two = λ i. (λ e. is_missing i (told e), twenty_two i);
  no_other = λ number place e. numbered number place (told e);
}
  where
    told : {answer : Outcome} → plan_answer index plan places ≡ answer → Told index plan places answer
    told e = rw e at (tell index plan places)

    -- up to a place of the plan
    up_to : (k : ℕ) → k ≤ length plan → Reached index plan places k
        → plan_answer index plan places ≡ answer_from index plan k
    up_to k l r =
        answer_start index plan places r.good r.room ∙ answer_reach index plan r.good k l r.fits

    accept : IsInOrder index plan places → plan_answer index plan places ≡ Accepted
    accept t =
        up_to (length plan) (omega arith) (record { good = t.0; room = t.1; fits = order_fits index plan t.2 })
        ∙ answer_end index plan ∙ missing_reach index plan (length index) (omega arith) t.2.stands
        ∙ none_missing index plan

    twenty : (k : ℕ) → IsUnknown index plan places k → plan_answer index plan places ≡ Refused 20 (suc k)
    twenty k t = up_to k (omega (arith, t.1)) t.0 ∙ answer_twenty index plan t.0.good k t.1 t.2

    twenty_one : (k : ℕ) → IsTooEarly index plan places k → plan_answer index plan places ≡ Refused 21 (suc k)
    twenty_one k t =
        up_to k (omega (arith, t.1)) t.0 ∙ answer_twenty_one index plan t.0.good k t.1 t.2 t.3

    twenty_two : (i : ℕ) → IsMissing index plan places i → plan_answer index plan places ≡ Refused 22 (suc i)
    twenty_two i t =
        up_to (length plan) (omega arith) t.0 ∙ answer_end index plan
        ∙ missing_reach index plan i (omega (arith, t.1)) t.3 ∙ missing_first index plan i t.1 t.2
