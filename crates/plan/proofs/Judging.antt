-- The plan judged by work places, which tell the units of the index that came: the answer is that of the definitions.
use mathlib.Core.Path.{◌≡◌, refl, sym, ap, ◌∙◌}
use mathlib.Core.Bool.{Bool, true, false, cond, true≢false}
use mathlib.Core.List.{List, [], ◌∷◌}
use mathlib.Core.Logic.{◌≢◌}
use Prim.Native.Nat.{ℕ, suc, ◌+◌, ◌≤◌, ◌<◌}
use native.Mathlib.Decide.{dec_lt, ℕ_discrete}
use native.Mathlib.Numerals.{add-one}
use native.Mathlib.Omega.{arith}
use borrow.Author.Tests.{lt-ltb, le-ltb, eq-eqb, ne_eqb, eqb-true}
use lib.Dec.{eqb, ltb}
use lib.ListN.{length, get_or, drop, set, replicate, length-set, length-replicate, get_or-replicate, drop_of_length-le}
use lib.Seq.{drop-cons}
use Rattle.sheet.specs.declared.Label.{Label}
use Rattle.sheet.specs.Record.{no_digits}
use Rattle.sheet.specs.Refusal.{both}
use Rattle.sheet.proofs.Records.{same_is, same_not}
use Rattle.claims.proofs.Counts.{not-true}
use Rattle.plan.specs.Plan.{is_one_of, is_awaited, awaits_one, place_fault, missing_from, plan_from}
use Rattle.plan.specs.Steps.{Judged, Spans, PlaceJudged, place_of, end_of, has_come, all_come, span_of}
use Rattle.plan.specs.Steps.{judged_at, place_judged, missing_in, plan_judged}
use Rattle.plan.proofs.Places.{place_is, place_none, place_some}
use Rattle.plan.proofs.PlanPlaces.{awaits_at, at_awaits}
use Rattle.plan.proofs.UnitsOfOne.{places_differ}
use Rattle.plan.proofs.Upstream.{end_after_lem, upstream_range}
use Rattle.plan.proofs.Come.{come_at, come_missing, come_other, has_come_here, spans_none, spans_set}
use Rattle.sheet.specs.Answer.{Found, Refused, outcome_of_fault}
use Rattle.std.specs.Prelude.{None, Some}

-- ---- what is judged, by its parts

pub outcome_then : {a b : PlaceJudged} → a ≡ b → outcome_of_fault b.number ≡ outcome_of_fault a.number
outcome_then e = ap (λ (r : PlaceJudged). outcome_of_fault r.number) (sym e)

pub work_then : {a b : PlaceJudged} → a ≡ b → b.work ≡ a.work
work_then e = ap (λ (r : PlaceJudged). r.work) (sym e)

-- ---- a unit of the index, by its place

module _ (index : List Label) (p : Label) (i : ℕ) (work : List ℕ) where
  abbrev come : PlaceJudged
  come = record { number = 0; work = set work i (span_of i (end_of index p)) }

  abbrev refused : ℕ → PlaceJudged
  refused number = record { number = number; work = work }

  pub judged_used : has_come (get_or work i 0) ≡ true → judged_at (Some i) index p work ≡ refused 20
  unfolding judged_at
  judged_used e = rw e

  pub judged_waiting : has_come (get_or work i 0) ≡ false → all_come (suc i) (end_of index p) work ≡ false
      → judged_at (Some i) index p work ≡ refused 21
  unfolding judged_at
  judged_waiting e f = rw (e, f)

  pub judged_come : has_come (get_or work i 0) ≡ false → all_come (suc i) (end_of index p) work ≡ true
      → judged_at (Some i) index p work ≡ come
  unfolding judged_at
  judged_come e f = rw (e, f)

pub judged_unknown : (index : List Label) (p : Label) (work : List ℕ)
    → judged_at None index p work ≡ record { number = 20; work = work }
unfolding judged_at
judged_unknown index p work = refl

pub judged_by : (index : List Label) (p : Label) (work : List ℕ) (r : Found) → place_of index p ≡ r
    → place_judged index p work ≡ judged_at r index p work
unfolding place_judged
judged_by index p work r e = ap (λ (r : Found). judged_at r index p work) e

-- ---- work places

-- one for each label of the index, whose spans hold
pub record WorkFor (index : List Label) (work : List ℕ) : Type 0 where
  pub size : length work ≡ length index
  pub spans : Spans work

-- and they tell which units of the index came
pub record Tells (index came : List Label) (work : List ℕ) : Type 0 where
  pub work_for : WorkFor index work
  pub tells : (i : ℕ) → i < length index → has_come (get_or work i 0) ≡ is_one_of came (get_or index i no_digits)

-- all are 0 before the first place of the plan
pub none_told : (index : List Label) → Tells index [] (replicate (length index) 0)
unfolding is_one_of
none_told index = record {
  work_for = record { size = length-replicate {A = ℕ} (length index) 0; spans = spans_none (length index) };
  tells = λ i h. rw (get_or-replicate {A = ℕ} (length index) i 0 0 h);
}

pub cleared_work_for : (index : List Label) (work : List ℕ) → work ≡ replicate (length index) 0 → WorkFor index work
cleared_work_for index work e = rw e (none_told index).work_for

-- ---- what is asked of the unit that a place of the plan names

module _ (index came : List Label) (p : Label) where
  place_fault_unknown : is_one_of index p ≡ false → place_fault index came p ≡ 20
  unfolding place_fault
  place_fault_unknown e = rw e

  place_fault_used : is_one_of index p ≡ true → is_one_of came p ≡ true → place_fault index came p ≡ 20
  unfolding place_fault
  place_fault_used e f = rw (e, f)

  place_fault_waiting : is_one_of index p ≡ true → is_one_of came p ≡ false → awaits_one index came p ≡ true
      → place_fault index came p ≡ 21
  unfolding place_fault
  place_fault_waiting e f g = rw (e, f, g)

  place_fault_none : is_one_of index p ≡ true → is_one_of came p ≡ false → awaits_one index came p ≡ false
      → place_fault index came p ≡ 0
  unfolding place_fault
  place_fault_none e f g = rw (e, f, g)

-- ---- a place of the plan

module _ (index : List Label) (good : Judged index) (p : Label) where
  -- the work places stay those of the index
  module _ (work : List ℕ) (w : WorkFor index work) where
    -- the units up to the end are units of the index
    end_most : (i : ℕ) → place_of index p ≡ Some i → end_of index p ≤ length work
    end_most i e = omega (arith, (end_after_lem index p i good e).1, w.size)

    come_work_for : (i : ℕ) → place_of index p ≡ Some i → all_come (suc i) (end_of index p) work ≡ true
        → WorkFor index (set work i (span_of i (end_of index p)))
    come_work_for i e f = record {
      size = length-set work i (span_of i (end_of index p)) ∙ w.size;
      spans = spans_set work i (end_of index p) (end_after_lem index p i good e).0 (end_most i e) w.spans f;
    }

    at_work_for : (i : ℕ) → place_of index p ≡ Some i → (b d : Bool) → has_come (get_or work i 0) ≡ b
        → all_come (suc i) (end_of index p) work ≡ d → WorkFor index (judged_at (Some i) index p work).work
    at_work_for i e true d f g = rw (judged_used index p i work f) w
    at_work_for i e false true f g = rw (judged_come index p i work f g) (come_work_for i e g)
    at_work_for i e false false f g = rw (judged_waiting index p i work f g) w

    pub place_work_for : WorkFor index (place_judged index p work).work
    unfolding place_judged
    place_work_for = go (place_of index p) refl
      where
        go : (r : Found) → place_of index p ≡ r → WorkFor index (judged_at r index p work).work
        go None e = w
        go (Some i) e = at_work_for i e (has_come (get_or work i 0)) (all_come (suc i) (end_of index p) work) refl refl

  -- and they go on telling which units came
  module _ (came : List Label) (work : List ℕ) (told : Tells index came work) (i : ℕ)
      (place : place_of index p ≡ Some i) where
    abbrev end : ℕ
    end = end_of index p

    most : end ≤ length work
    most = end_most work told.work_for i place

    inside : i < length index
    inside = (place_is index p i place).0

    -- the unit itself
    used : has_come (get_or work i 0) ≡ is_one_of came p
    used = told.tells i inside ∙ ap (is_one_of came) (place_is index p i place).1

    -- a unit of the index is awaited if it stands up to the end and has not come
    awaited : (j : ℕ) → j < length index
        → is_awaited came p (get_or index j no_digits) ≡ cond (has_come (get_or work j 0)) false (both (ltb i j) (ltb j end))
    awaited j h = rw (← told.tells j h, upstream_range index p i j good place h)

    none_awaited : all_come (suc i) end work ≡ true → awaits_one index came p ≡ false
    none_awaited e =
        not-true (awaits_one index came p) (λ f. let a = awaits_at index came p f in
        true≢false (sym a.awaited ∙ awaited a.place a.within ∙ go a.place (has_come (get_or work a.place 0))
        refl))
      where
        go : (j : ℕ) (b : Bool) → has_come (get_or work j 0) ≡ b → cond b false (both (ltb i j) (ltb j end)) ≡ false
        go j true f = refl
        go j false f =
            elim (dec_lt i j) [
              | yes h ↦ elim (dec_lt j end) [
                | yes l ↦ absurd (true≢false (sym (come_at end work most (suc i) j e h l) ∙ f))
                | no l ↦ rw (lt-ltb i j h, le-ltb j end (omega arith))
              ]
              | no h ↦ rw (le-ltb i j (omega arith))
            ]

    one_awaited : all_come (suc i) end work ≡ false → awaits_one index came p ≡ true
    one_awaited e =
        let n = come_missing end work most (suc i) e in
        let j = n.place in
        let h : j < length index = omega (arith, n.most, (end_after_lem index p i good place).1) in
        at_awaits index came p j h
        (awaited j h ∙ rw (n.not_come, lt-ltb i j n.least, lt-ltb j end n.most))

    -- once it has come
    come_told : all_come (suc i) end work ≡ true → Tells index (p ∷ came) (set work i (span_of i end))
    unfolding is_one_of
    come_told e = record { work_for = come_work_for work told.work_for i place e; tells = tells }
      where
        tells : (j : ℕ) → j < length index
            → has_come (get_or (set work i (span_of i end)) j 0) ≡ is_one_of (p ∷ came) (get_or index j no_digits)
        tells j h =
            let q = get_or index j no_digits in
            let here : get_or index i no_digits ≡ p = (place_is index p i place).1 in
            elim (ℕ_discrete j i) [
              | yes e ↦
                  let same : p ≡ q = sym (ap (λ (k : ℕ). get_or index k no_digits) e ∙ here) in
                  rw (same_is p q same, e) (has_come_here work i end (end_after_lem index p i good place).0 most)
              | no n ↦
                  let differ = places_differ index good.rising.rises j i h inside n in
                  let other : p ≢ q = λ same. differ (sym (here ∙ same)) in
                  rw (same_not p q other, come_other work i end (end_after_lem index p i good place).0 most j n)
                  (told.tells j h)
            ]

  -- the place is refused as by the definitions, and if it is not, its unit is told with those that came
  record PlaceTold (came : List Label) (work : List ℕ) : Type 0 where
    fault : (place_judged index p work).number ≡ place_fault index came p
    next : place_fault index came p ≡ 0 → Tells index (p ∷ came) (place_judged index p work).work

  place_told : (came : List Label) (work : List ℕ) → Tells index came work → PlaceTold came work
  place_told came work told = go (place_of index p) refl
    where
      refused : (number : ℕ) → place_judged index p work ≡ record { number = number; work = work }
          → place_fault index came p ≡ number → (number ≡ 0 → ⊥) → PlaceTold came work
      refused number e f some = record {
        fault = ap (λ (j : PlaceJudged). j.number) e ∙ sym f;
        next = λ none. absurd (some (sym f ∙ none));
      }

      at : (i : ℕ) → place_of index p ≡ Some i → place_judged index p work ≡ judged_at (Some i) index p work → (b d : Bool)
          → has_come (get_or work i 0) ≡ b → all_come (suc i) (end_of index p) work ≡ d → PlaceTold came work
      at i e j true d f g =
          refused 20 (j ∙ judged_used index p i work f)
          (place_fault_used index came p (place_some index p i e) (sym (used came work told i e) ∙ f))
          (λ z. omega arith)
      at i e j false false f g =
          refused 21 (j ∙ judged_waiting index p i work f g)
          (place_fault_waiting index came p (place_some index p i e) (sym (used came work told i e) ∙ f)
          (one_awaited came work told i e g)) (λ z. omega arith)
      at i e j false true f g =
          let come = j ∙ judged_come index p i work f g in
          record {
            fault =
                ap (λ (j : PlaceJudged). j.number) come
                ∙ sym (place_fault_none index came p (place_some index p i e) (sym (used came work told i e) ∙ f)
                (none_awaited came work told i e g));
            next = λ none. rw come (come_told came work told i e g);
          }

      go : (r : Found) → place_of index p ≡ r → PlaceTold came work
      go None e =
          refused 20 (judged_by index p work None e ∙ judged_unknown index p work)
          (place_fault_unknown index came p (place_none index p e)) (λ z. omega arith)
      go (Some i) e =
          at i e (judged_by index p work (Some i) e) (has_come (get_or work i 0)) (all_come (suc i) (end_of index p) work)
          refl refl

-- ---- the whole plan

missing_agrees : (place : ℕ) (work : List ℕ) (came index : List Label) → length work ≡ length index
    → ((i : ℕ) → i < length index → has_come (get_or work i 0) ≡ is_one_of came (get_or index i no_digits))
    → missing_in place work ≡ missing_from place came index
unfolding missing_in missing_from
missing_agrees place [] came [] size tells = refl
missing_agrees place [] came (q ∷ index) size tells = absurd (omega arith)
missing_agrees place (m ∷ work) came [] size tells = absurd (omega arith)
missing_agrees place (m ∷ work) came (q ∷ index) size tells =
    rw (
      tells 0 (omega arith),
      missing_agrees (suc place) work came index (omega arith) (λ i h. tells (suc i) (omega arith)),
    )

module _ (index : List Label) (good : Judged index) where
  answer_agrees : (plan came : List Label) (place : ℕ) (work : List ℕ) → Tells index came work
      → (plan_judged index place plan work).answer ≡ plan_from index came place plan
  unfolding plan_judged plan_from
  answer_agrees [] came place work told =
      missing_agrees 0 work came index told.work_for.size told.tells
  answer_agrees (p ∷ plan) came place work told =
      let t = place_told index good p came work told in
      rw t.fault
      (go (eqb (place_fault index came p) 0) refl (λ e. answer_agrees plan (p ∷ came) (suc place) step.work
      (t.next (eqb-true (place_fault index came p) 0 e))))
    where
      step : PlaceJudged
      step = place_judged index p work

      go : (b : Bool) → eqb (place_fault index came p) 0 ≡ b
          → (eqb (place_fault index came p) 0 ≡ true → (plan_judged index (suc place) plan step.work).answer
          ≡ plan_from index (p ∷ came) (suc place) plan)
          → (cond b (plan_judged index (suc place) plan step.work)
          (record { answer = Refused (place_fault index came p) (suc place); work = step.work })).answer
          ≡ cond b (plan_from index (p ∷ came) (suc place) plan) (Refused (place_fault index came p) (suc place))
      go true e rest = rest e
      go false e rest = refl

  -- from the first place, where no unit has come
  pub judged_answer : (plan : List Label) (work : List ℕ) → work ≡ replicate (length index) 0
      → (plan_judged index 0 plan work).answer ≡ plan_from index [] 0 plan
  judged_answer plan work e = rw e (answer_agrees plan [] 0 (replicate (length index) 0) (none_told index))

-- ---- from place to place

module _ (index plan : List Label) (k : ℕ) (work : List ℕ) where
  pub plan_end : length plan ≤ k
      → plan_judged index k (drop k plan) work ≡ record { answer = missing_in 0 work; work = work }
  unfolding plan_judged
  plan_end h = rw drop_of_length-le

  module _ (h : k < length plan) where
    abbrev pub step : PlaceJudged
    step = place_judged index (get_or plan k no_digits) work

    pub plan_refused : (step.number ≡ 0 → ⊥)
        → plan_judged index k (drop k plan) work ≡ record { answer = Refused step.number (k + 1); work = step.work }
    unfolding plan_judged
    plan_refused some = rw (drop-cons plan k no_digits h, ne_eqb step.number 0 some, add-one k)

    pub plan_turn : step.number ≡ 0
        → plan_judged index (k + 1) (drop (k + 1) plan) step.work ≡ plan_judged index k (drop k plan) work
    unfolding plan_judged
    plan_turn none = rw (add-one k, drop-cons plan k no_digits h, eq-eqb step.number 0 none)
