-- What the answers of the plan's check say: accepted exactly if each unit of the index stands in the plan once, after
-- every other unit whose water passes its outlet; and the condition of each refusal.
use Rattle.std.specs.Prelude.{◌≡◌, true, List, ◌≢◌, ◌↔◌, ◌⊎◌, ℕ, suc, ◌≤◌, ◌<◌, length, get_or}
use Rattle.sheet.specs.declared.Label.{Label}
use Rattle.sheet.specs.Record.{digits_of, no_digits}
use Rattle.sheet.specs.Flow.{is_label}
use Rattle.claims.specs.Dictionary.{is_before}
use Rattle.claims.specs.Parting.{PartAt, MeetsRule}
use Rattle.lookup.specs.Lookup.{greatest_depth}
use Rattle.plan.specs.Plan.{plan_answer}
use Rattle.sheet.specs.Answer.{Accepted, Refused}

-- the label at a place of a list, and its digits
abbrev pub label_in : List Label → ℕ → Label
label_in labels i = get_or labels i no_digits

abbrev pub digits_in : List Label → ℕ → List ℕ
digits_in labels i = digits_of (label_in labels i)

-- the label stands at one of the first n places
pub record Stands (labels : List Label) (n : ℕ) (p : Label) : Type 0 where
  pub place : ℕ
  pub within : place < n
  pub is : label_in labels place ≡ p

-- ---- a plan that is accepted

-- water from the unit q passes the outlet of the unit p: the digit rule of W5
abbrev pub ByDigits : Label → Label → Type 0
ByDigits q p = MeetsRule (digits_of p) (digits_of q)

-- "each unit of that basin's index stands in it once, after every other unit whose water passes its outlet", where
-- PassesOutlet q p says of two units that water from q passes the outlet of p
pub record GoodPlan (PassesOutlet : Label → Label → Type 0) (index plan : List Label) : Type 0 where
  -- each place of the plan names a unit of the index
  pub known : (k : ℕ) → k < length plan → Stands index (length index) (label_in plan k)
  -- each unit stands in it, once
  pub stands : (i : ℕ) → i < length index → Stands plan (length plan) (label_in index i)
  pub once : (j k : ℕ) → j < length plan → k < length plan → label_in plan j ≡ label_in plan k → j ≡ k
  -- after every other unit whose water passes its outlet
  pub after : (j k : ℕ) → j < length plan → k < length plan → label_in plan j ≢ label_in plan k
      → PassesOutlet (label_in plan k) (label_in plan j) → k < j

-- ---- the index

pub record AllLabels (index : List Label) : Type 0 where
  pub labels : (i : ℕ) → i < length index → is_label greatest_depth (label_in index i) ≡ true

pub record AllRise (index : List Label) : Type 0 where
  pub rise : (i j : ℕ) → i < j → j < length index → is_before (digits_in index i) (digits_in index j) ≡ true

pub record AllParted (index : List Label) : Type 0 where
  pub parted : (i j : ℕ) → i < j → j < length index → (k : ℕ) × PartAt (digits_in index i) (digits_in index j) k

-- no label of it is refused by 11, nor the index by 16 or 12
pub record GoodIndex (index : List Label) : Type 0 where
  pub labels : AllLabels index
  pub rise : AllRise index
  pub parted : AllParted index

-- ---- places of the plan

-- 20: the label at a place is unknown to the index, or already used
abbrev pub UnknownOrUsed : List Label → List Label → ℕ → Type 0
UnknownOrUsed index plan k = (¬ Stands index (length index) (label_in plan k)) ⊎ Stands plan k (label_in plan k)

-- 21: a unit of the index, upstream of that at a place, has not come yet
pub record Awaits (index plan : List Label) (k : ℕ) : Type 0 where
  pub place : ℕ
  pub within : place < length index
  pub upstream : ByDigits (label_in index place) (label_in plan k)
  pub not_yet : ¬ Stands plan k (label_in index place)

-- no place before this one is refused
pub record FitsUpTo (index plan : List Label) (n : ℕ) : Type 0 where
  pub fits : (k : ℕ) → k < n → (¬ UnknownOrUsed index plan k) × (¬ Awaits index plan k)

-- index and work places are accepted, and so are the places of the plan before this one
pub record Reached (index plan : List Label) (places n : ℕ) : Type 0 where
  pub good : GoodIndex index
  pub room : length index ≤ places
  pub fits : FitsUpTo index plan n

-- ---- each answer, told by what holds

-- the numbers of refusals, and the places that they come with
pub data Numbered (index plan : List Label) (number place : ℕ) : Type 0 where
  of_index : (number ≡ 11) ⊎ ((number ≡ 16) ⊎ ((number ≡ 12) ⊎ (number ≡ 3))) → place ≡ 0
      → Numbered index plan number place
  of_plan : (number ≡ 20) ⊎ (number ≡ 21) → 1 ≤ place → place ≤ length plan → Numbered index plan number place
  of_missing : number ≡ 22 → 1 ≤ place → place ≤ length index → Numbered index plan number place

pub record PlanMeaning (index plan : List Label) (places : ℕ) : Type 0 where
  pub accepted : (plan_answer index plan places ≡ Accepted)
      ↔ (GoodIndex index × (length index ≤ places) × GoodPlan ByDigits index plan)
  -- some label of the index is no label
  pub eleven : (plan_answer index plan places ≡ Refused 11 0) ↔ (¬ AllLabels index)
  -- all are labels, and they do not rise
  pub sixteen : (plan_answer index plan places ≡ Refused 16 0) ↔ (AllLabels index × (¬ AllRise index))
  -- all are labels and they rise, and two of them do not part
  pub twelve : (plan_answer index plan places ≡ Refused 12 0) ↔ (AllLabels index × AllRise index × (¬ AllParted index))
  -- the index is good, and there are fewer work places than labels
  pub three : (plan_answer index plan places ≡ Refused 3 0) ↔ (GoodIndex index × (places < length index))
  -- the first place of the plan that is refused, from 1: the lower number wins
  pub twenty : (k : ℕ) → (plan_answer index plan places ≡ Refused 20 (suc k))
      ↔ (Reached index plan places k × (k < length plan) × UnknownOrUsed index plan k)
  pub twenty_one : (k : ℕ) → (plan_answer index plan places ≡ Refused 21 (suc k))
      ↔ (Reached index plan places k × (k < length plan) × (¬ UnknownOrUsed index plan k) × Awaits index plan k)
  -- no place of the plan is refused, and this is the first unit of the index, from 1, that the plan lacks
  pub twenty_two : (i : ℕ) → (plan_answer index plan places ≡ Refused 22 (suc i))
      ↔ (Reached index plan places (length plan) × (i < length index)
      × (¬ Stands plan (length plan) (label_in index i))
      × ((m : ℕ) → m < i → Stands plan (length plan) (label_in index m)))
  -- there is no other refusal
  pub no_other : (number place : ℕ) → plan_answer index plan places ≡ Refused number place
      → Numbered index plan number place

-- for every index, every plan and every number of work places
abbrev pub PlanMeaningWhole : Type 0
PlanMeaningWhole = (index plan : List Label) (places : ℕ) → PlanMeaning index plan places
