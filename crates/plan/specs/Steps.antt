-- What the steps of the plan's check ask and promise: places in the index, and work places that tell which units came.
use Rattle.std.specs.Prelude.{◌≡◌, Bool, true, cond, List, [], ◌∷◌, ℕ, suc, ◌+◌, ◌-◌, ◌≤◌, ◌<◌, eqb, ltb, leb, length, get_or, take, drop, set, None, Some}
use Rattle.sheet.specs.declared.Label.{Label}
use Rattle.sheet.specs.declared.UnitName.{UnitName}
use Rattle.sheet.specs.Sheet.{first}
use Rattle.sheet.specs.Record.{digits_of, record_of, no_digits, same_label}
use Rattle.sheet.specs.Flow.{every, is_odd, is_label}
use Rattle.lookup.specs.Lookup.{greatest_depth, is_rising, start_of, length_of}
use Rattle.lookup.specs.Exactly.{entry_at}
use Rattle.lookup.specs.Padded.{is_below, count_below}
use Rattle.plan.specs.Plan.{of_one_basin, units_of_one, all_part}
use Rattle.sheet.specs.Answer.{Found, Outcome, Accepted, Refused}

-- ---- the index

-- labels that rise
pub record Rising (index : List Label) : Type 0 where
  pub labels : every (is_label greatest_depth) index ≡ true
  pub rises : is_rising (units_of_one index) ≡ true

-- and of which every two part: an index that 11, 16 and 12 do not refuse
pub record Judged (index : List Label) : Type 0 where
  pub rising : Rising index
  pub part : all_part index ≡ true

-- ---- places in the index

-- the units below a limit stand first
pub record StandFirst (limit : ℕ) (units : List UnitName) : Type 0 where
  pub below : (i : ℕ) → i < length units → is_below 1 limit (entry_at units i) ≡ ltb i (count_below 1 limit units)

-- the place of a label in the index
unfoldable pub place_of : List Label → Label → Found
unfolding first same_label
place_of index p = first (λ i. same_label (get_or index i no_digits) p) (length index)

-- the digits up to where the last odd digits start
unfoldable pub before_last_odd : List ℕ → List ℕ
unfolding every
before_last_odd [] = []
before_last_odd (a ∷ x) = let rest = before_last_odd x in cond (every is_odd (a ∷ x)) [] (a ∷ rest)

-- the label of these
unfoldable pub label_before_last_odd : Label → Label
unfolding record_of before_last_odd digits_of
label_before_last_odd p = record_of (before_last_odd (digits_of p))

-- the first place past the labels that begin with p's digits up to where its last odd digits start
unfoldable pub end_of : List Label → Label → ℕ
unfolding label_before_last_odd start_of length_of units_of_one
end_of index p =
    let leading : UnitName = of_one_basin (label_before_last_odd p) in
    start_of leading (units_of_one index) + length_of leading (units_of_one index)

-- ---- work places, one for each label of the index: 0 where its unit has not come; else so many units from it on have

abbrev pub has_come : ℕ → Bool
has_come m = ltb 0 m

pub record Spans (work : List ℕ) : Type 0 where
  pub within : (j : ℕ) → j < length work → j + get_or work j 0 ≤ length work
  pub come : (j t : ℕ) → j < length work → j ≤ t → t < j + get_or work j 0 → has_come (get_or work t 0) ≡ true

-- the units from a place up to an end have all come
unfoldable pub all_come : ℕ → ℕ → List ℕ → Bool
unfolding every
all_come from end work = every has_come (take (end - from) (drop from work))

-- the most that a work place holds
abbrev pub greatest_span : ℕ
greatest_span = 4294967295

-- how many units from a place on have come, where all up to an end have; no more than a work place holds
unfoldable pub span_of : ℕ → ℕ → ℕ
span_of i end = cond (leb (end - i) greatest_span) (end - i) greatest_span

-- the refusal at a place of the plan, or 0, and the work places then
pub record PlaceJudged : Type 0 where
  pub number : ℕ
  pub work : List ℕ

-- for a label at this place of the index, or at none
unfoldable pub judged_at : Found → List Label → Label → List ℕ → PlaceJudged
unfolding end_of all_come span_of
judged_at None index p work = record { number = 20; work = work }
judged_at (Some i) index p work =
    let end : ℕ = end_of index p in
    let taken : PlaceJudged = record { number = 0; work = set work i (span_of i end) } in
    let waiting : PlaceJudged = record { number = 21; work = work } in
    let used : PlaceJudged = record { number = 20; work = work } in
    cond (has_come (get_or work i 0)) used (cond (all_come (suc i) end work) taken waiting)

-- for any label
unfoldable pub place_judged : List Label → Label → List ℕ → PlaceJudged
unfolding judged_at place_of
place_judged index p work = judged_at (place_of index p) index p work

-- after the last place, the first unit from a place on that has not come
unfoldable pub missing_in : ℕ → List ℕ → Outcome
missing_in place [] = Accepted
missing_in place (m ∷ work) = let rest = missing_in (suc place) work in cond (has_come m) rest (Refused 22 (suc place))

-- the answer, and the work places when it is known
pub record PlanJudged : Type 0 where
  pub answer : Outcome
  pub work : List ℕ

-- the places of the plan from one on
unfoldable pub plan_judged : List Label → ℕ → List Label → List ℕ → PlanJudged
unfolding place_judged missing_in
plan_judged index place [] work = record { answer = missing_in 0 work; work = work }
plan_judged index place (p ∷ plan) work =
    let step : PlaceJudged = place_judged index p work in
    let refused : PlanJudged = record { answer = Refused step.number (suc place); work = step.work } in
    let rest : PlanJudged = plan_judged index (suc place) plan step.work in
    cond (eqb step.number 0) rest refused
