-- Document 02's check of a survey plan. A plan is a list of unit labels of one basin, whose index is at hand: refusals
-- 11, 16, 12 and 3 of the index and the work places, 20, 21 and 22 of the plan, and what the work places hold
-- afterwards.
use Rattle.std.specs.Prelude.{Bool, true, false, cond, List, [], ◌∷◌, ℕ, suc, eqb, leb, length, replicate, is_some, Err}
use Rattle.sheet.specs.declared.OutletFlow.{OutletFlow}
use Rattle.sheet.specs.declared.OutletFlow.TheVariants.{Same, Yes, No, Refused as OutletRefused}
use Rattle.sheet.specs.declared.Label.{Label}
use Rattle.sheet.specs.declared.UnitName.{UnitName}
use Rattle.sheet.specs.Record.{digits_of, same_label, unit_name, units_in}
use Rattle.sheet.specs.Flow.{every, part_at, is_label, outlet_flow}
use Rattle.sheet.specs.Refusal.{both, written}
use Rattle.lookup.specs.Lookup.{greatest_depth, is_rising}
use Rattle.sheet.specs.Answer.{Outcome, Accepted, Refused}

-- ---- the index

-- a label as a unit of the one basin: its number is not told, and no question about units of one basin depends on it
abbrev pub of_one_basin : Label → UnitName
of_one_basin label = unit_name 1 label

-- the labels of the one basin's index as units
unfoldable pub units_of_one : List Label → List UnitName
unfolding units_in
units_of_one labels = units_in (replicate (length labels) 1) labels

-- two labels part: neither begins the other
unfoldable pub parts : Label → Label → Bool
unfolding part_at digits_of
parts p q = is_some (part_at (digits_of p) (digits_of q))

-- every two of the labels part, else 12
unfoldable pub all_part : List Label → Bool
unfolding every parts
all_part [] = true
all_part (p ∷ labels) = let rest = all_part labels in cond (every (parts p) labels) rest false

-- the refusal of the index by 11, 16, 12, in this order, or 0
unfoldable pub index_fault : List Label → ℕ
unfolding every is_label is_rising units_of_one all_part
index_fault index =
    let ordered : ℕ = cond (all_part index) 0 12 in
    let judged : ℕ = cond (is_rising (units_of_one index)) ordered 16 in
    cond (every (is_label greatest_depth) index) judged 11

-- ---- the plan

-- the label is one of these
unfoldable pub is_one_of : List Label → Label → Bool
unfolding same_label
is_one_of [] p = false
is_one_of (q ∷ labels) p = let rest = is_one_of labels p in cond (same_label q p) true rest

abbrev is_yes : OutletFlow → Bool
is_yes Yes = true
is_yes Same = false
is_yes No = false
is_yes (OutletRefused number) = false

-- q is upstream of p: it is another unit, and by the outlet question its water passes the outlet of p
unfoldable pub is_upstream : Label → Label → Bool
unfolding outlet_flow
is_upstream q p = is_yes (outlet_flow greatest_depth (of_one_basin p) (of_one_basin q))

-- q is upstream of p and is none of those that came
abbrev pub is_awaited : List Label → Label → Label → Bool
is_awaited came p q = cond (is_one_of came q) false (is_upstream q p)

-- some unit of the index is upstream of p and is none of those that came
unfoldable pub awaits_one : List Label → List Label → Label → Bool
unfolding is_one_of is_upstream
awaits_one [] came p = false
awaits_one (q ∷ index) came p = let rest = awaits_one index came p in cond (is_awaited came p q) true rest

-- the refusal at a place of the plan, or 0; `came` are the labels before it: 20, "a label unknown to the index or
-- already used"; 21, "an upstream unit has not come yet"
unfoldable pub place_fault : List Label → List Label → Label → ℕ
unfolding is_one_of awaits_one
place_fault index came p =
    let waiting : ℕ = cond (awaits_one index came p) 21 0 in
    let known : ℕ = cond (is_one_of came p) 20 waiting in
    cond (is_one_of index p) known 20

-- after the last place: 22 with the place, from 1, of the first unit that did not come, else accepted. The last
-- argument is the index from a place on, counted from 0
unfoldable pub missing_from : ℕ → List Label → List Label → Outcome
unfolding is_one_of
missing_from place came [] = Accepted
missing_from place came (q ∷ index) =
    let rest = missing_from (suc place) came index in cond (is_one_of came q) rest (Refused 22 (suc place))

-- the answer from a place of the plan on, counted from 0; `came` are the labels before it, the last one first
unfoldable pub plan_from : List Label → List Label → ℕ → List Label → Outcome
unfolding missing_from place_fault
plan_from index came place [] = missing_from 0 came index
plan_from index came place (p ∷ plan) =
    let fault : ℕ = place_fault index came p in
    let rest = plan_from index (p ∷ came) (suc place) plan in cond (eqb fault 0) rest (Refused fault (suc place))

-- ---- the call

-- 11, 16 and 12 of the index, 3 for fewer work places than labels of the index, each with place 0; then the plan
unfoldable pub plan_answer : List Label → List Label → ℕ → Outcome
unfolding index_fault plan_from
plan_answer index plan places =
    let judged : Outcome = cond (leb (length index) places) (plan_from index [] 0 plan) (Refused 3 0) in
    cond (eqb (index_fault index) 0) judged (Refused (index_fault index) 0)

-- the work places, one for each label of the index, are 0 once check 3 is passed; the others keep their values
unfoldable pub work_after : List Label → List ℕ → List ℕ
unfolding index_fault
work_after index work =
    let cleared : List ℕ = written (replicate (length index) 0) work in
    cond (both (eqb (index_fault index) 0) (leb (length index) (length work))) cleared work

-- the refusal's number, or 0, and its place, from 1 in the plan or in the index, or 0
pub record PlanValues : Type 0 where
  pub number : ℕ
  pub place : ℕ

abbrev pub plan_values : Outcome → PlanValues
plan_values Accepted = record { number = 0; place = 0 }
plan_values (Err refusal) = record { number = refusal.number; place = refusal.place }
