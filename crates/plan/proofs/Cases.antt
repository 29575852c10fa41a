-- Worked plans, computed from the definitions.
use mathlib.Core.Path.{◌≡◌, refl}
use mathlib.Core.List.{List, [], ◌∷◌}
use Prim.Native.Nat.{ℕ}
use lib.ListN.{length}
use Rattle.sheet.specs.declared.Label.{Label}
use Rattle.sheet.specs.Record.{label_of_numbers}
use Rattle.plan.specs.Plan.{plan_answer, work_after}
use Rattle.sheet.specs.Answer.{Outcome, Accepted, Refused}

-- labels of up to 18 digits
abbrev short : ℕ → Label
short first = label_of_numbers first 0

abbrev shorts : List ℕ → List Label
shorts [] = []
shorts (m ∷ numbers) = short m ∷ shorts numbers

-- as many work places as labels
abbrev checked : List ℕ → List ℕ → Outcome
checked index plan = plan_answer (shorts index) (shorts plan) (length index)

-- a river with two tributaries, 2 and 4, of which 2 has one of its own, 22
abbrev river : List ℕ
river = 1 ∷ 21 ∷ 22 ∷ 23 ∷ 3 ∷ 4 ∷ 5 ∷ []

-- three good orders
pub plan_accepted : checked river (5 ∷ 4 ∷ 3 ∷ 23 ∷ 22 ∷ 21 ∷ 1 ∷ []) ∷ checked river
    (22 ∷ 4 ∷ 5 ∷ 23 ∷ 21 ∷ 3 ∷ 1 ∷ []) ∷ checked river (4 ∷ 23 ∷ 5 ∷ 22 ∷ 3 ∷ 21 ∷ 1 ∷ []) ∷
    [] ≡ Accepted ∷ Accepted ∷ Accepted ∷ []
unfolding plan_answer
plan_accepted = refl

-- no units and no plan; the label 0 alone
pub plan_of_none : checked [] [] ∷ checked [] (0 ∷ []) ∷ checked (0 ∷ []) (0 ∷ []) ∷ checked (0 ∷ []) [] ∷
    [] ≡ Accepted ∷ Refused 20 1 ∷ Accepted ∷ Refused 22 1 ∷ []
unfolding plan_answer
plan_of_none = refl

-- 20: unknown, no label at all, already used, leading digits of units
pub plan_unknown : checked river (5 ∷ 9 ∷ []) ∷ checked river (5 ∷ 20 ∷ []) ∷ checked river (5 ∷ 4 ∷ 5 ∷ []) ∷ checked
    river (2 ∷ []) ∷ [] ≡ Refused 20 2 ∷ Refused 20 2 ∷ Refused 20 3 ∷ Refused 20 1 ∷ []
unfolding plan_answer
plan_unknown = refl

-- unknown, and upstream units of it have not come: the lower number
pub plan_lower : checked river (11 ∷ []) ∷ [] ≡ Refused 20 1 ∷ []
unfolding plan_answer
plan_lower = refl

-- 21: downstream first; a tributary's stem before its own tributary, or before its own upper end; the first place wins
pub plan_too_early : checked river (1 ∷ 5 ∷ 4 ∷ 3 ∷ 23 ∷ 22 ∷ 21 ∷ []) ∷ checked river (23 ∷ 21 ∷ []) ∷ checked river
    (22 ∷ 21 ∷ []) ∷ checked river (5 ∷ 3 ∷ 9 ∷ []) ∷ [] ≡ Refused 21 1 ∷ Refused 21 2 ∷ Refused 21 2 ∷ Refused 21 2 ∷ []
unfolding plan_answer
plan_too_early = refl

-- 22: the first unit that is missing, by its place in the index
pub plan_missing : checked river [] ∷ checked river (5 ∷ 4 ∷ 3 ∷ 23 ∷ 22 ∷ 21 ∷ []) ∷ checked river
    (22 ∷ 23 ∷ 21 ∷ []) ∷ [] ≡ Refused 22 1 ∷ Refused 22 1 ∷ Refused 22 1 ∷ []
unfolding plan_answer
plan_missing = refl

-- the first that is missing, and not the last
pub plan_missing_first : checked (2 ∷ 4 ∷ 6 ∷ []) (2 ∷ []) ∷ checked (2 ∷ 4 ∷ 6 ∷ []) (4 ∷ 2 ∷ []) ∷
    [] ≡ Refused 22 2 ∷ Refused 22 3 ∷ []
unfolding plan_answer
plan_missing_first = refl

-- the index, before the plan is looked at: 11, 16, 12, in this order, then 3
pub plan_index : checked (2 ∷ 20 ∷ 1 ∷ []) (9 ∷ []) ∷ checked (2 ∷ 1 ∷ 11 ∷ []) (9 ∷ []) ∷ checked (1 ∷ 1 ∷ [])
    (9 ∷ []) ∷ checked (1 ∷ 11 ∷ []) (9 ∷ []) ∷ checked (1 ∷ 12 ∷ 2 ∷ []) (9 ∷ []) ∷
    [] ≡ Refused 11 0 ∷ Refused 16 0 ∷ Refused 16 0 ∷ Refused 12 0 ∷ Refused 12 0 ∷ []
unfolding plan_answer
plan_index = refl

-- the label 0 before others, and after one
pub plan_zero : checked (0 ∷ 1 ∷ []) (9 ∷ []) ∷ checked (1 ∷ 0 ∷ []) (9 ∷ []) ∷ [] ≡ Refused 12 0 ∷ Refused 16 0 ∷ []
unfolding plan_answer
plan_zero = refl

-- labels of more than 18 digits: the last odd digits start in the first number
abbrev long : List Label
long = label_of_numbers 211111111111111111 1 ∷ label_of_numbers 211111111111111111 2 ∷ label_of_numbers 211111111111111111 3 ∷
    label_of_numbers 211111111111111113 0 ∷ label_of_numbers 3 0 ∷ []

abbrev long_checked : List Label → Outcome
long_checked plan = plan_answer long plan 5

pub plan_long : long_checked (label_of_numbers 211111111111111113 0 ∷ label_of_numbers 211111111111111111 2 ∷
    label_of_numbers 211111111111111111 3 ∷ label_of_numbers 211111111111111111 1 ∷ label_of_numbers 3 0 ∷ []) ∷ long_checked
    (label_of_numbers 211111111111111111 2 ∷ label_of_numbers 211111111111111111 3 ∷ label_of_numbers 211111111111111111 1 ∷ [])
    ∷ long_checked (label_of_numbers 211111111111111111 4 ∷ []) ∷ plan_answer (label_of_numbers 21 1 ∷ []) [] 1 ∷
    [] ≡ Accepted ∷ Refused 21 2 ∷ Refused 20 1 ∷ Refused 11 0 ∷ []
unfolding plan_answer
plan_long = refl

-- 3 after 12 and before the plan
pub plan_places : plan_answer (shorts (1 ∷ 11 ∷ [])) (shorts (9 ∷ [])) 1 ∷ plan_answer (shorts (1 ∷ 2 ∷ []))
    (shorts (9 ∷ [])) 1 ∷ plan_answer (shorts (1 ∷ 2 ∷ [])) (shorts (2 ∷ 1 ∷ [])) 3 ∷
    [] ≡ Refused 12 0 ∷ Refused 3 0 ∷ Accepted ∷ []
unfolding plan_answer
plan_places = refl

-- work places: cleared once 3 is passed, and only those of the index's labels
pub work_cleared : work_after (shorts (1 ∷ 2 ∷ [])) (7 ∷ 8 ∷ 9 ∷ []) ∷ work_after (shorts (1 ∷ 2 ∷ [])) (7 ∷ []) ∷
    work_after (shorts (2 ∷ 1 ∷ [])) (7 ∷ 8 ∷ 9 ∷ []) ∷ [] ≡ (0 ∷ 0 ∷ 9 ∷ []) ∷ (7 ∷ []) ∷ (7 ∷ 8 ∷ 9 ∷ []) ∷ []
unfolding work_after
work_cleared = refl
