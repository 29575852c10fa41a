-- Document 01's flow question, and document 02's question about flow to a unit's outlet, here called the outlet
-- question: where two labels part, the digit rule, refusals 2, 19, 11 and 12, and the answers.
use Rattle.std.specs.Prelude.{Bool, true, false, cond, List, [], ◌∷◌, ℕ, suc, ◌+◌, ◌%◌, eqb, ltb, leb, length, get_or, drop, None, Some}
use Rattle.sheet.specs.declared.Flow.{Flow}
use Rattle.sheet.specs.declared.Flow.TheVariants.{Same, Yes, No, Undecided, Refused}
use Rattle.sheet.specs.declared.OutletFlow.{OutletFlow}
use Rattle.sheet.specs.declared.OutletFlow.TheVariants.{Same as OutletSame, Yes as OutletYes, No as OutletNo}
use Rattle.sheet.specs.declared.OutletFlow.TheVariants.{Refused as OutletRefused}
use Rattle.sheet.specs.declared.Label.{Label}
use Rattle.sheet.specs.declared.UnitName.{UnitName}
use Rattle.sheet.specs.Record.{digits_of, is_record, same_label}
use Rattle.sheet.specs.Refusal.{both, within, depth_fits, least_fits}
use Rattle.sheet.specs.Answer.{Found}

-- the first place from i on where both have a digit and the digits differ
unfoldable pub part_from : ℕ → List ℕ → List ℕ → Found
part_from i [] y = None
part_from i (a ∷ x) [] = None
part_from i (a ∷ x) (b ∷ y) = let r = part_from (suc i) x y in cond (eqb a b) r (Some i)

-- where two labels "part"; of labels that do not, one begins the other
unfoldable pub part_at : List ℕ → List ℕ → Found
unfolding part_from
part_at x y = part_from 0 x y

unfoldable pub every : {A : Type 0} → (A → Bool) → List A → Bool
every test [] = true
every test (a ∷ x) = let r = every test x in cond (test a) r false

abbrev pub is_odd : ℕ → Bool
is_odd a = eqb (a % 2) 1

-- the rule of the third demand, for labels x of p and y of q that part at i: p's digit is smaller, and p's digits from
-- there on are all odd
unfoldable pub rule_at : ℕ → List ℕ → List ℕ → Bool
unfolding every
rule_at i x y = cond (ltb (get_or x i 0) (get_or y i 0)) (every is_odd (drop i x)) false

-- at most depth digits, each from 1 to 9
unfoldable pub are_digits : ℕ → List ℕ → Bool
unfolding every within
are_digits depth x = both (leb (length x) depth) (every (within 9) x)

-- a label at a depth, else 11: it is a record of digits, no digit is 0, and there are no more than depth
unfoldable pub is_label : ℕ → Label → Bool
unfolding is_record are_digits digits_of
is_label depth label = both (is_record label) (are_digits depth (digits_of label))

-- the answer for unequal labels: 12 where they do not part, else by the rule
unfoldable pub answer_at : List ℕ → List ℕ → Found → OutletFlow
unfolding rule_at
answer_at x y None = OutletRefused 12
answer_at x y (Some i) = cond (rule_at i x y) OutletYes OutletNo

-- the answer for unequal labels as records
unfoldable pub answer_unequal : Label → Label → OutletFlow
unfolding answer_at part_at digits_of
answer_unequal p q = answer_at (digits_of p) (digits_of q) (part_at (digits_of p) (digits_of q))

-- the outlet question, does water from the unit q pass the outlet of the unit p? 2, 11, No for different basins, Same,
-- in this order, then the answer for unequal labels
unfoldable pub outlet_flow : ℕ → UnitName → UnitName → OutletFlow
unfolding depth_fits is_label answer_unequal same_label
outlet_flow depth p q =
    let unequal : OutletFlow = answer_unequal p.label q.label in
    let within : OutletFlow = cond (same_label p.label q.label) OutletSame unequal in
    let known : OutletFlow = cond (eqb p.basin q.basin) within OutletNo in
    let judged : OutletFlow =
    cond (both (is_label depth p.label) (is_label depth q.label)) known (OutletRefused 11) in
    cond (depth_fits depth) judged (OutletRefused 2)

-- the unit of a label with so many digits is known to be stem cells alone: every mouth is counted, and the label has
-- fewer digits than the depth, so that no tributary in its unit was cut
unfoldable pub stem_alone : ℕ → ℕ → ℕ → Bool
stem_alone depth least digits = both (eqb least 1) (ltb digits depth)

-- the answer to the flow question, from that to the outlet question: Yes is unsure where the unit may hold cells off
-- the stem; the others stay
abbrev pub cell_answer : Bool → OutletFlow → Flow
cell_answer alone OutletSame = Same
cell_answer alone OutletYes = cond alone Yes Undecided
cell_answer alone OutletNo = No
cell_answer alone (OutletRefused number) = Refused number

-- the flow question, does water from the unit q pass the unit p? 2, 19 of `least`, in this order; the other steps are
-- those of the outlet question, and then one more
unfoldable pub flow : ℕ → ℕ → UnitName → UnitName → Flow
unfolding depth_fits least_fits outlet_flow stem_alone digits_of
flow depth least p q =
    let alone : Bool = stem_alone depth least (length (digits_of p.label)) in
    let answer : Flow = cell_answer alone (outlet_flow depth p q) in
    cond (depth_fits depth) (cond (least_fits least) answer (Refused 19)) (Refused 2)

-- the number of an answer to the flow question: 0 No, 1 Yes, 2 Same, 3 Undecided, 128 + the refusal's number
abbrev pub answer_number : Flow → ℕ
answer_number No = 0
answer_number Yes = 1
answer_number Same = 2
answer_number Undecided = 3
answer_number (Refused number) = 128 + number

-- the number of an answer to the outlet question: that of the flow question's answer of the same name
abbrev pub outlet_answer_number : OutletFlow → ℕ
outlet_answer_number answer = answer_number (cell_answer true answer)
