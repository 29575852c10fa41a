-- Worked flow questions, and calls for many pairs, computed from the definitions.
use mathlib.Core.Path.{◌≡◌, refl}
use mathlib.Core.List.{List, [], ◌∷◌}
use Prim.Native.Nat.{ℕ}
use Rattle.sheet.specs.declared.Flow.{Flow}
use Rattle.sheet.specs.declared.Flow.TheVariants.{Same, Yes, No, Undecided, Refused}
use Rattle.sheet.specs.declared.UnitName.{UnitName}
use Rattle.sheet.specs.declared.OutletFlow.TheVariants.{Yes as OutletYes, No as OutletNo}
use Rattle.sheet.specs.declared.OutletFlow.TheVariants.{Refused as OutletRefused}
use Rattle.sheet.specs.Record.{label_of_numbers, unit_name}
use Rattle.sheet.specs.Flow.{flow, outlet_flow, answer_number}
use Rattle.flow.specs.Pairs.{pair_numbers, pairs_answer, pairs_places}
use Rattle.sheet.specs.Answer.{Refused as Denied}
use Rattle.std.specs.Prelude.{Ok}

-- a unit of basin 1
abbrev unit : ℕ → ℕ → UnitName
unit first rest = unit_name 1 (label_of_numbers first rest)

-- a unit of a basin, with a label of up to 18 digits
abbrev short_in : ℕ → ℕ → UnitName
short_in basin first = unit_name basin (label_of_numbers first 0)

abbrev short : ℕ → UnitName
short first = short_in 1 first

-- 18 nines
abbrev nines : ℕ
nines = 999999999999999999

-- ---- labels of up to 18 digits

-- the flow question for two of them
abbrev flow_short : ℕ → ℕ → ℕ → ℕ → Flow
flow_short depth least p q = flow depth least (short p) (short q)

-- 2 at depths 0 and 37, before 11
pub flow_depth : flow_short 0 1 105 9 ∷ flow_short 37 1 9 9 ∷ [] ≡ Refused 2 ∷ Refused 2 ∷ []
unfolding flow
flow_depth = refl

-- 11 for either label, by a 0 or by one digit too many
pub flow_label : flow_short 3 1 105 9 ∷ flow_short 3 1 9 105 ∷ flow_short 3 1 1111 9 ∷ flow_short 36 1 9 1111111111111111111
    ∷ [] ≡ Refused 11 ∷ Refused 11 ∷ Refused 11 ∷ Refused 11 ∷ []
unfolding flow
flow_label = refl

-- Same before 12, though each label begins itself
pub flow_same : flow_short 3 1 0 0 ∷ flow_short 3 1 9 9 ∷ flow_short 18 1 nines nines ∷ [] ≡ Same ∷ Same ∷ Same ∷ []
unfolding flow
flow_same = refl

-- 12 where one begins the other, at any length of P; 0 begins all
pub flow_begins : flow_short 3 1 9 91 ∷ flow_short 3 1 91 9 ∷ flow_short 3 1 0 5 ∷ flow_short 2 1 91 9 ∷
    [] ≡ Refused 12 ∷ Refused 12 ∷ Refused 12 ∷ Refused 12 ∷ []
unfolding flow
flow_begins = refl

-- from 92 past 91; from 91 past 92; from 3 past 21; from 3 past 12, where a later digit is even
pub flow_rule : flow_short 3 1 91 92 ∷ flow_short 3 1 92 91 ∷ flow_short 3 1 21 3 ∷ flow_short 3 1 12 3 ∷
    [] ≡ Yes ∷ No ∷ No ∷ No ∷ []
unfolding flow
flow_rule = refl

-- P has as many digits as the depth: from 14 past 131, from 91 past 92, from 3 past 12; one digit less: from 14 past
-- 131
pub flow_depth_reached : flow_short 3 1 131 14 ∷ flow_short 2 1 92 91 ∷ flow_short 2 1 12 3 ∷ flow_short 4 1 131 14 ∷
    [] ≡ Undecided ∷ No ∷ No ∷ Yes ∷ []
unfolding flow
flow_depth_reached = refl

-- told a least above 1: Undecided for Yes, and No, Same and 12 as before
pub flow_least : flow_short 3 2 91 92 ∷ flow_short 3 65536000 91 92 ∷ flow_short 3 2 131 14 ∷ flow_short 3 2 92 91 ∷
    flow_short 3 2 9 9 ∷ flow_short 3 2 9 91 ∷ [] ≡ Undecided ∷ Undecided ∷ Undecided ∷ No ∷ Same ∷ Refused 12 ∷ []
unfolding flow
flow_least = refl

-- 19 at least 0 and 65,536,001, after 2 and before 11
pub flow_nineteen : flow_short 3 0 91 92 ∷ flow_short 3 65536001 105 105 ∷ flow_short 0 0 105 105 ∷ [] ≡
    Refused 19 ∷ Refused 19 ∷ Refused 2 ∷ []
unfolding flow
flow_nineteen = refl

-- ---- different basins

-- No though the rule is met, before Same and before 12; in one basin as before
pub flow_basins : flow 3 1 (short_in 1 91) (short_in 2 92) ∷ flow 3 1 (short_in 1 9) (short_in 2 9) ∷ flow 3 1 (short_in 1 9)
    (short_in 2 91) ∷ flow 3 1 (short_in 2 91) (short_in 2 92) ∷ [] ≡ No ∷ No ∷ No ∷ Yes ∷ []
unfolding flow
flow_basins = refl

-- after 2, 19 and 11 for either label
pub flow_basins_refused : flow 0 1 (short_in 1 9) (short_in 2 9) ∷ flow 3 0 (short_in 1 9) (short_in 2 9) ∷ flow 3 1
    (short_in 1 105) (short_in 2 9) ∷ flow 3 1 (short_in 1 9) (short_in 2 105) ∷ [] ≡
    Refused 2 ∷ Refused 19 ∷ Refused 11 ∷ Refused 11 ∷ []
unfolding flow
flow_basins_refused = refl

pub outlet_basins : outlet_flow 2 (short_in 1 91) (short_in 2 92) ∷ outlet_flow 2 (short_in 1 9) (short_in 2 9) ∷ outlet_flow
    2 (short_in 1 9) (short_in 2 105) ∷ outlet_flow 2 (short_in 2 91) (short_in 2 92) ∷ [] ≡
    OutletNo ∷ OutletNo ∷ OutletRefused 11 ∷ OutletYes ∷ []
unfolding outlet_flow
outlet_basins = refl

-- ---- numbers of answers

pub answer_numbers : answer_number No ∷ answer_number Yes ∷ answer_number Same ∷ answer_number Undecided ∷ answer_number
    (Refused 12) ∷ [] ≡ 0 ∷ 1 ∷ 2 ∷ 3 ∷ 140 ∷ []
answer_numbers = refl

-- ---- longer labels

-- 11: a second number beside a first of 17 digits, a 0 in the second number, 19 digits in it, and 19 digits at depth 18
pub long_label : flow 36 1 (short 9) (unit 99999999999999999 1) ∷ flow 36 1 (unit nines 10)
    (short 9) ∷ flow 36 1 (short 9) (unit nines 1111111111111111111) ∷ flow 18 1
    (unit nines 1) (short 9) ∷ [] ≡ Refused 11 ∷ Refused 11 ∷ Refused 11 ∷ Refused 11 ∷ []
unfolding flow
long_label = refl

-- Same where both numbers are equal; labels of 18 and 19 digits of which one begins the other; labels that part at the
-- 19th digit, either way
pub long_parting : flow 36 1 (unit nines 1) (unit nines 1) ∷ flow 36 1 (short nines)
    (unit nines 1) ∷ flow 36 1 (unit nines 1) (unit nines 2) ∷ flow 36 1
    (unit nines 2) (unit nines 1) ∷ [] ≡ Same ∷ Refused 12 ∷ Yes ∷ No ∷ []
unfolding flow
long_parting = refl

-- an even digit is met in the second number of P; as many digits as depth 36, and one less; the outlet question there
pub long_rule : flow 36 1 (unit 111111111111111111 12) (short 2) ∷ flow 36 1 (unit nines nines)
    (unit nines 999999999999999998) ∷ flow 36 1 (unit nines 999999999999999997)
    (unit nines 999999999999999998) ∷ flow 36 1 (unit nines 99999999999999997)
    (unit nines 999999999999999998) ∷ [] ≡ No ∷ No ∷ Undecided ∷ Yes ∷ []
unfolding flow
long_rule = refl

pub long_outlet : outlet_flow 36 (unit nines 999999999999999997) (unit nines 999999999999999998) ∷
    outlet_flow 36 (unit nines 999999999999999998) (unit nines 999999999999999997) ∷
    [] ≡ OutletYes ∷ OutletNo ∷ []
unfolding outlet_flow
long_outlet = refl

-- ---- many pairs

-- units of basin 1
abbrev shorts : List ℕ → List UnitName
shorts [] = []
shorts (m ∷ numbers) = short m ∷ shorts numbers

-- each answer; refused pairs stand first, in the middle and last
pub pairs_numbers : pair_numbers 3 1 (shorts (105 ∷ 92 ∷ 91 ∷ 9 ∷ 91 ∷ 131 ∷ 1111 ∷ []))
    (shorts (9 ∷ 91 ∷ 92 ∷ 91 ∷ 91 ∷ 14 ∷ 1111 ∷ [])) ≡
    139 ∷ 0 ∷ 1 ∷ 140 ∷ 2 ∷ 3 ∷ 139 ∷ []
unfolding pair_numbers
pairs_numbers = refl

-- as many pairs as the shorter slice has
pub pairs_shorter : pair_numbers 3 1 (shorts (91 ∷ [])) (shorts (92 ∷ 105 ∷ [])) ∷ pair_numbers 3 1
    (shorts (91 ∷ 105 ∷ [])) (shorts (92 ∷ [])) ∷ pair_numbers 3 1 [] (shorts (92 ∷ [])) ∷
    [] ≡ (1 ∷ []) ∷ (1 ∷ []) ∷ [] ∷ []
unfolding pair_numbers
pairs_shorter = refl

-- 2 before 3; 3 by the shorter slice of labels; no pairs need no place; an odd number at the end is no place
pub pairs_answers : pairs_answer 0 1 4 9 4 9 1 ∷ pairs_answer 37 1 0 0 0 0 0 ∷ pairs_answer 36 1 6 9 4 9 1 ∷ pairs_answer 1
    1 4 9 6 9 1 ∷ pairs_answer 3 1 6 9 4 9 2 ∷ pairs_answer 3 1 4 9 6 9 9 ∷ pairs_answer 3 1 0 0 9 0 0 ∷ pairs_answer 3 1 5
    9 7 9 2 ∷ pairs_answer 3 1 1 0 4 0 0 ∷ [] ≡ Denied 2 0 ∷ Denied 2 0 ∷ Denied 3 0 ∷ Denied 3 0 ∷ Ok
    2 ∷ Ok 2 ∷ Ok 0 ∷ Ok 2 ∷ Ok 0 ∷ []
unfolding pairs_answer
pairs_answers = refl

-- 3 by the basins of P and by those of Q, after 2 and 19; a basin for each pair is enough
pub pairs_basins : pairs_answer 3 1 4 1 4 2 2 ∷ pairs_answer 3 1 4 2 4 1 2 ∷ pairs_answer 0 1 4 1 4 2 2 ∷ pairs_answer 3 0 4
    2 4 1 2 ∷ pairs_answer 3 1 6 2 4 2 2 ∷ pairs_answer 3 1 4 2 6 2 2 ∷ [] ≡ Denied 3 0 ∷ Denied 3 0 ∷
    Denied 2 0 ∷ Denied 19 0 ∷ Ok 2 ∷ Ok 2 ∷ []
unfolding pairs_answer
pairs_basins = refl

-- 2 before 19, 19 before 3
pub pairs_least : pairs_answer 0 0 4 2 4 2 1 ∷ pairs_answer 3 0 4 2 4 2 1 ∷ pairs_answer 3 65536001 0 0 0 0 0 ∷
    pairs_answer 3 2 4 2 4 2 1 ∷ [] ≡ Denied 2 0 ∷ Denied 19 0 ∷ Denied 19 0 ∷ Denied 3 0 ∷ []
unfolding pairs_answer
pairs_least = refl

-- the answers afterwards, where all units are of basin 1
abbrev places_short : ℕ → ℕ → List ℕ → List ℕ → List ℕ → List ℕ
places_short depth least p q answers = pairs_places depth least p (1 ∷ 1 ∷ []) q (1 ∷ 1 ∷ []) answers

-- refused, no place is written; told a least above 1
pub pairs_least_places : places_short 3 0 (91 ∷ 0 ∷ []) (92 ∷ 0 ∷ []) (7 ∷ []) ∷
    places_short 3 2 (91 ∷ 0 ∷ 92 ∷ 0 ∷ []) (92 ∷ 0 ∷ 91 ∷ 0 ∷ []) (7 ∷ 8 ∷ []) ∷ [] ≡ (7 ∷ []) ∷ (3 ∷ 0 ∷ []) ∷ []
unfolding pairs_places
pairs_least_places = refl

-- places past the last pair keep their values; refused, all do
pub pairs_places_lem : places_short 3 1 (91 ∷ 0 ∷ 9 ∷ 0 ∷ []) (92 ∷ 0 ∷ []) (7 ∷ 8 ∷ []) ∷
    places_short 3 1 (91 ∷ 0 ∷ 9 ∷ 0 ∷ []) (92 ∷ 0 ∷ 9 ∷ 0 ∷ []) (7 ∷ []) ∷
    places_short 37 1 (91 ∷ 0 ∷ []) (92 ∷ 0 ∷ []) (7 ∷ []) ∷
    [] ≡ (1 ∷ 8 ∷ []) ∷ (7 ∷ []) ∷ (7 ∷ []) ∷ []
unfolding pairs_places
pairs_places_lem = refl

-- labels that differ only in the second number; an odd number at the end of either slice is not read
pub pairs_long : places_short 36 1 (nines ∷ 1 ∷ nines ∷ 2 ∷ 5 ∷ []) (nines ∷ 2 ∷ nines ∷ 2 ∷ 105 ∷ []) (7 ∷ 7 ∷ 7 ∷ []) ≡
    1 ∷ 2 ∷ 7 ∷ []
unfolding pairs_places
pairs_long = refl

-- the basins at each place are compared, and those past the last pair are not read; too few, no place is written
pub pairs_basins_places :
    pairs_places 3 1 (91 ∷ 0 ∷ 91 ∷ 0 ∷ []) (1 ∷ 2 ∷ []) (92 ∷ 0 ∷ 92 ∷ 0 ∷ []) (1 ∷ 1 ∷ 2 ∷ []) (7 ∷ 7 ∷ []) ∷
    pairs_places 3 1 (91 ∷ 0 ∷ 91 ∷ 0 ∷ []) (1 ∷ []) (92 ∷ 0 ∷ 92 ∷ 0 ∷ []) (1 ∷ 1 ∷ []) (7 ∷ 7 ∷ []) ∷
    [] ≡ (1 ∷ 0 ∷ []) ∷ (7 ∷ 7 ∷ []) ∷ []
unfolding pairs_places
pairs_basins_places = refl
