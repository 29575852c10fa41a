-- Document 02's call for many pairs: the flow question for P's unit and Q's at each place of their slices, told least.
use Rattle.std.specs.Prelude.{Bool, cond, List, [], ◌∷◌, ℕ, leb, length, Err, Ok}
use Rattle.sheet.specs.declared.UnitName.{UnitName}
use Rattle.sheet.specs.Record.{labels_in, label_places, units_in}
use Rattle.sheet.specs.Refusal.{both, depth_fits, least_fits, written}
use Rattle.sheet.specs.Flow.{flow, answer_number}
use Rattle.sheet.specs.Answer.{Counted, Refused}

-- the number of the flow question's answer for each pair, the units of P and Q at the same place
unfoldable pub pair_numbers : ℕ → ℕ → List UnitName → List UnitName → List ℕ
unfolding flow
pair_numbers depth least [] y = []
pair_numbers depth least (p ∷ x) [] = []
pair_numbers depth least (p ∷ x) (q ∷ y) = answer_number (flow depth least p q) ∷ pair_numbers depth least x y

-- how many pairs there are: as many as the shorter slice of labels has places, where P's has m and Q's has n
unfoldable pub pair_count : ℕ → ℕ → ℕ
pair_count m n = cond (leb m n) m n

-- P's basins, Q's basins and the answers, which have so many places, have one for each pair; else 3
unfoldable pub slices_fit : ℕ → ℕ → ℕ → ℕ → Bool
slices_fit count p-basins q-basins answers =
    both (leb count p-basins) (both (leb count q-basins) (leb count answers))

-- the answer where P's labels have m numbers, Q's have n, and basins and answers have so many places: 2, 19, 3, in this
-- order
unfoldable pub pairs_answer : ℕ → ℕ → ℕ → ℕ → ℕ → ℕ → ℕ → Counted
unfolding depth_fits least_fits pair_count label_places slices_fit
pairs_answer depth least m p-basins n q-basins answers =
    let count : ℕ = pair_count (label_places m) (label_places n) in
    let room : Counted = cond (slices_fit count p-basins q-basins answers) (Ok count) (Refused 3 0) in
    cond (depth_fits depth) (cond (least_fits least) room (Refused 19 0)) (Refused 2 0)

-- refused, no place is written; else the first places hold the numbers and the others keep their values
abbrev pub if_answered : Counted → List ℕ → List ℕ → List ℕ
if_answered (Ok count) numbers answers = written numbers answers
if_answered (Err refusal) numbers answers = answers

-- the lent answers afterwards
unfoldable pub pairs_places : ℕ → ℕ → List ℕ → List ℕ → List ℕ → List ℕ → List ℕ → List ℕ
unfolding pairs_answer pair_numbers labels_in units_in
pairs_places depth least p p-basins q q-basins answers =
    let numbers : List ℕ =
    pair_numbers depth least (units_in p-basins (labels_in p)) (units_in q-basins (labels_in q)) in
    if_answered
    (pairs_answer depth least (length p) (length p-basins) (length q) (length q-basins) (length answers)) numbers answers

-- the refusal's number, or 0, and the count of pairs, or 0
pub record PairsValues : Type 0 where
  pub number : ℕ
  pub count : ℕ

abbrev pub pairs_values : Counted → PairsValues
pairs_values (Ok count) = record { number = 0; count = count }
pairs_values (Err refusal) = record { number = refusal.number; count = 0 }
