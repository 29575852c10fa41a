-- Worked cases: what the definitions compute beside what documents 01 and 02 state. Those that document 01 marks *
-- stand in one list, in its order, but for refusal 7, which document 02 ends.
use Rattle.std.specs.Prelude.{cond, List, [], ◌∷◌, ◌++◌, map, ℕ, ◌*◌, eqb, replicate}
use Rattle.sheet.specs.Sheet.{Grid, Sheet, grid}
use Rattle.sheet.specs.Word.{bytes_of, number_at, first_bad_of}
use Rattle.sheet.specs.Area.{drains_into, area}
use Rattle.sheet.specs.River.{network, stem, mouth, Run, river}
use Rattle.sheet.specs.declared.Label.{Label}
use Rattle.sheet.specs.declared.UnitName.{UnitName}
use Rattle.sheet.specs.Record.{label_of_numbers, record_of, digits_of, labels_in, numbers_of, label_places}
use Rattle.sheet.specs.Record.{unit_name, basin_and_digits, units_in}
use Rattle.sheet.specs.Basins.{basin_of, basin_grid, basin_area, basin_label, basins_of}
use Rattle.sheet.specs.Label.{label_of, outlet_of, list_from}
use Rattle.sheet.specs.Refusal.{Lent, outcome, OutcomeValues, outcome_values, lent_after}
use Rattle.sheet.specs.Flow.{is_label, outlet_flow, flow, answer_number, outlet_answer_number}

pub record Case : Type 0 where
  pub computed : List ℕ
  pub stated : List ℕ

abbrev case : List ℕ → List ℕ → Case
case computed stated = record { computed = computed; stated = stated }

-- sample A: rows, columns and directions
abbrev pub sample_a : Grid
sample_a = grid 3 4 (0 ∷ 4 ∷ 16 ∷ 8 ∷ 16 ∷ 16 ∷ 16 ∷ 16 ∷ 64 ∷ 64 ∷ 32 ∷ 64 ∷ [])

-- a sheet with weights, and one without: each is then 1; least and split are 1 and 4, as where they are not named
abbrev pub weighted_sheet : Grid → ℕ → List ℕ → Sheet
weighted_sheet G depth weights = record { grid = G; depth = depth; least = 1; split = 4; weights = weights }

abbrev pub sheet : Grid → ℕ → Sheet
sheet G depth = weighted_sheet G depth (replicate G.rows 1)

-- a sheet without weights, with least and split
abbrev pub split_sheet : Grid → ℕ → ℕ → ℕ → Sheet
split_sheet G depth least split = record {
  grid = G;
  depth = depth;
  least = least;
  split = split;
  weights = replicate G.rows 1;
}

-- the mouths that stand straight after a stem cell in a river list
abbrev mouths : Run → List ℕ
mouths [] = []
mouths (stem s ∷ R) = []
mouths (mouth v ∷ R) = v ∷ mouths R

abbrev mouths_at : ℕ → Run → List ℕ
mouths_at c [] = []
mouths_at c (stem s ∷ R) = cond (eqb s c) (mouths R) (mouths_at c R)
mouths_at c (mouth v ∷ R) = mouths_at c R

-- what is lent for n cells, each number 7
abbrev lent_for : ℕ → Lent
lent_for n = record {
  areas = replicate n 7;
  labels = replicate (2 * n) 7;
  basins = replicate n 7;
  work = replicate (8 * n) 7;
}

-- a label of at most 18 digits, and the numbers of several; the unit of a basin that has it
abbrev short : ℕ → Label
short m = label_of_numbers m 0

abbrev short_in : ℕ → ℕ → UnitName
short_in basin m = unit_name basin (short m)

abbrev shorts : List ℕ → List ℕ
shorts [] = []
shorts (m ∷ ms) = m ∷ 0 ∷ shorts ms

-- the labels of cells, as the numbers of their records
abbrev labels_at : Sheet → List ℕ → List ℕ
labels_at S cs = numbers_of (map (label_of S) cs)

abbrev labels_below : Sheet → ℕ → List ℕ
labels_below S n = numbers_of (list_from (label_of S) 0 n)

-- the numbers of the answers to the flow question and to the outlet question about labels of at most 18 digits in one
-- basin
abbrev asked : ℕ → ℕ → ℕ → ℕ → ℕ
asked depth least p q = answer_number (flow depth least (short_in 1 p) (short_in 1 q))

abbrev outlet_asked : ℕ → ℕ → ℕ → ℕ
outlet_asked depth p q = outlet_answer_number (outlet_flow depth (short_in 1 p) (short_in 1 q))

-- number and place of the outcome; both are 0 where it is accepted
abbrev outcome_is : Sheet → Lent → List ℕ
outcome_is S L = let v : OutcomeValues = outcome_values (outcome S L) in v.number ∷ v.place ∷ []

-- the cases marked *
unfoldable pub cases : List Case
unfolding area network river label_of outlet_of outcome flow numbers_of
cases =
    case (area (sheet sample_a 2) 4 ∷ []) (11 ∷ [])
    ∷ case (mouths_at 5 (river (network (sheet sample_a 2)) (outlet_of sample_a 5))) (9 ∷ 10 ∷ 1 ∷ [])
    ∷ case (labels_at (sheet sample_a 2) (3 ∷ 11 ∷ [])) (shorts (92 ∷ 93 ∷ []))
    ∷ case (labels_at (sheet sample_a 1) (3 ∷ 6 ∷ 7 ∷ 11 ∷ [])) (shorts (9 ∷ 9 ∷ 9 ∷ 9 ∷ []))
    ∷ case (area (sheet (grid 1 1 (1 ∷ [])) 1) 0 ∷ labels_at (sheet (grid 1 1 (1 ∷ [])) 1) (0 ∷ []))
    (1 ∷ shorts (0 ∷ []))
    ∷ case (outcome_is (sheet (grid 1 2 (1 ∷ 16 ∷ [])) 1) (lent_for 2)) (6 ∷ 0 ∷ [])
    ∷ case (asked 3 1 91 92 ∷ asked 3 1 92 91 ∷ asked 3 1 21 3 ∷ [])
    (1 ∷ 0 ∷ 0 ∷ [])
    ∷ case (asked 3 1 131 14 ∷ []) (3 ∷ [])
    ∷ case (asked 3 1 9 91 ∷ asked 3 1 105 9 ∷ []) (140 ∷ 139 ∷ [])
    ∷ []

-- sample A whole: it is accepted, and of slices for 13 cells the first 12 areas and labels are those that document 01
-- prints, the first 12 basins are 1 inside and 0 outside, the first 96 work places are 0, and the others keep their
-- values
unfoldable pub listing : List Case
unfolding outcome lent_after
listing =
    let after : Lent = lent_after (sheet sample_a 2) (lent_for 13) in
    case (outcome_is (sheet sample_a 2) (lent_for 13)) (0 ∷ 0 ∷ [])
    ∷ case after.areas (0 ∷ 2 ∷ 1 ∷ 1 ∷ 11 ∷ 9 ∷ 4 ∷ 2 ∷ 1 ∷ 1 ∷ 1 ∷ 1 ∷ 7 ∷ [])
    ∷ case after.labels (shorts (0 ∷ 8 ∷ 8 ∷ 92 ∷ 1 ∷ 3 ∷ 91 ∷ 93 ∷ 2 ∷ 4 ∷ 6 ∷ 93 ∷ []) ++ replicate 2 7)
    ∷ case after.basins (0 ∷ replicate 11 1 ++ replicate 1 7)
    ∷ case after.work (replicate 96 0 ++ replicate 8 7)
    ∷ []

-- refused by 6 and by 3: no area, label or basin is written, and the work places are cleared once check 3 is passed
unfoldable pub refusals : List Case
unfolding lent_after
refusals =
    let circle : Lent = lent_after (sheet (grid 1 2 (1 ∷ 16 ∷ [])) 1) (lent_for 2) in
    let few : Lent = lent_after (sheet (grid 1 2 (1 ∷ 16 ∷ [])) 1) (lent_for 1) in
    case (circle.areas ++ circle.labels ++ circle.basins ++ circle.work) (replicate 8 7 ++ replicate 16 0)
    ∷ case (few.areas ++ few.labels ++ few.basins ++ few.work) (replicate 12 7)
    ∷ []

-- sheets that fail two checks get the earlier number: 1 before 2, 2 before 3, 3 before 4, 4 before 6; a circle beside
-- two good basins is refused by 6
unfoldable pub orders : List Case
unfolding outcome
orders =
    case (outcome_is (sheet (grid 257 1 []) 37) (lent_for 0)) (1 ∷ 0 ∷ [])
    ∷ case (outcome_is (sheet (grid 1 1 (1 ∷ [])) 37) (lent_for 0)) (2 ∷ 0 ∷ [])
    ∷ case (outcome_is (sheet (grid 1 1 (3 ∷ [])) 36) (lent_for 0)) (3 ∷ 0 ∷ [])
    ∷ case (outcome_is (sheet (grid 1 3 (1 ∷ 16 ∷ 3 ∷ [])) 36) (lent_for 3)) (4 ∷ 2 ∷ [])
    ∷ case (outcome_is (sheet (grid 1 4 (16 ∷ 1 ∷ 16 ∷ 1 ∷ [])) 36) (lent_for 4)) (6 ∷ 1 ∷ [])
    ∷ []

-- a basin whose outlet, cell 3, has the donors 0, 1, 7 and 4, and cell 4 the donors 2, 6 and 8. Of the equal mouths 0,
-- 1, 7, 2 and 6, 0 is not taken: it stays in unit 1, whose stem cell is 3 alone
abbrev pub confluences : Grid
confluences = grid 3 3 (4 ∷ 8 ∷ 8 ∷ 16 ∷ 16 ∷ 0 ∷ 128 ∷ 32 ∷ 32 ∷ [])

-- one case for each of document 01's traps (a stem chosen afresh, ties by list place, digits that slide, a later even
-- digit, a circle), then the order of the flow question's answers
unfoldable pub traps : List Case
unfolding label_of area outcome flow numbers_of
traps =
    case (labels_at (sheet confluences 2) (3 ∷ 0 ∷ [])) (shorts (11 ∷ 12 ∷ []))
    ∷ case (labels_at (sheet confluences 2) (1 ∷ 2 ∷ [])) (shorts (2 ∷ 6 ∷ []))
    ∷ case (labels_at (sheet confluences 2) (7 ∷ 6 ∷ 8 ∷ [])) (shorts (4 ∷ 8 ∷ 9 ∷ []))
    ∷ case (asked 3 1 12 3 ∷ asked 3 1 114 3 ∷ asked 3 1 11 3 ∷ [])
    (0 ∷ 0 ∷ 1 ∷ [])
    ∷ case (outcome_is (sheet (grid 1 3 (4 ∷ 1 ∷ 16 ∷ [])) 1) (lent_for 3)) (6 ∷ 1 ∷ [])
    ∷ case (asked 3 1 132 14 ∷ asked 3 1 0 0 ∷ asked 3 1 0 5 ∷ [])
    (0 ∷ 2 ∷ 140 ∷ [])
    ∷ case (asked 3 1 9 105 ∷ asked 3 1 105 105 ∷ asked 0 1 105 105 ∷ [])
    (139 ∷ 139 ∷ 130 ∷ [])
    ∷ case (asked 37 1 1 2 ∷ asked 36 1 1 2 ∷ []) (130 ∷ 1 ∷ [])
    ∷ []

-- The outlet question: as the flow question, but for Yes where the label has as many digits as the depth (14 past
-- 131, 92 past 91, 9 past 1); a later even digit; 2 before 11, 11 before Same, Same before 12.
unfoldable pub outlet_flows : List Case
unfolding outlet_flow
outlet_flows =
    case (outlet_asked 3 91 92 ∷ outlet_asked 3 92 91
    ∷ outlet_asked 3 21 3 ∷ []) (1 ∷ 0 ∷ 0 ∷ [])
    ∷ case (outlet_asked 3 131 14 ∷ outlet_asked 2 91 92
    ∷ outlet_asked 1 1 9 ∷ []) (1 ∷ 1 ∷ 1 ∷ [])
    ∷ case (outlet_asked 3 132 14 ∷ outlet_asked 3 12 3
    ∷ outlet_asked 3 114 3 ∷ []) (0 ∷ 0 ∷ 0 ∷ [])
    ∷ case (outlet_asked 0 105 105 ∷ outlet_asked 37 1 2
    ∷ outlet_asked 36 1 2 ∷ []) (130 ∷ 130 ∷ 1 ∷ [])
    ∷ case (outlet_asked 3 105 105 ∷ outlet_asked 3 9 105
    ∷ outlet_asked 3 1111 2 ∷ []) (139 ∷ 139 ∷ 139 ∷ [])
    ∷ case (outlet_asked 3 0 0 ∷ outlet_asked 2 91 91
    ∷ outlet_asked 3 0 5 ∷ outlet_asked 3 9 91 ∷ []) (2 ∷ 2 ∷ 140 ∷ 140 ∷ [])
    ∷ []

-- two cells that flow into the one between them, the outlet: one cell a row
abbrev pub confluence : Grid
confluence = grid 3 1 (4 ∷ 16 ∷ 64 ∷ [])

-- the areas of the first n cells, then their labels
abbrev areas_and_labels : Sheet → ℕ → List ℕ
areas_and_labels S n = list_from (area S) 0 n ++ labels_below S n

-- Weights: the heavier row is the river; of equal areas the larger cell number, as without weights; a weight is that of
-- its row, and those past the rows are not looked at. 17 at 0 and 1001, not at 1 and 1000, and for a row without an
-- inside cell. 3 is tested before it, 4 after it; after it the work places are 0, and nothing else is written.
unfoldable pub weighted : List Case
unfolding area label_of list_from outcome lent_after numbers_of
weighted =
    let refused : Lent = lent_after (weighted_sheet confluence 1 (1 ∷ 1001 ∷ 1 ∷ [])) (lent_for 3) in
    case (areas_and_labels (weighted_sheet confluence 1 (5 ∷ 1 ∷ 3 ∷ [])) 3) (5 ∷ 9 ∷ 3 ∷ shorts (3 ∷ 1 ∷ 2 ∷ []))
    ∷ case (areas_and_labels (weighted_sheet confluence 1 (3 ∷ 1 ∷ 3 ∷ [])) 3) (3 ∷ 7 ∷ 3 ∷ shorts (2 ∷ 1 ∷ 3 ∷ []))
    ∷ case (areas_and_labels (sheet confluence 1) 3) (1 ∷ 3 ∷ 1 ∷ shorts (2 ∷ 1 ∷ 3 ∷ []))
    ∷ case (areas_and_labels (weighted_sheet (grid 1 2 (16 ∷ 16 ∷ [])) 1 (7 ∷ 0 ∷ [])) 2) (14 ∷ 7 ∷ shorts (0 ∷ 0 ∷ []))
    ∷ case (outcome_is (weighted_sheet (grid 1 2 (16 ∷ 16 ∷ [])) 1 (7 ∷ 0 ∷ [])) (lent_for 2)) (0 ∷ 0 ∷ [])
    ∷ case (outcome_is (weighted_sheet confluence 1 (1000 ∷ 1 ∷ 1000 ∷ [])) (lent_for 3)) (0 ∷ 0 ∷ [])
    ∷ case (outcome_is (weighted_sheet confluence 1 (0 ∷ 1 ∷ 1 ∷ [])) (lent_for 3)) (17 ∷ 0 ∷ [])
    ∷ case (outcome_is (weighted_sheet confluence 1 (1 ∷ 1 ∷ 1001 ∷ [])) (lent_for 3)) (17 ∷ 0 ∷ [])
    ∷ case (outcome_is (weighted_sheet (grid 2 1 (1 ∷ 0 ∷ [])) 1 (1 ∷ 0 ∷ [])) (lent_for 2)) (17 ∷ 0 ∷ [])
    ∷ case (outcome_is (weighted_sheet confluence 1 (0 ∷ 0 ∷ [])) (lent_for 3)) (3 ∷ 0 ∷ [])
    ∷ case (outcome_is (weighted_sheet confluence 1 (0 ∷ 0 ∷ 0 ∷ [])) (lent_for 2)) (3 ∷ 0 ∷ [])
    ∷ case (outcome_is (weighted_sheet (grid 1 1 (3 ∷ [])) 1 (0 ∷ [])) (lent_for 1)) (17 ∷ 0 ∷ [])
    ∷ case (refused.areas ++ refused.labels ++ refused.basins ++ refused.work) (replicate 12 7 ++ replicate 24 0)
    ∷ []

-- a river along the first row, where cells weigh 2, with the mouth 3, of area 1, at its outlet, and the mouth 2, of area
-- 2, at its next cell. At least 2 the mouth 2 alone is counted, and 3 stays in unit 1
unfoldable pub ditch : List Case
unfolding label_of list_from numbers_of
ditch =
    case (labels_below (record {
      grid = grid 2 3 (16 ∷ 16 ∷ 16 ∷ 64 ∷ 64 ∷ 16 ∷ []);
      depth = 2;
      least = 2;
      split = 4;
      weights = 2 ∷ 1 ∷ [];
    }) 6) (shorts (1 ∷ 1 ∷ 2 ∷ 1 ∷ 3 ∷ 3 ∷ []))
    ∷ []

-- Least and split. Sample A at least 2: of the mouths 8, 9, 10, 1 and 3 only 1 counts, whose area is 2; the others stay
-- in their units, which are finished. At least 3 no mouth counts. By weights its areas are larger: at least 3 mouth 1
-- counts again. Of the basin of confluences one mouth at a time: 7, then 1 in unit 1 and 6 in unit 3; two at a time: 7
-- and 6. At the greatest least no mouth of sample A counts.
unfoldable pub splits : List Case
unfolding label_of list_from numbers_of
splits =
    case (labels_below (split_sheet sample_a 2 2 4) 12)
    (shorts (0 ∷ 2 ∷ 2 ∷ 3 ∷ 1 ∷ 1 ∷ 3 ∷ 3 ∷ 1 ∷ 1 ∷ 1 ∷ 3 ∷ []))
    ∷ case (labels_below (split_sheet sample_a 2 3 4) 12) (replicate 24 0)
    ∷ case (labels_below (record {
      grid = sample_a;
      depth = 2;
      least = 3;
      split = 4;
      weights = 2 ∷ 1 ∷ 1 ∷ [];
    }) 12) (shorts (0 ∷ 2 ∷ 2 ∷ 3 ∷ 1 ∷ 1 ∷ 3 ∷ 3 ∷ 1 ∷ 1 ∷ 1 ∷ 3 ∷ []))
    ∷ case (labels_below (split_sheet confluences 2 1 1) 9)
    (shorts (11 ∷ 12 ∷ 31 ∷ 11 ∷ 31 ∷ 0 ∷ 32 ∷ 2 ∷ 33 ∷ []))
    ∷ case (labels_below (split_sheet confluences 1 1 2) 9) (shorts (1 ∷ 1 ∷ 3 ∷ 1 ∷ 3 ∷ 0 ∷ 4 ∷ 2 ∷ 5 ∷ []))
    ∷ case (labels_below (split_sheet sample_a 2 65536000 4) 12) (replicate 24 0)
    ∷ []

-- 19 at least 0 and 65,536,001 and at split 0 and 5, not at the bounds; 2 is tested before it, 3 after it; it writes
-- nothing
unfoldable pub nineteens : List Case
unfolding outcome lent_after
nineteens =
    let refused : Lent = lent_after (split_sheet (grid 1 1 (1 ∷ [])) 1 0 4) (lent_for 1) in
    case (outcome_is (split_sheet (grid 1 1 (1 ∷ [])) 1 0 4) (lent_for 1)) (19 ∷ 0 ∷ [])
    ∷ case (outcome_is (split_sheet (grid 1 1 (1 ∷ [])) 1 65536001 4) (lent_for 1)) (19 ∷ 0 ∷ [])
    ∷ case (outcome_is (split_sheet (grid 1 1 (1 ∷ [])) 1 65536000 1) (lent_for 1)) (0 ∷ 0 ∷ [])
    ∷ case (outcome_is (split_sheet (grid 1 1 (1 ∷ [])) 1 1 0) (lent_for 1)) (19 ∷ 0 ∷ [])
    ∷ case (outcome_is (split_sheet (grid 1 1 (1 ∷ [])) 1 1 5) (lent_for 1)) (19 ∷ 0 ∷ [])
    ∷ case (outcome_is (split_sheet (grid 1 1 (1 ∷ [])) 37 0 5) (lent_for 1)) (2 ∷ 0 ∷ [])
    ∷ case (outcome_is (split_sheet (grid 1 1 (1 ∷ [])) 36 0 4) (lent_for 0)) (19 ∷ 0 ∷ [])
    ∷ case (refused.areas ++ refused.labels ++ refused.basins ++ refused.work) (replicate 12 7)
    ∷ []

-- The flow question told least: on sample A at least 2, water from cell 6, label 3, does not pass cell 8, label 1,
-- though the digit rule is met and the label has fewer digits than the depth: Undecided, where least 1 gives Yes. 2
-- before 19, 19 before 11.
unfoldable pub least_flows : List Case
unfolding flow label_of drains_into numbers_of
least_flows =
    case (labels_at (split_sheet sample_a 2 2 4) (6 ∷ 8 ∷ [])) (shorts (3 ∷ 1 ∷ []))
    ∷ case (cond (drains_into sample_a 8 6) 1 0 ∷ cond (drains_into sample_a 4 6) 1 0 ∷ []) (0 ∷ 1 ∷ [])
    ∷ case (asked 2 2 1 3 ∷ asked 2 1 1 3 ∷ asked 2 65536000 1 3 ∷ [])
    (3 ∷ 1 ∷ 3 ∷ [])
    ∷ case (asked 2 2 3 1 ∷ asked 2 2 3 3 ∷ asked 2 2 3 31 ∷ [])
    (0 ∷ 2 ∷ 140 ∷ [])
    ∷ case (asked 3 0 105 105 ∷ asked 3 65536001 9 91 ∷ asked 37 0 1 1 ∷ [])
    (147 ∷ 147 ∷ 130 ∷ [])
    ∷ []

-- 19 digits, to a record and back
unfoldable pub nineteenth : List Case
unfolding record_of digits_of
nineteenth = case (digits_of (record_of (replicate 18 1 ++ (2 ∷ [])))) (replicate 18 1 ++ (2 ∷ [])) ∷ []

-- Records: no digits, 1 and 18 digits are one number, the 19th stands in the second, 36 fill both; and back
unfoldable pub records : List Case
unfolding record_of digits_of numbers_of
records =
    case (numbers_of (record_of [] ∷ record_of (7 ∷ []) ∷ [])) (0 ∷ 0 ∷ 7 ∷ 0 ∷ [])
    ∷ case (numbers_of (record_of (replicate 18 9) ∷ record_of (replicate 18 1 ++ (2 ∷ [])) ∷ []))
    (999999999999999999 ∷ 0 ∷ 111111111111111111 ∷ 2 ∷ [])
    ∷ case (numbers_of (record_of (replicate 36 8) ∷ [])) (888888888888888888 ∷ 888888888888888888 ∷ [])
    ∷ case (digits_of (label_of_numbers 111111111111111111 23)) (replicate 18 1 ++ (2 ∷ 3 ∷ []))
    ∷ case (digits_of (label_of_numbers 0 0)) []
    ∷ []

-- the record of two numbers is a label at a depth
abbrev judged : ℕ → ℕ → ℕ → ℕ
judged depth first rest = cond (is_label depth (label_of_numbers first rest)) 1 0

-- 11, each part alone: labels of 19, 36 and no digits; more digits than the depth, in the first number and in both; a 0
-- digit in either; a second number beside a first of 17 digits and of none; a first and a second of 19 digits
unfoldable pub elevens : List Case
unfolding is_label
elevens =
    case (judged 19 111111111111111111 1 ∷ judged 36 999999999999999999 999999999999999999 ∷ judged 1 0 0 ∷ [])
    (1 ∷ 1 ∷ 1 ∷ [])
    ∷ case (judged 17 111111111111111111 0 ∷ judged 18 111111111111111111 1 ∷ []) (0 ∷ 0 ∷ [])
    ∷ case (judged 36 101111111111111111 1 ∷ judged 36 111111111111111111 10 ∷ []) (0 ∷ 0 ∷ [])
    ∷ case (judged 36 11111111111111111 1 ∷ judged 36 0 1 ∷ []) (0 ∷ 0 ∷ [])
    ∷ case (judged 36 1111111111111111111 0 ∷ judged 36 111111111111111111 1111111111111111111 ∷ []) (0 ∷ 0 ∷ [])
    ∷ []

-- Slices of labels: an odd number at the end is no place. A sheet of one cell wants two numbers; of three the last
-- keeps its value.
unfoldable pub slices : List Case
unfolding labels_in numbers_of label_places outcome lent_after
slices =
    let lend : List ℕ → Lent =
    λ labels. record { areas = 7 ∷ []; labels = labels; basins = 7 ∷ []; work = replicate 8 7 } in
    let one : Sheet = sheet (grid 1 1 (1 ∷ [])) 36 in
    case (numbers_of (labels_in (1 ∷ 2 ∷ 3 ∷ []))) (1 ∷ 2 ∷ [])
    ∷ case (label_places 0 ∷ label_places 1 ∷ label_places 2 ∷ label_places 3 ∷ []) (0 ∷ 0 ∷ 1 ∷ 1 ∷ [])
    ∷ case (outcome_is one (lend (7 ∷ [])) ++ outcome_is one (lend (7 ∷ 7 ∷ []))) (3 ∷ 0 ∷ 0 ∷ 0 ∷ [])
    ∷ case (lent_after one (lend (7 ∷ 7 ∷ 7 ∷ []))).labels (0 ∷ 0 ∷ 7 ∷ [])
    ∷ []

-- the numbers of the answers about labels of 18 ones and one more digit each
abbrev asked_on : ℕ → ℕ → ℕ → ℕ
asked_on depth p q =
    answer_number (flow depth 1 (unit_name 1 (label_of_numbers 111111111111111111 p))
    (unit_name 1 (label_of_numbers 111111111111111111 q)))

-- the flow question about labels that part at their 19th digit: Yes, Undecided at depth 19, No, Same; 12 where one has
-- 18 digits and begins the other; 11 at depth 18
unfoldable pub long_flows : List Case
unfolding flow
long_flows =
    case (asked_on 36 1 3 ∷ asked_on 19 1 3 ∷ asked_on 36 3 1 ∷ asked_on 36 2 3 ∷ []) (1 ∷ 3 ∷ 0 ∷ 0 ∷ [])
    ∷ case (asked_on 36 3 3 ∷ asked_on 36 0 3 ∷ asked_on 36 3 0 ∷ asked_on 18 1 3 ∷ []) (2 ∷ 140 ∷ 140 ∷ 139 ∷ [])
    ∷ []

-- two basins side by side, each of two cells that flow into the one between them
abbrev pub neighbours : Grid
neighbours = grid 3 2 (4 ∷ 4 ∷ 16 ∷ 1 ∷ 64 ∷ 64 ∷ [])

-- three basins, of outlets 0, 2 and 5, the second of a single cell, beside an outside cell
abbrev pub three_basins : Grid
three_basins = grid 2 3 (16 ∷ 16 ∷ 1 ∷ 0 ∷ 64 ∷ 4 ∷ [])

-- the numbers of basins alone
unfoldable pub basin_numbers : List Case
unfolding basins_of
basin_numbers = case (basins_of three_basins) (1 ∷ 1 ∷ 2 ∷ 0 ∷ 1 ∷ 3 ∷ []) ∷ []

-- areas, then labels, then basins, after labelling with just the places that are needed
abbrev labelled_as : Sheet → ℕ → List ℕ
labelled_as S n = let after : Lent = lent_after S (lent_for n) in after.areas ++ after.labels ++ after.basins

-- Basins. The 1 by 2 sheet of codes 16 and 1: two basins of area 1, label 0. Two basins side by side: the labels of
-- each begin afresh. Three basins. The second of two basins alone. A basin slice that is short by one place is refused
-- by 3.
unfoldable pub basins : List Case
unfolding outcome lent_after basin_of basin_grid basin_area basin_label basins_of
basins =
    let two : Sheet = sheet (grid 1 2 (16 ∷ 1 ∷ [])) 1 in
    let short : Lent = record {
      areas = 7 ∷ 7 ∷ [];
      labels = replicate 4 7;
      basins = 7 ∷ [];
      work = replicate 16 7;
    } in
    case (outcome_is two (lent_for 2)) (0 ∷ 0 ∷ [])
    ∷ case (labelled_as two 2) (1 ∷ 1 ∷ shorts (0 ∷ 0 ∷ []) ++ (1 ∷ 2 ∷ []))
    ∷ case (labelled_as (sheet neighbours 1) 6)
    (1 ∷ 1 ∷ 3 ∷ 3 ∷ 1 ∷ 1 ∷ shorts (2 ∷ 2 ∷ 1 ∷ 1 ∷ 3 ∷ 3 ∷ []) ++ (1 ∷ 2 ∷ 1 ∷ 2 ∷ 1 ∷ 2 ∷ []))
    ∷ case (labelled_as (sheet three_basins 1) 6)
    (3 ∷ 2 ∷ 1 ∷ 0 ∷ 1 ∷ 1 ∷ replicate 12 0 ++ (1 ∷ 1 ∷ 2 ∷ 0 ∷ 1 ∷ 3 ∷ []))
    ∷ case (basin_grid neighbours 2).dirs (0 ∷ 4 ∷ 0 ∷ 1 ∷ 0 ∷ 64 ∷ [])
    ∷ case (outcome_is two short) (3 ∷ 0 ∷ [])
    ∷ []

-- the numbers of the answers to both questions about labels in two basins
abbrev asked_across : ℕ → ℕ → List ℕ
asked_across p q =
    answer_number (flow 3 1 (short_in 1 p) (short_in 2 q))
    ∷ outlet_answer_number (outlet_flow 3 (short_in 1 p) (short_in 2 q)) ∷ []

-- different basins: No, where one basin would give Yes, Same and 12; 11 before it
unfoldable pub other_basins : List Case
unfolding outlet_flow flow
other_basins =
    case (asked_across 1 3) (0 ∷ 0 ∷ [])
    ∷ case (asked_across 5 5) (0 ∷ 0 ∷ [])
    ∷ case (asked_across 9 91) (0 ∷ 0 ∷ [])
    ∷ case (asked_across 105 3 ++ asked_across 3 105) (139 ∷ 139 ∷ 139 ∷ 139 ∷ [])
    ∷ []

-- a unit's basin stands before the digits of its label; units of a list of basins and one of labels, the longer cut
unfoldable pub unit_names : List Case
unfolding basin_and_digits units_in numbers_of
unit_names =
    case (basin_and_digits (short_in 7 91)) (7 ∷ 9 ∷ 1 ∷ [])
    ∷ case (all_basins (units_in (3 ∷ 4 ∷ 5 ∷ []) (short 1 ∷ short 2 ∷ []))) (3 ∷ 4 ∷ [])
    ∷ case (numbers_of (all_labels (units_in (3 ∷ []) (short 1 ∷ short 2 ∷ [])))) (shorts (1 ∷ []))
    ∷ []
  where
    all_basins : List UnitName → List ℕ
    all_basins us = map (λ (u : UnitName). u.basin) us

    all_labels : List UnitName → List Label
    all_labels us = map (λ (u : UnitName). u.label) us

-- The word test: words of codes alone, with all nine among them; a bad byte at either end and in the middle; the first
-- of several; a byte with two bits above bytes of 0, of 128 and of 1. Then the bytes of a number, and a number made of
-- bytes.
unfoldable pub words : List Case
unfolding first_bad_of bytes_of number_at
words =
    case (first_bad_of 0 ∷ first_bad_of 0x8040_2010_0804_0201 ∷ first_bad_of 0x8080_8080_8080_8080 ∷ []) (8 ∷ 8 ∷ 8 ∷ [])
    ∷ case (first_bad_of 3 ∷ first_bad_of 0x0000_0005_0000_0000 ∷ first_bad_of 0xff00_0000_0000_0000 ∷ []) (0 ∷ 4 ∷ 7 ∷ [])
    ∷ case (first_bad_of 0xffff_ffff_ffff_ffff ∷ first_bad_of 0x0600_0900_0000_0c02 ∷ []) (0 ∷ 1 ∷ [])
    ∷ case (first_bad_of 0x0300_0000 ∷ first_bad_of 0x8180_8080 ∷ first_bad_of 0xc001 ∷ []) (3 ∷ 3 ∷ 1 ∷ [])
    ∷ case (bytes_of 4 0x0c03_0201) (1 ∷ 2 ∷ 3 ∷ 12 ∷ [])
    ∷ case (number_at 4 (9 ∷ 1 ∷ 2 ∷ 3 ∷ 12 ∷ 9 ∷ []) 1 ∷ []) (0x0c03_0201 ∷ [])
    ∷ []

abbrev pub all_computed : List Case → List (List ℕ)
all_computed [] = []
all_computed (c ∷ cs) = c.computed ∷ all_computed cs

abbrev pub all_stated : List Case → List (List ℕ)
all_stated [] = []
all_stated (c ∷ cs) = c.stated ∷ all_stated cs
