-- The outcome of labelling: document 01's refusals 1 to 6 in order, with their places, with document 02's 19 straight
-- after 2 and 17 straight after 3, and what each lent slice holds afterwards. Document 02 ends refusal 7; its number
-- stays unused.
use Rattle.std.specs.Prelude.{Bool, true, false, cond, not, List, ◌++◌, ℕ, zero, suc, ◌*◌, leb, eqb, length, drop, replicate, get_or, Err, None, Some}
use Rattle.sheet.specs.Direction.{is_code}
use Rattle.sheet.specs.Sheet.{Grid, Sheet, cells, dir_at, inside, next, first}
use Rattle.sheet.specs.Water.{reaches_outlet}
use Rattle.sheet.specs.Record.{label_places}
use Rattle.sheet.specs.Basins.{basin_areas, basin_labels, basins_of}
use Rattle.sheet.specs.Answer.{Found, Outcome, Accepted, Refused}

-- what is lent to labelling beside the directions and weights: areas (32-bit), labels (64-bit, two numbers each),
-- basins (32-bit), work places (32-bit)
pub record Lent : Type 0 where
  pub areas : List ℕ
  pub labels : List ℕ
  pub basins : List ℕ
  pub work : List ℕ

abbrev pub both : Bool → Bool → Bool
both a b = cond a b false

-- from 1 to most
unfoldable pub within : ℕ → ℕ → Bool
within most x = both (leb 1 x) (leb x most)

-- checks 1, 2, 19 and 3
unfoldable pub sizes_fit : ℕ → ℕ → Bool
unfolding within
sizes_fit rows cols = both (within 256 rows) (within 256 cols)

unfoldable pub depth_fits : ℕ → Bool
unfolding within
depth_fits depth = within 36 depth

-- 19: least outside 1 to 65,536,000, or split outside 1 to 4
unfoldable pub least_fits : ℕ → Bool
unfolding within
least_fits least = within 65536000 least

unfoldable pub split_fits : ℕ → Bool
unfolding within
split_fits split = within 4 split

unfoldable pub least_and_split_fit : ℕ → ℕ → Bool
unfolding least_fits split_fits
least_and_split_fit least split = both (least_fits least) (split_fits split)

-- with n = rows × columns: n directions, one weight a row, n areas, n labels, n basins, 8n work places
unfoldable pub slices_fit : Sheet → Lent → Bool
unfolding label_places
slices_fit S L =
    let n = cells S.grid in
    both (leb n (length S.grid.dirs))
    (both (leb S.grid.rows (length S.weights))
    (both (leb n (length L.areas))
    (both (leb n (label_places (length L.labels)))
    (both (leb n (length L.basins)) (leb (8 * n) (length L.work))))))

-- 17: a weight outside 1 to 1000
unfoldable pub weight_fits : ℕ → Bool
unfolding within
weight_fits weight = within 1000 weight

-- of the first weights, as many as there are rows; those past the rows are not looked at
unfoldable pub weights_fit : ℕ → List ℕ → Bool
unfolding weight_fits
weights_fit zero weights = true
weights_fit (suc row) weights = let rest = weights_fit row weights in both rest (weight_fits (get_or weights row 0))

-- the cells for which 4, 5 and 6 look
unfoldable pub bad_code : Grid → ℕ → Bool
unfolding is_code
bad_code G c = not (is_code (dir_at G c))

unfoldable pub undrained : Grid → ℕ → Bool
unfolding inside next reaches_outlet
undrained G c = both (inside G c) (not (reaches_outlet (next G) (cells G) c))

-- refused where a cell was found, by its number; else what follows
unfoldable pub refused_at : ℕ → Found → Outcome → Outcome
refused_at number (Some c) rest = Refused number c
refused_at number None rest = rest

unfoldable pub refused_if_none : ℕ → Found → Outcome → Outcome
refused_if_none number (Some c) rest = rest
refused_if_none number None rest = Refused number 0

-- 4, 5 and 6, in this order: a bad direction, no cell inside, a cell that never reaches an outlet
unfoldable pub outcome_on : Grid → Outcome
unfolding refused_at refused_if_none first bad_code inside undrained
outcome_on G =
    refused_at 4 (first (bad_code G) (cells G))
    (refused_if_none 5 (first (inside G) (cells G)) (refused_at 6 (first (undrained G) (cells G)) Accepted))

-- 17, with place 0, then 4 to 6
unfoldable pub outcome_from17 : Sheet → Outcome
unfolding weights_fit outcome_on
outcome_from17 S =
    let rest : Outcome = outcome_on S.grid in cond (weights_fit S.grid.rows S.weights) rest (Refused 17 0)

-- 3, with place 0, before 17
unfoldable pub outcome_from3 : Sheet → Lent → Outcome
unfolding slices_fit outcome_from17
outcome_from3 S L = let rest : Outcome = outcome_from17 S in cond (slices_fit S L) rest (Refused 3 0)

-- the number of the first of checks 1, 2 and 19 that fails; 0 if none does
unfoldable pub sheet_fault : ℕ → ℕ → ℕ → ℕ → ℕ → ℕ
unfolding sizes_fit depth_fits least_and_split_fit
sheet_fault rows cols depth least split =
    cond (sizes_fit rows cols) (cond (depth_fits depth) (cond (least_and_split_fit least split) 0 19) 2) 1

abbrev pub fault_of : Sheet → ℕ
fault_of S = sheet_fault S.grid.rows S.grid.cols S.depth S.least S.split

-- 1, 2 and 19, with place 0, before 3
unfoldable pub outcome : Sheet → Lent → Outcome
unfolding sheet_fault outcome_from3
outcome S L =
    let fault : ℕ = fault_of S in
    let rest : Outcome = outcome_from3 S L in
    cond (eqb fault 0) rest (Refused fault 0)

-- document 01's number and place of an outcome; both are 0 where it is accepted
pub record OutcomeValues : Type 0 where
  pub number : ℕ
  pub place : ℕ

abbrev pub outcome_values : Outcome → OutcomeValues
outcome_values Accepted = record { number = 0; place = 0 }
outcome_values (Err refusal) = record { number = refusal.number; place = refusal.place }

-- the first places of a slice written with new values; the others keep theirs
abbrev pub written : List ℕ → List ℕ → List ℕ
written new old = new ++ drop (length new) old

abbrev pub if_accepted : Outcome → List ℕ → List ℕ → List ℕ
if_accepted Accepted new old = written new old
if_accepted (Err refusal) new old = old

-- what the lent slices hold after labelling: areas, labels and basins are written where it is accepted, and the first
-- 8n work places are 0 once check 3 is passed
unfoldable pub lent_after : Sheet → Lent → Lent
unfolding outcome sheet_fault slices_fit basin_areas basin_labels basins_of
lent_after S L = record {
  areas = if_accepted (outcome S L) (basin_areas S) L.areas;
  labels = if_accepted (outcome S L) (basin_labels S) L.labels;
  basins = if_accepted (outcome S L) (basins_of S.grid) L.basins;
  work =
      cond (both (eqb (fault_of S) 0) (slices_fit S L))
      (written (replicate (8 * cells S.grid) 0) L.work) L.work;
}
