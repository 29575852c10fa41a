-- Document 01's labels: the digits of a cell; and document 02's records of them.
use Rattle.std.specs.Prelude.{Bool, true, false, cond, List, [], ◌∷◌, ℕ, zero, suc, eqb, None, Some}
use Rattle.sheet.specs.declared.Label.{Label}
use Rattle.sheet.specs.Record.{record_of, no_digits, numbers_of}
use Rattle.sheet.specs.Sheet.{Grid, Sheet, cells, inside, next}
use Rattle.sheet.specs.Water.{passes, way_end}
use Rattle.sheet.specs.Area.{area}
use Rattle.sheet.specs.River.{Network, network, stem, mouth, Run, river}
use Rattle.sheet.specs.Unit.{Parts, last, part, parts, finished}
use Rattle.sheet.specs.Answer.{Found}

-- the water of c passes v
unfoldable pub passes_in : Network → ℕ → ℕ → Bool
unfolding passes
passes_in N c v = passes N.next N.cells c v

-- the run holds c: c is a stem cell of it, or lies in the tributary of a mouth of it
unfoldable pub holds : Network → Run → ℕ → Bool
unfolding passes_in
holds N [] c = false
holds N (stem s ∷ R) c = let r = holds N R c in cond (eqb c s) true r
holds N (mouth v ∷ R) c = let r = holds N R c in cond (passes_in N c v) true r

-- a digit, and the unit that a cell with this digit lies in
pub record Place : Type 0 where
  pub digit : ℕ
  pub unit : Run

abbrev pub placed : ℕ → Run → Place
placed digit unit = record { digit = digit; unit = unit }

-- where c lies, of parts whose digits begin after k: runs have odd digits, taken mouths even ones, empty runs keep
-- theirs; an even digit goes to the whole tributary, whose river starts at that mouth
unfoldable pub place_in : Network → ℕ → Parts → ℕ → Place
unfolding passes_in holds river
place_in N k (last R) c = placed (suc k) R
place_in N k (part R v P) c =
    let later : Place = place_in N (suc (suc k)) P c in
    let tributary : Place = placed (suc (suc k)) (river N v) in
    let rest : Place = cond (passes_in N c v) tributary later in
    cond (holds N R c) (placed (suc k) R) rest

-- where c lies in a unit that is not finished: digits 1 to 2k + 1 for k taken mouths
unfoldable pub place_of : Network → Run → ℕ → Place
unfolding place_in parts
place_of N R c = place_in N 0 (parts N R) c

-- the digits of c in a unit; they stop when the unit is finished or the depth is reached
unfoldable pub label : Network → ℕ → Run → ℕ → List ℕ
unfolding place_of finished
label N zero R c = []
label N (suc depth) R c =
    let p : Place = place_of N R c in
    let digits : List ℕ = p.digit ∷ label N depth p.unit c in
    cond (finished N R) [] digits

abbrev pub cell_found : Found → ℕ
cell_found (Some c) = c
cell_found None = 0

-- the outlet that an inside cell's water comes to
unfoldable pub outlet_of : Grid → ℕ → ℕ
unfolding next way_end
outlet_of G c = way_end (next G) (cells G) c

-- the digits of an inside cell's label, from the river of its outlet on, cut to the depth that the sheet names
unfoldable pub label_digits : Sheet → ℕ → List ℕ
unfolding network river outlet_of label
label_digits S c = label (network S) S.depth (river (network S) (outlet_of S.grid c)) c

-- "label" of a cell; outside cells have no digits
unfoldable pub label_of : Sheet → ℕ → Label
unfolding inside label_digits record_of
label_of S c = cond (inside S.grid c) (record_of (label_digits S c)) no_digits

-- the values of a function at the m cells from i on
unfoldable pub list_from : {A : Type 0} → (ℕ → A) → ℕ → ℕ → List A
list_from f i zero = []
list_from f i (suc m) = f i ∷ list_from f (suc i) m

-- the areas and the labels of all cells worked out on the whole sheet, in reading order; of the labels, the numbers
-- that a slice holds. Basins.antt has those that labelling writes, each basin by itself; they are the same
-- (claims/proofs/Alone.antt)
unfoldable pub areas_of : Sheet → List ℕ
unfolding list_from area
areas_of S = list_from (area S) 0 (cells S.grid)

unfoldable pub labels_of : Sheet → List ℕ
unfolding list_from label_of numbers_of
labels_of S = numbers_of (list_from (label_of S) 0 (cells S.grid))
