-- What labelling a unit leaves in a list of labels.
use Rattle.std.specs.Prelude.{Bool, true, false, cond, List, [], ◌∷◌, ◌++◌, ℕ, zero, suc, eqb, get_or}
use Rattle.sheet.specs.River.{Network, Run}
use Rattle.sheet.specs.declared.Label.{Label}
use Rattle.sheet.specs.Record.{record_of, place_at, number_in}
use Rattle.sheet.specs.Label.{holds, label}

-- the list with f c at each place c that passes the test, and its own value elsewhere; its places are counted from i
unfoldable pub relabelled_from : (ℕ → Bool) → (ℕ → ℕ) → ℕ → List ℕ → List ℕ
relabelled_from test f i [] = []
relabelled_from test f i (x ∷ l) = let r = relabelled_from test f (suc i) l in cond (test i) (f i) x ∷ r

unfoldable pub relabelled : (ℕ → Bool) → (ℕ → ℕ) → List ℕ → List ℕ
unfolding relabelled_from
relabelled test f l = relabelled_from test f 0 l

-- a slice of labels in which the cells that pass the test have the labels f; every other number keeps its value
unfoldable pub cells_labelled : (ℕ → Bool) → (ℕ → Label) → List ℕ → List ℕ
cells_labelled test f l = relabelled (λ i. test (place_at i)) (number_in f) l

-- the cells that a unit holds have their labels: the digits gathered, and at most `digits` more
unfoldable pub unit_labelled : Network → Run → ℕ → List ℕ → List ℕ → List ℕ
unfolding holds label record_of
unit_labelled N R digits gathered l = cells_labelled (holds N R) (λ c. record_of (gathered ++ label N digits R c)) l

-- c stands at one of the n positions of the layout from lo on
unfoldable pub stands : List ℕ → ℕ → ℕ → ℕ → Bool
stands cell lo zero c = false
stands cell lo (suc n) c = let r = stands cell (suc lo) n c in cond (eqb (get_or cell lo 0) c) true r
