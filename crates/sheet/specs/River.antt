-- Document 01's rivers: the donors of a cell in order, stem cells, mouths of tributaries, and the river list.
use Rattle.std.specs.Prelude.{Bool, false, cond, List, [], ◌∷◌, ℕ, zero, suc, eqb, leb, None, Some}
use Rattle.sheet.specs.Sheet.{Grid, Sheet, cells, next}
use Rattle.sheet.specs.Area.{area, heavier_by}
use Rattle.sheet.specs.Answer.{Next}

-- what rivers, units and labels are worked out from
pub record Network : Type 0 where
  pub cells : ℕ  -- all cell numbers are below this
  pub next : ℕ → Next
  pub area : ℕ → ℕ
  pub counted : ℕ → Bool  -- is this mouth counted in a split?
  pub split : ℕ  -- how many of the counted mouths of a unit are taken, at most

-- the drainage network of a grid by the areas of its cells; a mouth counts if its area is at least `least`
unfoldable pub network_by : Grid → (ℕ → ℕ) → ℕ → ℕ → Network
unfolding next
network_by G area least split = record {
  cells = cells G;
  next = next G;
  area = area;
  counted = λ v. leb least (area v);
  split = split;
}

-- the drainage network of a sheet; areas are those of the whole basin
unfoldable pub network : Sheet → Network
unfolding area network_by
network S = network_by S.grid (area S) S.least S.split

abbrev pub heavier : Network → ℕ → ℕ → Bool
heavier N u v = heavier_by N.area u v

-- the list with u put in its place, from lightest to heaviest
unfoldable pub insert : (ℕ → ℕ → Bool) → ℕ → List ℕ → List ℕ
insert heavier u [] = u ∷ []
insert heavier u (v ∷ vs) = let r = insert heavier u vs in cond (heavier u v) (v ∷ r) (u ∷ v ∷ vs)

unfoldable pub ends_on : Next → ℕ → Bool
ends_on None c = false
ends_on (Some r) c = eqb r c

-- the donors of c among the first n cells, from lightest to heaviest
unfoldable pub donors_below : (ℕ → Next) → (ℕ → ℕ → Bool) → ℕ → ℕ → List ℕ
unfolding insert ends_on
donors_below next heavier zero c = []
donors_below next heavier (suc n) c =
    let r = donors_below next heavier n c in
    cond (ends_on (next n) c) (insert heavier n r) r

-- "donor" of a cell: an inside cell whose step ends on it; from lightest to heaviest
unfoldable pub donors : Network → ℕ → List ℕ
unfolding donors_below heavier_by
donors N c = donors_below N.next (heavier N) N.cells c

-- an entry of a river list
pub data Entry : Type 0 where
  stem : ℕ → Entry
  mouth : ℕ → Entry

-- a run of a river list
abbrev pub Run : Type 0
Run = List Entry

-- after a stem cell: the mouths of its tributaries from lightest to heaviest, then the river from its heaviest donor
unfoldable pub upstream : (ℕ → Run) → List ℕ → Run
upstream river [] = []
upstream river (u ∷ []) = river u
upstream river (u ∷ w ∷ us) = mouth u ∷ upstream river (w ∷ us)

-- the first n stem cells of the river from m, with the mouths after each
unfoldable pub river_within : Network → ℕ → ℕ → Run
unfolding upstream donors
river_within N zero m = []
river_within N (suc n) m = stem m ∷ upstream (river_within N n) (donors N m)

-- "river list" of the river whose mouth is m
unfoldable pub river : Network → ℕ → Run
unfolding river_within
river N m = river_within N N.cells m
