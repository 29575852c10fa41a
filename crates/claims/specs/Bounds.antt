-- Bounds of areas and labels, and what it means that the fuel of the definitions is enough.
use Rattle.std.specs.Prelude.{◌≡◌, true, List, [], ◌∷◌, ◌↔◌, ℕ, ◌+◌, ◌≤◌, ◌<◌, ◌^◌, get_or}
use Rattle.sheet.specs.Sheet.{Grid, Sheet, cells, inside, next, is_outlet}
use Rattle.sheet.specs.Water.{Passes, passes}
use Rattle.sheet.specs.Area.{count, sum_over, drains_into, weight, area}
use Rattle.sheet.specs.River.{network, donors, river_within, river}
use Rattle.sheet.specs.Record.{label_at}
use Rattle.sheet.specs.Label.{outlet_of}
use Rattle.sheet.specs.Refusal.{undrained}
use Rattle.sheet.specs.Flow.{is_label}
use Rattle.claims.specs.Demand.{Inside}

-- the water of a cell comes to an outlet
pub record ComesToOutlet (G : Grid) (c : ℕ) : Type 0 where
  pub cell : ℕ
  pub passed : Passes (next G) c cell
  pub is_outlet_lem : is_outlet G cell ≡ true

-- refusal 6: an inside cell never reaches an outlet
pub record NeverComes (G : Grid) (c : ℕ) : Type 0 where
  pub is_inside_lem : inside G c ≡ true
  pub never : ¬ ComesToOutlet G c

-- to follow water for as many cells as the sheet has (the fuel of the tests) is enough, on every grid
pub record FuelIsEnough (G : Grid) : Type 0 where
  pub passes_is : (q p : ℕ) → inside G q ≡ true → (passes (next G) (cells G) q p ≡ true) ↔ Passes (next G) q p
  pub undrained_is : (c : ℕ) → (undrained G c ≡ true) ↔ NeverComes G c
  -- the outlet that an inside cell's water comes to, if it comes to one
  pub outlet_is : (c : ℕ) → inside G c ≡ true → (o : ComesToOutlet G c) → outlet_of G c ≡ o.cell

-- the river lists of an accepted sheet are whole: more fuel adds nothing
pub record RiversAreWhole (S : Sheet) : Type 0 where
  pub whole : (m k : ℕ) → river_within (network S) (cells S.grid + k) m ≡ river (network S) m

unfoldable pub sum : (ℕ → ℕ) → List ℕ → ℕ
sum f [] = 0
sum f (u ∷ us) = f u + sum f us

-- 256 × 256 × 1000: no area is larger. The sheet of 256 by 256 inside cells, each of weight 1000, has it at its outlet
abbrev pub most_area : ℕ
most_area = 65536000

-- the areas of an accepted sheet
pub record AreaBounds (S : Sheet) : Type 0 where
  pub least : (c : ℕ) → Inside S c → 1 ≤ area S c
  -- the weights of all inside cells together, which are at most 256 × 256 × 1000
  pub most : (c : ℕ) → Inside S c → area S c ≤ sum_over (cells S.grid) (inside S.grid) (weight S)
  pub most_of_all : sum_over (cells S.grid) (inside S.grid) (weight S) ≤ most_area
  -- a cell's own weight, and the areas of its donors
  pub donors_add : (c : ℕ) → Inside S c → area S c ≡ weight S c + sum (area S) (donors (network S) c)

-- "without weights each is 1": each area is then the count of inside cells, itself included, whose water passes it
abbrev pub Unweighted : Sheet → Type 0
Unweighted S = (row : ℕ) → row < S.grid.rows → get_or S.weights row 0 ≡ 1

pub record UnweightedAreas (S : Sheet) : Type 0 where
  pub counts : (c : ℕ) → Inside S c → area S c ≡ count (cells S.grid) (drains_into S.grid c)
  pub most : (c : ℕ) → Inside S c → area S c ≤ count (cells S.grid) (inside S.grid)

-- the labels that were written for a sheet: no digit is 0, there are no more than the depth, and 64 bits hold each
-- number
pub record LabelBounds (S : Sheet) (labels : List ℕ) : Type 0 where
  pub is_label_lem : (c : ℕ) → Inside S c → is_label S.depth (label_at labels c) ≡ true
  pub first_fits : (c : ℕ) → Inside S c → (label_at labels c).first < 2 ^ 64
  pub rest_fits : (c : ℕ) → Inside S c → (label_at labels c).rest < 2 ^ 64
