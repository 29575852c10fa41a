-- Which mouths of a unit are taken, by their keys.
use Rattle.std.specs.Prelude.{◌≡◌, Bool, List, ℕ, ◌+◌, ◌*◌, leb, get_or}
use Rattle.sheet.specs.River.{Network, Run}
use Rattle.sheet.specs.Unit.{finished, taken}
use Rattle.claims.specs.Runs.{MouthOf}

-- the key of a cell: of cells below 65536 the heavier has the larger key
abbrev pub key_by : (ℕ → ℕ) → ℕ → ℕ
key_by area c = area c * 65536 + c

-- the key of a cell by a list of the areas of all cells
abbrev pub key_in : List ℕ → ℕ → ℕ
key_in area c = key_by (λ c. get_or area c 0) c

-- the key of the cell at a position
abbrev pub key_at : List ℕ → List ℕ → ℕ → ℕ
key_at cell area j = key_in area (get_or cell j 0)

-- `done`: the unit is finished; `key`: the least key that is taken
pub record CutOf (N : Network) (R : Run) (done : Bool) (key : ℕ) : Type 0 where
  pub finishes : finished N R ≡ done
  pub takes : (v : ℕ) → MouthOf R v → taken N R v ≡ leb key (key_by N.area v)
