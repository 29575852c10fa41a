-- The network of a grid by a list of the areas of its cells.
use Rattle.std.specs.Prelude.{List, ℕ, get_or, take}
use Rattle.sheet.specs.Sheet.{Grid, cells, next}
use Rattle.sheet.specs.Area.{heavier_by}
use Rattle.sheet.specs.River.{Network, network_by, donors_below}

-- the area of a cell, by a list of those of n cells
abbrev pub area_in : ℕ → List ℕ → ℕ → ℕ
area_in n areas c = get_or (take n areas) c 0

-- the donors of a cell, from lightest to heaviest
abbrev pub donors_in : Grid → List ℕ → ℕ → List ℕ
donors_in G areas c = donors_below (next G) (heavier_by (area_in (cells G) areas)) (cells G) c

-- the network, whatever the least area that counts and however many mouths of a unit are taken
abbrev pub network_in : Grid → List ℕ → ℕ → ℕ → Network
network_in G areas least split = network_by G (area_in (cells G) areas) least split
