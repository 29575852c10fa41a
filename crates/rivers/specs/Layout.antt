-- A layout of a network's cells along its rivers: preorder, the donors of each cell from lightest to heaviest.
-- `cell` has the cell at each position and `size` the number of cells whose water passes it: the subtree of position j
-- is [j, j + size j).
use Rattle.std.specs.Prelude.{◌≡◌, List, [], ◌∷◌, ◌≢◌, ℕ, ◌+◌, ◌≤◌, ◌<◌, leb, length, get_or}
use Rattle.sheet.specs.Water.{Passes}
use Rattle.sheet.specs.River.{Network, stem, mouth, Run, river}

-- the run lies at positions lo to hi of a river whose subtree ends at `end`: a stem cell's subtree ends there too, a
-- mouth's ends before
pub data Laid (cell size : List ℕ) (end : ℕ) : ℕ → ℕ → Run → Type 0 where
  laid_end : {lo : ℕ} → Laid cell size end lo lo []
  laid_stem : {lo hi : ℕ} {R : Run} → lo + get_or size lo 0 ≡ end → Laid cell size end (lo + 1) hi R
      → Laid cell size end lo hi (stem (get_or cell lo 0) ∷ R)
  laid_mouth : {lo hi : ℕ} {R : Run} → lo + get_or size lo 0 ≢ end → Laid cell size end (lo + get_or size lo 0) hi R
      → Laid cell size end lo hi (mouth (get_or cell lo 0) ∷ R)

-- what the code needs of the two slices to stay within them; `count` cells have places for labels
pub record Layout (cell size : List ℕ) (count : ℕ) : Type 0 where
  pub sized : length size ≡ length cell
  pub some : (j : ℕ) → j < length cell → 1 ≤ get_or size j 0
  pub within : (j : ℕ) → j < length cell → j + get_or size j 0 ≤ length cell
  pub on : (j : ℕ) → j < length cell → get_or cell j 0 < count
  pub small : (j : ℕ) → j < length cell → get_or cell j 0 < 65536
  pub apart : (i j : ℕ) → i < length cell → j < length cell → get_or cell i 0 ≡ get_or cell j 0 → i ≡ j

-- the layout is that of a network, with the areas of its cells, `split` mouths taken of a unit and `least` the smallest
-- area that counts
pub record LayoutOf (N : Network) (cell size area : List ℕ) (split least : ℕ) : Type 0 where
  pub rivers : (j : ℕ) → j < length cell
      → Laid cell size (j + get_or size j 0) j (j + get_or size j 0) (river N (get_or cell j 0))
  -- the cells of a subtree are those whose water passes its first
  pub passing : (i j : ℕ) → j ≤ i → i < j + get_or size j 0 → j < length cell
      → Passes N.next (get_or cell i 0) (get_or cell j 0)
  pub covering : (c j : ℕ) → j < length cell → Passes N.next c (get_or cell j 0)
      → (i : ℕ) × (j ≤ i) × (i < j + get_or size j 0) × (get_or cell i 0 ≡ c)
  pub area_is : (j : ℕ) → j < length cell → get_or area (get_or cell j 0) 0 ≡ N.area (get_or cell j 0)
  pub counted_is : (j : ℕ) → j < length cell → N.counted (get_or cell j 0) ≡ leb least (N.area (get_or cell j 0))
  pub split_is : N.split ≡ split
