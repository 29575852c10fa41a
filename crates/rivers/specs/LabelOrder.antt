-- The labels of cells along the order along rivers.
use Rattle.std.specs.Prelude.{◌≡◌, List, ◌≢◌, ℕ, suc, ◌≤◌, ◌<◌, get_or}
use Rattle.sheet.specs.Water.{DrainsTo}
use Rattle.claims.specs.Demand.{Shares}
use Rattle.claims.specs.Dictionary.{NotAfter}
use Rattle.sheet.specs.Answer.{Next}

-- the label of the cell at a position
abbrev pub position_label : List ℕ → (ℕ → List ℕ) → ℕ → List ℕ
position_label cell digits i = digits (get_or cell i 0)

-- the inside cells stand at positions lo to hi, in an order of their labels
pub record InLabelOrder (next : ℕ → Next) (inside : ℕ → Type 0) (digits : ℕ → List ℕ) (cell : List ℕ) (lo hi : ℕ)
    : Type 0 where
  -- the cells at these positions are the inside cells, each once
  pub are_inside : (i : ℕ) → lo ≤ i → i < hi → inside (get_or cell i 0)
  pub all_stand : (c : ℕ) → inside c → (i : ℕ) × (lo ≤ i) × (i < hi) × (get_or cell i 0 ≡ c)
  pub once : (i j : ℕ) → lo ≤ i → i < hi → lo ≤ j → j < hi → get_or cell i 0 ≡ get_or cell j 0 → i ≡ j
  -- labels never fall in dictionary order
  pub never_fall : (i j : ℕ) → lo ≤ i → i ≤ j → j < hi
      → NotAfter (position_label cell digits i) (position_label cell digits j)
  -- equal ones stand side by side
  pub side_by_side : (i k j : ℕ) → lo ≤ i → i ≤ k → k ≤ j → j < hi
      → position_label cell digits i ≡ position_label cell digits j
      → position_label cell digits k ≡ position_label cell digits i
  -- the first of them is the outlet of the unit: the cell to which the cells with this label drain, through each other
  pub first_is_outlet : (i : ℕ) → lo ≤ i → i < hi
      → ((k : ℕ) → lo ≤ k → suc k ≡ i → position_label cell digits k ≢ position_label cell digits i)
      → DrainsTo next (Shares inside digits (position_label cell digits i)) (get_or cell i 0)
