-- Positions of cells in the order along rivers.
use Rattle.std.specs.Prelude.{◌≡◌, List, [], ◌∷◌, ℕ, suc, ◌+◌}
use Rattle.sheet.specs.River.{Network, donors}
use Rattle.claims.specs.Bounds.{sum}

-- the cells of a list stand one after the other from position lo on, and each takes as many positions as its size
pub data Consecutive (size pos : ℕ → ℕ) : ℕ → List ℕ → Type 0 where
  none : {lo : ℕ} → Consecutive size pos lo []
  next : {lo u : ℕ} {us : List ℕ} → pos u ≡ lo → Consecutive size pos (lo + size u) us
      → Consecutive size pos lo (u ∷ us)

-- preorder: after each cell stand its donors from lightest to heaviest, each with all cells whose water passes it
pub record Preorder (N : Network) (inside : ℕ → Type 0) (size pos : ℕ → ℕ) : Type 0 where
  pub adds : (c : ℕ) → inside c → size c ≡ suc (sum size (donors N c))
  pub follow : (c : ℕ) → inside c → Consecutive size pos (pos c + 1) (donors N c)
