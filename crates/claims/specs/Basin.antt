-- What the general theorems ask of a network: its inside cells drain to outlets, and counted mouths are closed upwards;
-- and the basin of one of its outlets.
use Rattle.std.specs.Prelude.{◌≡◌, true, ℕ, suc, ◌<◌, None, Some}
use Rattle.sheet.specs.Water.{Passes}
use Rattle.sheet.specs.River.{Network, heavier}
use Rattle.sheet.specs.Answer.{Next}

-- the way of a cell comes to an outlet within n cells
pub data Ends (next : ℕ → Next) : ℕ → ℕ → Type 0 where
  ends_here : {n c : ℕ} → next c ≡ None → Ends next (suc n) c
  ends_after : {n c r : ℕ} → next c ≡ Some r → Ends next n r → Ends next (suc n) c

-- the inside cells drain to outlets
pub record Forest (N : Network) (inside : ℕ → Type 0) : Type 0 where
  pub some : 0 < N.cells
  pub small : (u : ℕ) → inside u → u < N.cells
  pub from_inside : (u r : ℕ) → N.next u ≡ Some r → inside u
  pub to_inside : (u r : ℕ) → N.next u ≡ Some r → inside r
  pub ends : (u : ℕ) → inside u → (k : ℕ) × Ends N.next k u
  -- a mouth that is heavier than one that counts, counts
  pub upwards : (u v : ℕ) → heavier N u v ≡ true → N.counted v ≡ true → N.counted u ≡ true

-- the basin of one of its outlets
pub record Basin (N : Network) (inside : ℕ → Type 0) (outlet : ℕ) : Type 0 where
  pub forest : Forest N inside
  pub outlet_inside : inside outlet
  pub ends_there : N.next outlet ≡ None

-- a cell of the basin of an outlet: an inside cell whose water comes to it
pub record InBasin (N : Network) (inside : ℕ → Type 0) (outlet c : ℕ) : Type 0 where
  pub is_inside_lem : inside c
  pub comes : Passes N.next c outlet
