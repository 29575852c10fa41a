-- What labelling asks of a network, for any order of cells by weight.
use Rattle.std.specs.Prelude.{◌≡◌, Bool, true, false, ℕ, suc, ◌<◌, Some}
use Rattle.std.proofs.Math.Option.{Option, none, some}
use mathlib.Core.List.{List, [], ◌∷◌, Memᴰ}
use Rattle.sheet.specs.Unit.{taken}
use Rattle.sheet.specs.River.{donors, Run, Network}
use Rattle.claims.specs.Runs.{MouthOf, Above}

-- each cell of the list is heavier than the one before it, the first than `old`
pub data Rising (heavier : ℕ → ℕ → Bool) : Option ℕ → List ℕ → Type 0 where
  rising_end : {old : Option ℕ} → Rising heavier old []
  rising_cons : {old : Option ℕ} {u : ℕ} {us : List ℕ} → Above heavier old u → Rising heavier (some u) us
      → Rising heavier old (u ∷ us)

pub record Lawful (N : Network) (heavier : ℕ → ℕ → Bool) : Type 0 where
  -- the number of steps to the outlet falls by one at each step, and is less than the number of cells
  pub dist : ℕ → ℕ
  pub falls : (u r : ℕ) → N.next u ≡ Some r → dist u ≡ suc (dist r)
  pub short : (u : ℕ) → dist u < N.cells
  -- the donors of a cell are the cells whose step ends on it, from lightest to heaviest
  pub donor_steps : (c u : ℕ) → Memᴰ u (donors N c) → N.next u ≡ Some c
  pub donors_complete : (c u : ℕ) → N.next u ≡ Some c → Memᴰ u (donors N c)
  pub donors_rising : (c : ℕ) → Rising heavier none (donors N c)
  -- no cell is heavier than itself, and what is heavier than a heavier cell is heavier
  pub lighter : (u v w : ℕ) → heavier w v ≡ true → heavier v u ≡ true → heavier w u ≡ true
  pub unlike : (u : ℕ) → heavier u u ≡ false
  -- a mouth of a run that is heavier than one taken of it is taken
  pub upward : (R : Run) (u v : ℕ) → MouthOf R v → taken N R v ≡ true → MouthOf R u → heavier u v ≡ true
      → taken N R u ≡ true
