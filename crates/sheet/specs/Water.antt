-- Document 01's way of a cell's water: what it passes, where it drains to, and the tests that compute the same.
use Rattle.std.specs.Prelude.{◌≡◌, Bool, true, false, cond, ℕ, zero, suc, eqb, None, Some}
use Rattle.sheet.specs.Answer.{Next}

-- "water from q passes p": p is on q's way, which is q and then, as long as the last is no outlet, the cell its step
-- ends on
pub data Passes (next : ℕ → Next) : ℕ → ℕ → Type 0 where
  here : {p : ℕ} → Passes next p p
  there : {q r p : ℕ} → next q ≡ Some r → Passes next r p → Passes next q p

-- the way of x comes to c and holds none but cells of S up to there
pub data Drains (next : ℕ → Next) (S : ℕ → Type 0) : ℕ → ℕ → Type 0 where
  drained : {c : ℕ} → S c → Drains next S c c
  drains_on : {x r c : ℕ} → S x → next x ≡ Some r → Drains next S r c → Drains next S x c

-- c is a cell of S to which the cells of S drain, through cells of S
pub record DrainsTo (next : ℕ → Next) (S : ℕ → Type 0) (c : ℕ) : Type 0 where
  pub among : S c
  pub drains : (x : ℕ) → S x → Drains next S x c

-- go on with f to the cell that water goes to, if there is one
unfoldable pub onward : {A : Type 0} → Next → A → (ℕ → A) → A
onward None a f = a
onward (Some r) a f = f r

-- is p among the first n + 1 cells of q's way?
unfoldable pub passes : (ℕ → Next) → ℕ → ℕ → ℕ → Bool
unfolding onward
passes next zero q p = eqb q p
passes next (suc n) q p = let r = onward (next q) false (λ r. passes next n r p) in cond (eqb q p) true r

-- is there an outlet among the first n cells of q's way?
unfoldable pub reaches_outlet : (ℕ → Next) → ℕ → ℕ → Bool
unfolding onward
reaches_outlet next zero q = false
reaches_outlet next (suc n) q = onward (next q) true (λ r. reaches_outlet next n r)

-- the outlet that q's way comes to within n steps, or where it is then
unfoldable pub way_end : (ℕ → Next) → ℕ → ℕ → ℕ
unfolding onward
way_end next zero q = q
way_end next (suc n) q = onward (next q) q (λ r. way_end next n r)
