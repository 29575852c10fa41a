-- Places where two labels part, the digit rule there, and leading digits.
use Rattle.std.specs.Prelude.{◌≡◌, true, List, [], ◌∷◌, ◌≢◌, ℕ, ◌≤◌, ◌<◌, length, get_or}
use Rattle.sheet.specs.Flow.{is_odd}

-- two labels "part" at i, counted from 0: the first place where both have a digit and the digits differ
pub record PartAt (x y : List ℕ) (i : ℕ) : Type 0 where
  pub in_x : i < length x
  pub in_y : i < length y
  pub before : (j : ℕ) → j < i → get_or x j 0 ≡ get_or y j 0
  pub differ : get_or x i 0 ≢ get_or y i 0

-- at that place the digit of x is smaller, and the digits of x from there on are all odd
pub record RuleAt (x y : List ℕ) (i : ℕ) : Type 0 where
  pub smaller : get_or x i 0 < get_or y i 0
  pub odd : (j : ℕ) → i ≤ j → j < length x → is_odd (get_or x j 0) ≡ true

-- the digit rule is met: the labels part, and the rule holds there
pub record MeetsRule (x y : List ℕ) : Type 0 where
  pub place : ℕ
  pub part : PartAt x y place
  pub rule : RuleAt x y place

-- x begins with the leading digits w
pub data Begins : List ℕ → List ℕ → Type 0 where
  begins_none : {x : List ℕ} → Begins [] x
  begins_on : {a : ℕ} {w x : List ℕ} → Begins w x → Begins (a ∷ w) (a ∷ x)
