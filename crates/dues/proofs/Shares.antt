-- Laws of dues by the weights of units: what stands at each place, what they add up to, and how far each lies from its
-- exact share.
use mathlib.Core.Path.{◌≡◌, refl, ◌∙◌, ap}
use mathlib.Core.List.{List, [], ◌∷◌}
use Prim.Native.Nat.{ℕ, zero, suc, ◌+◌, ◌*◌, ◌-◌, ◌/◌, ◌≤◌, ◌<◌}
use native.Mathlib.Nat.{mul-add, add-mul, mul-zero, mul-le-mul, zero-div, div-add-mod', div-lt_iff_lt-mul, mod-lt}
use native.Mathlib.Nat.{lt-div-mul-add, zero-add}
use native.Mathlib.Omega.{arith}
use lib.ListN.{length, get_or, take}
use Rattle.claims.specs.Bounds.{sum, most_area}
use Rattle.dues.specs.Levy.{greatest_total}
use Rattle.dues.specs.Steps.{dues_by}

-- no product of a total and a weight of a sheet reaches 2 ^ 63
pub product_most : {total weight : ℕ} → total ≤ greatest_total → weight ≤ most_area
    → total * weight ≤ 6553600000000000000
product_most l m = mul-le-mul l m

-- the weights of the first k units together
abbrev pub up_to : List ℕ → ℕ → ℕ
up_to ws k = sum (λ w. w) (take k ws)

pub upto_more : (ws : List ℕ) (k : ℕ) → k < length ws → up_to ws (suc k) ≡ up_to ws k + get_or ws k 0
unfolding sum
upto_more [] k l = absurd (omega arith)
upto_more (w ∷ ws) zero l = omega arith
upto_more (w ∷ ws) (suc k) l = omega (arith, upto_more ws k (omega arith))

module _ (total whole : ℕ) where
  -- what units of this weight owe together
  abbrev pub owed : ℕ → ℕ
  owed weight = total * weight / whole

  pub owed_none : owed 0 ≡ 0
  owed_none = rw (mul-zero total) (zero-div whole)

  pub dues_length : (before : ℕ) (ws : List ℕ) → length (dues_by total whole before ws) ≡ length ws
  unfolding dues_by
  dues_length before [] = refl
  dues_length before (w ∷ ws) = ap suc (dues_length (before + w) ws)

  -- what stands at each place
  pub dues_at : (before : ℕ) (ws : List ℕ) (k : ℕ) → k < length ws → get_or (dues_by total whole before ws) k 0
      ≡ owed (before + up_to ws (suc k)) - owed (before + up_to ws k)
  unfolding dues_by sum
  dues_at before [] k l = absurd (omega arith)
  dues_at before (w ∷ ws) zero l =
      let a : before + (w + 0) ≡ before + w = omega arith in
      let b : before + 0 ≡ before = omega arith in rw (a, b)
  dues_at before (w ∷ ws) (suc k) l =
      let a : before + w + up_to ws (suc k) ≡ before + (w + up_to ws (suc k)) = omega arith in
      let b : before + w + up_to ws k ≡ before + (w + up_to ws k) = omega arith in
      rw (a, b) at (dues_at (before + w) ws k (omega arith))

  -- less than one cent from the exact share, both times the whole
  abbrev pub Near : ℕ → ℕ → Type 0
  Near due weight = (due * whole < total * weight + whole) × (total * weight < due * whole + whole)

  module _ (some : 0 < whole) where
    pub owed_more : (a b : ℕ) → owed a ≤ owed (a + b)
    owed_more a b =
        let next = lt-div-mul-add {a = total * (a + b)} {b = whole} some in
        let l : total * a < (owed (a + b) + 1) * whole =
        omega (arith, mul-add total a b, add-mul (owed (a + b)) 1 whole, next) in
        let m = (div-lt_iff_lt-mul {k = whole} {x = total * a} {y = owed (a + b) + 1} some).1 l in omega arith

    -- what they add up to
    pub dues_sum : (before : ℕ) (ws : List ℕ)
        → sum (λ m. m) (dues_by total whole before ws) + owed before ≡ owed (before + sum (λ w. w) ws)
    unfolding dues_by sum
    dues_sum before [] = let a : before + 0 ≡ before = omega arith in rw a (zero-add (owed before))
    dues_sum before (w ∷ ws) =
        let a : before + w + sum (λ v. v) ws ≡ before + (w + sum (λ v. v) ws) = omega arith in
        let r = rw a at (dues_sum (before + w) ws) in
        omega (arith, r, owed_more before w)

    pub due_near : (before weight : ℕ) → Near (owed (before + weight) - owed before) weight
    due_near before weight =
        let d = owed (before + weight) - owed before in
        let more : owed (before + weight) ≡ owed before + d = omega (arith, owed_more before weight) in
        let parts = ap (λ (q : ℕ). q * whole) more ∙ add-mul (owed before) d whole in
        let after = div-add-mod' (total * (before + weight)) whole in
        let start = div-add-mod' (total * before) whole in
        let r = mod-lt (total * (before + weight)) some in
        let s = mod-lt (total * before) some in
        let both = mul-add total before weight in
        (omega (arith, parts, after, start, r, s, both), omega (arith, parts, after, start, r, s, both))
