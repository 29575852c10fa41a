-- A row or column moved by a signed step, in 32 bits: the sum fits, its bits are read back as the sum, and where it
-- leads.
use mathlib.Core.Path.{◌≡◌, refl, ◌∙◌, ap₂, subst}
use mathlib.Core.Bool.{Bool, true, false, cond}
use Prim.Native.Nat.{ℕ, suc, ◌<◌, ◌≤◌, ◌-◌, ◌^◌}
use native.Mathlib.Omega.{arith}
use lib.Dec.{T, ltb}
use lib.IntN.{ℤ, pos, negsuc, nat_abs, sub_ℕ, ◌+ℤ◌}
use lib.Signed.{mag, lt_z, non_neg}
use mir.Syntax.{w32, w64}
use mir.Val.{Fits, SFits, of_z, to_z}
use mir.ValLaws.{to_z_pos, to_z-of_z}
use borrow.Author.Tests.{ltb-true, lt-ltb, le-ltb}
use Rattle.sheet.specs.Direction.{below, moved_by}
use Rattle.directions.specs.Steps.{Near}
use Rattle.std.specs.Prelude.{None, Some}

sub_small : (a b : ℕ) → a < 256 → b < 256 → mag (sub_ℕ a b) < 256
sub_small a b h k = go (ltb a b)
  where
    go : (t : Bool) → mag (cond t (negsuc (b - suc a)) (pos (a - b))) < 256
    go true = omega arith
    go false = omega arith

sum_small : (a : ℕ) (z : ℤ) → Near a z → mag (pos a +ℤ z) < 2 ^ 31
sum_small a (pos b) h = omega arith
sum_small a (negsuc b) h =
    let s : mag (sub_ℕ a (suc b)) < 256 = sub_small a (suc b) (omega arith) (omega arith) in omega arith

-- a signed argument reaches a callee as the number that its bits stand for
pub read_step : (z : ℤ) → mag z < 2 → to_z w32 (of_z w32 z) ≡ z
read_step z h = to_z-of_z w32 z (record { sfits = omega arith })

operands : (a : ℕ) (z : ℤ) → Near a z → to_z w32 a +ℤ to_z w32 (of_z w32 z) ≡ pos a +ℤ z
operands a z h = ap₂ ◌+ℤ◌ (to_z_pos w32 a (omega arith)) (read_step z h.short)

pub sum_fits : (a : ℕ) (z : ℤ) → Near a z → SFits w32 (to_z w32 a +ℤ to_z w32 (of_z w32 z))
sum_fits a z h = rw (operands a z h) (record { sfits = sum_small a z h })

sum_is : (a : ℕ) (z : ℤ) → Near a z → to_z w32 (of_z w32 (to_z w32 a +ℤ to_z w32 (of_z w32 z))) ≡ pos a +ℤ z
sum_is a z h = to_z-of_z w32 _ (sum_fits a z h) ∙ operands a z h

below_negative : (count : ℕ) (z : ℤ) → lt_z z (pos 0) ≡ true → None ≡ below count z
unfolding below
below_negative count (pos n) e = let h : n < 0 = ltb-true n 0 e in absurd (omega arith)
below_negative count (negsuc n) e = refl

below_in : (count : ℕ) (z : ℤ) → lt_z z (pos 0) ≡ false → nat_abs z < count → Some (nat_abs z) ≡ below count z
unfolding below
below_in count (pos n) e h = rw (lt-ltb n count h)
below_in count (negsuc n) e h = absurd (subst T e tt)

below_out : (count : ℕ) (z : ℤ) → lt_z z (pos 0) ≡ false → count ≤ nat_abs z → None ≡ below count z
unfolding below
below_out count (pos n) e h = rw (le-ltb n count h)
below_out count (negsuc n) e h = refl

fits_index : (z : ℤ) → lt_z z (pos 0) ≡ false → mag z < 2 ^ 31 → T (non_neg z) × Fits w64 (nat_abs z)
fits_index (pos n) e h = (tt, record { fits = omega arith })
fits_index (negsuc n) e h = absurd (subst T e tt)

-- what the code holds after the sum: the number that its bits stand for
abbrev Sum : ℕ → ℤ → ℤ
Sum a z = to_z w32 (of_z w32 (to_z w32 a +ℤ to_z w32 (of_z w32 z)))

module _ (a : ℕ) (z : ℤ) (count : ℕ) (near : Near a z) where
  pub index_fits_lem : lt_z (Sum a z) (pos 0) ≡ false → T (non_neg (Sum a z)) × Fits w64 (nat_abs (Sum a z))
  index_fits_lem e = rw (sum_is a z near) (fits_index (pos a +ℤ z) (rw (sum_is a z near) at e) (sum_small a z near))

  pub moved_negative : lt_z (Sum a z) (pos 0) ≡ true → None ≡ moved_by a z count
  unfolding moved_by
  moved_negative e = below_negative count (pos a +ℤ z) (rw (sum_is a z near) at e)

  pub moved_in : lt_z (Sum a z) (pos 0) ≡ false → nat_abs (Sum a z) < count → Some (nat_abs (Sum a z)) ≡ moved_by a z count
  unfolding moved_by
  moved_in e h =
      rw (sum_is a z near) (below_in count (pos a +ℤ z) (rw (sum_is a z near) at e) (rw (sum_is a z near) at h))

  pub moved_out : lt_z (Sum a z) (pos 0) ≡ false → count ≤ nat_abs (Sum a z) → None ≡ moved_by a z count
  unfolding moved_by
  moved_out e h = below_out count (pos a +ℤ z) (rw (sum_is a z near) at e) (rw (sum_is a z near) at h)
