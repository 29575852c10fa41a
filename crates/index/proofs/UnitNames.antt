-- Laws of unit names: the test of two units, and a unit's name and its basin and digits give each other back.
use mathlib.Core.Path.{◌≡◌, refl, sym, ap, ◌∙◌}
use mathlib.Core.Bool.{Bool, true, false, true≢false}
use mathlib.Core.List.{List, ◌∷◌}
use mathlib.Core.Logic.{◌≢◌}
use Prim.Native.Nat.{ℕ, ◌≤◌}
use lib.Dec.{eqb}
use lib.ListN.{length}
use borrow.Author.Tests.{eq-eqb, eqb-true}
use Rattle.sheet.specs.declared.Label.{Label}
use Rattle.sheet.specs.declared.UnitName.{UnitName}
use Rattle.sheet.specs.Record.{Digits, record_of, digits_of, same_label, unit_name, same_unit, basin_and_digits}
use Rattle.sheet.proofs.Within.{both_true}
use Rattle.sheet.proofs.Records.{digits_record, same_true as label-true, same_is as label_is}
use Rattle.index.specs.Units.{unit_of}

-- units with the same basin and the same label
pub same_unit_lem : {a b : ℕ} {m k : Label} → a ≡ b → m ≡ k → unit_name a m ≡ unit_name b k
same_unit_lem e f = λ i. unit_name (e i) (f i)

module _ (p q : UnitName) where
  pub same_true : same_unit p q ≡ true → p ≡ q
  unfolding same_unit
  same_true e =
      let b = both_true (eqb p.basin q.basin) (same_label p.label q.label) e in
      same_unit_lem (eqb-true p.basin q.basin b.0) (label-true p.label q.label b.1)

  pub same_is : p ≡ q → same_unit p q ≡ true
  unfolding same_unit
  same_is e =
      rw (
        eq-eqb p.basin q.basin (ap (λ (u : UnitName). u.basin) e),
        label_is p.label q.label (ap (λ (u : UnitName). u.label) e),
      )

  pub same_false : same_unit p q ≡ false → p ≢ q
  same_false e f = true≢false (sym (same_is f) ∙ e)

  pub same_not : p ≢ q → same_unit p q ≡ false
  same_not n = go (same_unit p q) refl
    where
      go : (b : Bool) → same_unit p q ≡ b → b ≡ false
      go true e = absurd (n (same_true e))
      go false e = refl

-- the basin and digits of the unit that they name
pub digits_back : (basin : ℕ) (x : List ℕ) → Digits 9 x → length x ≤ 36
    → basin_and_digits (unit_of (basin ∷ x)) ≡ basin ∷ x
unfolding basin_and_digits unit_of
digits_back basin x d h = ap (λ (y : List ℕ). basin ∷ y) (digits_record x d h)

-- the unit that its basin and digits name, where its label is told from its digits
pub unit_back : (u : UnitName) → record_of (digits_of u.label) ≡ u.label → unit_of (basin_and_digits u) ≡ u
unfolding basin_and_digits unit_of
unit_back u e = same_unit_lem refl e
