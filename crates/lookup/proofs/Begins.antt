-- The test of leading digits agrees with the relation, and its laws beside dictionary order.
use mathlib.Core.Path.{◌≡◌, refl, sym, ◌∙◌}
use mathlib.Core.Bool.{Bool, true, false, cond, true≢false}
use mathlib.Core.List.{List, [], ◌∷◌}
use mathlib.Core.Logic.{◌↔◌}
use Prim.Native.Nat.{ℕ}
use native.Mathlib.Omega.{arith}
use lib.Dec.{eqb}
use borrow.Author.Tests.{eqb-true, eq-eqb}
use Rattle.claims.specs.Dictionary.{is_before}
use Rattle.claims.specs.Parting.{Begins, begins_none, begins_on}
use Rattle.claims.proofs.Dictionary.{
  Earlier,
  earlier_end,
  earlier_now,
  earlier_on,
  before_earlier,
  before,
  same,
  after,
  compared,
}
use Rattle.claims.proofs.Parting.{begins_first, begins_rest}
use Rattle.lookup.specs.Lookup.{begins}

begins_true : {w x : List ℕ} → Begins w x → begins w x ≡ true
unfolding begins
begins_true begins_none = refl
begins_true (begins_on {a = a} b) = rw (eq-eqb a a refl) (begins_true b)

true_begins : (w x : List ℕ) → begins w x ≡ true → Begins w x
unfolding begins
true_begins [] x e = begins_none
true_begins (a ∷ w) [] e = absurd (true≢false (sym e))
true_begins (a ∷ w) (b ∷ x) e = go (eqb a b) refl (true_begins w x) e
  where
    go : (t : Bool) → eqb a b ≡ t → (begins w x ≡ true → Begins w x) → cond t (begins w x) false ≡ true
        → Begins (a ∷ w) (b ∷ x)
    go true q f h = rw (← eqb-true a b q) (begins_on (f h))
    go false q f h = absurd (true≢false (sym h))

pub begins_agrees : (w x : List ℕ) → (begins w x ≡ true) ↔ Begins w x
begins_agrees w x = (true_begins w x, begins_true)

-- what begins with leading digits does not stand before them
begun_not_before : {w x : List ℕ} → Begins w x → is_before x w ≡ false
unfolding is_before
begun_not_before begins_none = refl
begun_not_before (begins_on {a = a} b) = rw (eq-eqb a a refl) (begun_not_before b)

pub begins_not_before : (w x : List ℕ) → begins w x ≡ true → is_before x w ≡ false
begins_not_before w x e = begun_not_before (true_begins w x e)

-- between leading digits and a label that begins with them stand only labels that do
begun_between : {w x y : List ℕ} → Earlier w x → Earlier x y → Begins w y → Begins w x
begun_between earlier_end f b = begins_none
begun_between (earlier_now l) (earlier_now m) b = absurd (omega (arith, begins_first b))
begun_between (earlier_now l) (earlier_on f) b = absurd (omega (arith, begins_first b))
begun_between (earlier_on e) (earlier_now m) b = absurd (omega (arith, begins_first b))
begun_between (earlier_on e) (earlier_on f) b = begins_on (begun_between e f (begins_rest b))

pub begins_between : (w x y : List ℕ) → is_before w x ≡ true → is_before x y ≡ true → begins w y ≡ true
    → begins w x ≡ true
begins_between w x y e f b =
    begins_true (begun_between (before_earlier w x e) (before_earlier x y f) (true_begins w y b))

begins_itself : (w : List ℕ) → begins w w ≡ true
unfolding begins
begins_itself [] = refl
begins_itself (a ∷ w) = rw (eq-eqb a a refl) (begins_itself w)

-- what neither stands before leading digits nor begins with them stands after them
pub past_after : (w x : List ℕ) → is_before x w ≡ false → begins w x ≡ false → is_before w x ≡ true
past_after w x e f =
    elim (compared w x) [
      | before h ↦ h
      | same h ↦ absurd (true≢false (sym (begins_itself x) ∙ rw h at f))
      | after h ↦ absurd (true≢false (sym h ∙ e))
    ]
