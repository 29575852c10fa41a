-- Dictionary order is a strict total order, and a label that begins another stands before it.
use mathlib.Core.Path.{◌≡◌, refl, sym, ◌∙◌}
use mathlib.Core.Bool.{Bool, true, false, cond, true≢false}
use mathlib.Core.List.{List, [], ◌∷◌}
use mathlib.Core.Logic.{inl, inr, ◌≢◌}
use Prim.Native.Nat.{ℕ, ◌<◌}
use native.Mathlib.Omega.{arith}
use lib.Dec.{eqb, ltb}
use borrow.Author.Tests.{eqb-true, ltb-true, ltb-false, lt-ltb, eq-eqb, ne_eqb}
use Rattle.claims.specs.Dictionary.{is_before, NotAfter}
use Rattle.claims.specs.Parting.{Begins, begins_none, begins_on}

-- the same by cases: x begins y, or has the smaller digit where they part
pub data Earlier : List ℕ → List ℕ → Type 0 where
  earlier_end : {b : ℕ} {y : List ℕ} → Earlier [] (b ∷ y)
  earlier_now : {a b : ℕ} {x y : List ℕ} → a < b → Earlier (a ∷ x) (b ∷ y)
  earlier_on : {a : ℕ} {x y : List ℕ} → Earlier x y → Earlier (a ∷ x) (a ∷ y)

pub earlier_before : {x y : List ℕ} → Earlier x y → is_before x y ≡ true
unfolding is_before
earlier_before earlier_end = refl
earlier_before (earlier_now {a = a} {b = b} l) = rw (ne_eqb a b (omega arith), lt-ltb a b l)
earlier_before (earlier_on {a = a} e) = rw (eq-eqb a a refl) (earlier_before e)

pub before_earlier : (x y : List ℕ) → is_before x y ≡ true → Earlier x y
unfolding is_before
before_earlier [] [] e = absurd (true≢false (sym e))
before_earlier (a ∷ x) [] e = absurd (true≢false (sym e))
before_earlier [] (b ∷ y) e = earlier_end
before_earlier (a ∷ x) (b ∷ y) e = go (eqb a b) refl (before_earlier x y) e
  where
    go : (t : Bool) → eqb a b ≡ t → (is_before x y ≡ true → Earlier x y) → cond t (is_before x y) (ltb a b) ≡ true
        → Earlier (a ∷ x) (b ∷ y)
    go true q f h = rw (← eqb-true a b q) (earlier_on (f h))
    go false q f h = earlier_now (ltb-true a b h)

earlier_unlike : {x y : List ℕ} → Earlier x y → x ≢ y
earlier_unlike earlier_end e = cc
earlier_unlike (earlier_now {a = a} {b = b} l) e = let same : a ≡ b = cc in omega arith
earlier_unlike (earlier_on r) e = earlier_unlike r (cc)

earlier_irreflexive : {x : List ℕ} → Earlier x x → ⊥
earlier_irreflexive e = earlier_unlike e refl

earlier_transitive : {x y z : List ℕ} → Earlier x y → Earlier y z → Earlier x z
earlier_transitive earlier_end (earlier_now m) = earlier_end
earlier_transitive earlier_end (earlier_on f) = earlier_end
earlier_transitive (earlier_now {a = a} l) (earlier_now {b = c} m) = let k : a < c = omega arith in earlier_now k
earlier_transitive (earlier_now l) (earlier_on f) = earlier_now l
earlier_transitive (earlier_on e) (earlier_now m) = earlier_now m
earlier_transitive (earlier_on e) (earlier_on f) = earlier_on (earlier_transitive e f)

pub before_irreflexive : (x : List ℕ) → is_before x x ≡ false
before_irreflexive x = go (is_before x x) refl
  where
    go : (t : Bool) → is_before x x ≡ t → t ≡ false
    go true e = absurd (earlier_irreflexive (before_earlier x x e))
    go false e = refl

pub before_transitive : (x y z : List ℕ) → is_before x y ≡ true → is_before y z ≡ true → is_before x z ≡ true
before_transitive x y z e f = earlier_before (earlier_transitive (before_earlier x y e) (before_earlier y z f))

pub before_asymmetric : (x y : List ℕ) → is_before x y ≡ true → is_before y x ≡ false
before_asymmetric x y e = go (is_before y x) refl
  where
    go : (t : Bool) → is_before y x ≡ t → t ≡ false
    go true f = absurd (true≢false (sym (before_transitive x y x e f) ∙ before_irreflexive x))
    go false f = refl

-- of two labels either they are equal or one stands before the other
pub data Compared (x y : List ℕ) : Type 0 where
  before : is_before x y ≡ true → Compared x y
  same : x ≡ y → Compared x y
  after : is_before y x ≡ true → Compared x y

pub compared : (x y : List ℕ) → Compared x y
compared [] [] = same refl
compared [] (b ∷ y) = before (earlier_before earlier_end)
compared (a ∷ x) [] = after (earlier_before earlier_end)
compared (a ∷ x) (b ∷ y) = go (ltb a b) refl (ltb b a) refl (compared x y)
  where
    on : (v w : List ℕ) {c d : ℕ} → c ≡ d → is_before v w ≡ true → is_before (c ∷ v) (d ∷ w) ≡ true
    on v w e h = rw e (earlier_before (earlier_on (before_earlier v w h)))

    go : (s : Bool) → ltb a b ≡ s → (t : Bool) → ltb b a ≡ t → Compared x y → Compared (a ∷ x) (b ∷ y)
    go true p t q c = before (earlier_before (earlier_now (ltb-true a b p)))
    go false p true q c = after (earlier_before (earlier_now (ltb-true b a q)))
    go false p false q c =
        let e : a ≡ b = omega (arith, ltb-false a b p, ltb-false b a q) in
        elim c [ before h ↦ before (on x y e h) | same h ↦ same (rw (e, h)) | after h ↦ after (on y x (sym e) h) ]

pub begins_before : {w x : List ℕ} → Begins w x → w ≢ x → is_before w x ≡ true
begins_before b n = earlier_before (go b n)
  where
    go : {w x : List ℕ} → Begins w x → w ≢ x → Earlier w x
    go (begins_none {x = []}) n = absurd (n refl)
    go (begins_none {x = a ∷ x}) n = earlier_end
    go (begins_on b) n = earlier_on (go b (λ e. n (rw e)))

-- neither after the other
pub not_after_both : {x y : List ℕ} → NotAfter x y → NotAfter y x → x ≡ y
not_after_both (inl e) k = e
not_after_both (inr e) (inl f) = sym f
not_after_both {x} {y} (inr e) (inr f) =
    absurd (true≢false (sym (before_transitive x y x e f) ∙ before_irreflexive x))

-- one digit more in front
pub not_after_on : {a : ℕ} {x y : List ℕ} → NotAfter x y → NotAfter (a ∷ x) (a ∷ y)
not_after_on (inl e) = inl (rw e)
not_after_on {x = x} {y = y} (inr e) = inr (earlier_before (earlier_on (before_earlier x y e)))

pub not_after_now : {a b : ℕ} {x y : List ℕ} → a < b → NotAfter (a ∷ x) (b ∷ y)
not_after_now l = inr (earlier_before (earlier_now l))
