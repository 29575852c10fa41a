-- The tests at a place of the plan say what they mean: the label is one of the index, has come before, or awaits a unit
-- upstream of it.
use mathlib.Core.Path.{◌≡◌, refl, sym, ◌∙◌}
use mathlib.Core.Bool.{Bool, true, false, cond, true≢false}
use mathlib.Core.List.{List, [], ◌∷◌}
use mathlib.Core.Logic.{◌↔◌, inl, inr}
use Prim.Native.Nat.{ℕ, zero, suc, ◌<◌}
use native.Mathlib.Omega.{arith}
use lib.Dec.{ltb}
use lib.ListN.{length}
use borrow.Author.Tests.{ltb-true, ltb-false}
use Rattle.sheet.specs.declared.Label.{Label}
use Rattle.sheet.specs.Record.{same_label}
use Rattle.sheet.proofs.Records.{same_true, same_is, same_false}
use Rattle.plan.specs.Plan.{is_one_of, is_upstream, is_awaited, awaits_one, place_fault}
use Rattle.plan.specs.Meaning.{label_in, Stands, ByDigits, GoodIndex, UnknownOrUsed, Awaits}
use Rattle.plan.proofs.UpstreamMeaning.{upstream_agrees}

-- ---- tests

-- where a test fails, what it says does not hold; and the other way
pub test_fails : {A : Type 0} (b : Bool) → (b ≡ true) ↔ A → b ≡ false → ¬ A
test_fails b agrees e a = true≢false (sym (agrees.1 a) ∙ e)

pub test_false : {A : Type 0} (b : Bool) → (b ≡ true) ↔ A → ¬ A → b ≡ false
test_false true agrees n = absurd (n (agrees.0 refl))
test_false false agrees n = refl

cond_true : (b : Bool) → cond b true true ≡ true
cond_true true = refl
cond_true false = refl

-- ---- one of a list

one_stands : (labels : List Label) (p : Label) → is_one_of labels p ≡ true → Stands labels (length labels) p
unfolding is_one_of
one_stands [] p e = absurd (true≢false (sym e))
one_stands (q ∷ labels) p e = go (same_label q p) refl (one_stands labels p) e
  where
    go : (b : Bool) → same_label q p ≡ b → (is_one_of labels p ≡ true → Stands labels (length labels) p)
        → cond b true (is_one_of labels p) ≡ true → Stands (q ∷ labels) (suc (length labels)) p
    go true f rest e = record { place = 0; within = omega arith; is = same_true q p f }
    go false f rest e =
        let s = rest e in
        record { place = suc s.place; within = omega (arith, s.within); is = s.is }

stands_one : (labels : List Label) (p : Label) (i : ℕ) → i < length labels → label_in labels i ≡ p
    → is_one_of labels p ≡ true
unfolding is_one_of
stands_one [] p i l e = absurd (omega arith)
stands_one (q ∷ labels) p zero l e = rw (same_is q p e)
stands_one (q ∷ labels) p (suc i) l e = rw (stands_one labels p i (omega arith) e) (cond_true (same_label q p))

pub one_of_agrees : (labels : List Label) (p : Label) → (is_one_of labels p ≡ true) ↔ Stands labels (length labels) p
one_of_agrees labels p = (one_stands labels p, λ s. stands_one labels p s.place s.within s.is)

-- ---- the labels before a place of the plan, the last one first

abbrev pub before : List Label → ℕ → List Label
before plan zero = []
before plan (suc k) = label_in plan k ∷ before plan k

before_stands : (plan : List Label) (k : ℕ) (p : Label) → is_one_of (before plan k) p ≡ true → Stands plan k p
unfolding is_one_of
before_stands plan zero p e = absurd (true≢false (sym e))
before_stands plan (suc k) p e = go (same_label (label_in plan k) p) refl (before_stands plan k p) e
  where
    go : (b : Bool) → same_label (label_in plan k) p ≡ b → (is_one_of (before plan k) p ≡ true → Stands plan k p)
        → cond b true (is_one_of (before plan k) p) ≡ true → Stands plan (suc k) p
    go true f rest e = record { place = k; within = omega arith; is = same_true (label_in plan k) p f }
    go false f rest e =
        let s = rest e in
        record { place = s.place; within = omega (arith, s.within); is = s.is }

stands_before_lem : (plan : List Label) (k : ℕ) (p : Label) (i : ℕ) → i < k → label_in plan i ≡ p
    → is_one_of (before plan k) p ≡ true
unfolding is_one_of
stands_before_lem plan zero p i l e = absurd (omega arith)
stands_before_lem plan (suc k) p i l e = go (same_label (label_in plan k) p) refl (stands_before_lem plan k p i)
  where
    go : (b : Bool) → same_label (label_in plan k) p ≡ b → (i < k → label_in plan i ≡ p → is_one_of (before plan k) p ≡ true)
        → cond b true (is_one_of (before plan k) p) ≡ true
    go true f rest = refl
    go false f rest = rest (other (ltb i k) refl) e
      where
        other : (b : Bool) → ltb i k ≡ b → i < k
        other true g = ltb-true i k g
        other false g =
            let last : k ≡ i = omega (arith, ltb-false i k g) in
            absurd (same_false (label_in plan k) p f (rw last e))

pub before_agrees : (plan : List Label) (k : ℕ) (p : Label) → (is_one_of (before plan k) p ≡ true) ↔ Stands plan k p
before_agrees plan k p = (before_stands plan k p, λ s. stands_before_lem plan k p s.place s.within s.is)

-- ---- units that are awaited

-- some place of the index has a unit that is awaited
pub record AwaitedAt (index came : List Label) (p : Label) : Type 0 where
  pub place : ℕ
  pub within : place < length index
  pub awaited : is_awaited came p (label_in index place) ≡ true

pub awaits_at : (index came : List Label) (p : Label) → awaits_one index came p ≡ true → AwaitedAt index came p
unfolding awaits_one
awaits_at [] came p e = absurd (true≢false (sym e))
awaits_at (q ∷ index) came p e = go (is_awaited came p q) refl (awaits_at index came p) e
  where
    go : (b : Bool) → is_awaited came p q ≡ b → (awaits_one index came p ≡ true → AwaitedAt index came p)
        → cond b true (awaits_one index came p) ≡ true → AwaitedAt (q ∷ index) came p
    go true f rest e = record { place = 0; within = omega arith; awaited = f }
    go false f rest e =
        let s = rest e in
        record { place = suc s.place; within = omega (arith, s.within); awaited = s.awaited }

pub at_awaits : (index came : List Label) (p : Label) (i : ℕ) → i < length index
    → is_awaited came p (label_in index i) ≡ true → awaits_one index came p ≡ true
unfolding awaits_one
at_awaits [] came p i l e = absurd (omega arith)
at_awaits (q ∷ index) came p zero l e = rw e
at_awaits (q ∷ index) came p (suc i) l e =
    rw (at_awaits index came p i (omega arith) e) (cond_true (is_awaited came p q))

-- none of those that came, and upstream
awaited_both : (b c : Bool) → cond b false c ≡ true → (b ≡ false) × (c ≡ true)
awaited_both true c e = absurd (true≢false (sym e))
awaited_both false c e = (refl, e)

module _ (index plan : List Label) (good : GoodIndex index) (k : ℕ) where
  -- for a place that names a unit of the index
  awaits_agrees : Stands index (length index) (label_in plan k)
      → (awaits_one index (before plan k) (label_in plan k) ≡ true) ↔ Awaits index plan k
  awaits_agrees known = (forth, back)
    where
      upstream : (j : ℕ) → j < length index
          → (is_upstream (label_in index j) (label_in plan k) ≡ true) ↔ ByDigits (label_in index j) (label_in plan k)
      upstream j l = rw (sym known.is) (upstream_agrees index good known.place j known.within l)

      forth : awaits_one index (before plan k) (label_in plan k) ≡ true → Awaits index plan k
      forth e =
          let s = awaits_at index (before plan k) (label_in plan k) e in
          let b = awaited_both _ _ s.awaited in
          record {
            place = s.place;
            within = s.within;
            upstream = (upstream s.place s.within).0 b.1;
            not_yet = test_fails _ (before_agrees plan k (label_in index s.place)) b.0;
          }

      back : Awaits index plan k → awaits_one index (before plan k) (label_in plan k) ≡ true
      back a =
          at_awaits index (before plan k) (label_in plan k) a.place a.within
          (rw (test_false _ (before_agrees plan k (label_in index a.place)) a.not_yet)
          ((upstream a.place a.within).1 a.upstream))

-- ---- the refusal at a place

-- 20, 21 or 0, and when
pub data FaultAt (index plan : List Label) (k : ℕ) : ℕ → Type 0 where
  fault_unknown : UnknownOrUsed index plan k → FaultAt index plan k 20
  fault_awaits : ¬ UnknownOrUsed index plan k → Awaits index plan k → FaultAt index plan k 21
  fault_none : ¬ UnknownOrUsed index plan k → ¬ Awaits index plan k → FaultAt index plan k 0

-- the refusal at a place of the plan
abbrev pub fault_at : List Label → List Label → ℕ → ℕ
fault_at index plan k = place_fault index (before plan k) (label_in plan k)

module _ (index plan : List Label) (good : GoodIndex index) (k : ℕ) where
  neither : Stands index (length index) (label_in plan k) → ¬ Stands plan k (label_in plan k)
      → ¬ UnknownOrUsed index plan k
  neither s n (inl u) = u s
  neither s n (inr u) = n u

  pub fault_at_lem : FaultAt index plan k (fault_at index plan k)
  unfolding place_fault
  fault_at_lem = first (is_one_of index (label_in plan k)) refl
    where
      third : Stands index (length index) (label_in plan k) → ¬ UnknownOrUsed index plan k
          → (b : Bool) → awaits_one index (before plan k) (label_in plan k) ≡ b → FaultAt index plan k (cond b 21 0)
      third s n true e = fault_awaits n ((awaits_agrees index plan good k s).0 e)
      third s n false e = fault_none n (test_fails _ (awaits_agrees index plan good k s) e)

      second : Stands index (length index) (label_in plan k) → (b : Bool) → is_one_of (before plan k) (label_in plan k) ≡ b
          → FaultAt index plan k (cond b 20 (cond (awaits_one index (before plan k) (label_in plan k)) 21 0))
      second s true e = fault_unknown (inr ((before_agrees plan k (label_in plan k)).0 e))
      second s false e =
          third s (neither s (test_fails _ (before_agrees plan k (label_in plan k)) e))
          (awaits_one index (before plan k) (label_in plan k)) refl

      first : (b : Bool) → is_one_of index (label_in plan k) ≡ b
          → FaultAt index plan k (cond b (cond (is_one_of (before plan k) (label_in plan k)) 20
          (cond (awaits_one index (before plan k) (label_in plan k)) 21 0)) 20)
      first true e =
          second ((one_of_agrees index (label_in plan k)).0 e) (is_one_of (before plan k) (label_in plan k)) refl
      first false e = fault_unknown (inl (test_fails _ (one_of_agrees index (label_in plan k)) e))
