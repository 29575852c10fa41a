-- A plan is in order exactly if no place of it is refused and no unit of the index is missing.
use mathlib.Core.Path.{◌≡◌, refl, sym, ◌∙◌, ap}
use mathlib.Core.Bool.{Bool, true, false}
use mathlib.Core.List.{List}
use mathlib.Core.Logic.{◌≢◌, inl, inr}
use Prim.Native.Nat.{ℕ, ◌<◌}
use native.Mathlib.Omega.{arith}
use lib.Dec.{ltb}
use lib.ListN.{length}
use borrow.Author.Tests.{ltb-true, ltb-false}
use Rattle.sheet.specs.declared.Label.{Label}
use Rattle.sheet.specs.Record.{digits_of}
use Rattle.claims.proofs.Parting.{part_differs}
use Rattle.plan.specs.Plan.{is_one_of}
use Rattle.plan.specs.Meaning.{label_in, Stands, ByDigits, GoodPlan, UnknownOrUsed, Awaits, FitsUpTo}
use Rattle.plan.proofs.PlanPlaces.{test_fails, one_of_agrees}

-- every unit of the index stands in the plan
abbrev pub NoneMissing : List Label → List Label → Type 0
NoneMissing index plan = (i : ℕ) → i < length index → Stands plan (length plan) (label_in index i)

-- the same label under another name
stands_as : {labels : List Label} {n : ℕ} {p q : Label} → p ≡ q → Stands labels n p → Stands labels n q
stands_as e s = record { place = s.place; within = s.within; is = s.is ∙ e }

module _ (index plan : List Label) (fits : FitsUpTo index plan (length plan)) where
  known : (k : ℕ) → k < length plan → Stands index (length index) (label_in plan k)
  known k l = go (is_one_of index (label_in plan k)) refl
    where
      go : (b : Bool) → is_one_of index (label_in plan k) ≡ b → Stands index (length index) (label_in plan k)
      go true e = (one_of_agrees index (label_in plan k)).0 e
      go false e = absurd ((fits.fits k l).0 (inl (test_fails _ (one_of_agrees index (label_in plan k)) e)))

  -- a label stands at no later place too
  not_later : (j k : ℕ) → j < k → k < length plan → label_in plan j ≢ label_in plan k
  not_later j k l m e = (fits.fits k m).0 (inr (record { place = j; within = l; is = e }))

  once : (j k : ℕ) → j < length plan → k < length plan → label_in plan j ≡ label_in plan k → j ≡ k
  once j k l m e = go (ltb j k) (ltb k j) refl refl
    where
      go : (b c : Bool) → ltb j k ≡ b → ltb k j ≡ c → j ≡ k
      go true c f g = absurd (not_later j k (ltb-true j k f) m e)
      go false true f g = absurd (not_later k j (ltb-true k j g) l (sym e))
      go false false f g = omega (arith, ltb-false j k f, ltb-false k j g)

  after : (j k : ℕ) → j < length plan → k < length plan → label_in plan j ≢ label_in plan k
      → ByDigits (label_in plan k) (label_in plan j) → k < j
  after j k l m n passes = go (ltb k j) refl
    where
      s : Stands index (length index) (label_in plan k)
      s = known k m

      not_yet : ¬ (k < j) → ¬ Stands plan j (label_in plan k)
      not_yet late t =
          let same : t.place ≡ k = once t.place k (omega (arith, t.within)) m t.is in
          late (omega (arith, t.within))

      go : (b : Bool) → ltb k j ≡ b → k < j
      go true f = ltb-true k j f
      go false f = absurd ((fits.fits j l).1 (record {
        place = s.place;
        within = s.within;
        upstream = rw s.is passes;
        not_yet = λ t. not_yet (λ h. absurd (omega (arith, ltb-false k j f))) (stands_as s.is t);
      }))

  pub in_order_lem : NoneMissing index plan → GoodPlan ByDigits index plan
  in_order_lem stands = record { known = known; stands = stands; once = once; after = after }

module _ (index plan : List Label) (ordered : GoodPlan ByDigits index plan) where
  not_unknown : (k : ℕ) → k < length plan → ¬ UnknownOrUsed index plan k
  not_unknown k l (inl n) = n (ordered.known k l)
  not_unknown k l (inr s) =
      let same : s.place ≡ k = ordered.once s.place k (omega (arith, s.within)) l s.is in
      absurd (omega (arith, s.within))

  not_awaits : (k : ℕ) → k < length plan → ¬ Awaits index plan k
  not_awaits k l a =
      let s = ordered.stands a.place a.within in
      let passes : ByDigits (label_in plan s.place) (label_in plan k) = rw s.is a.upstream in
      let differ : label_in plan k ≢ label_in plan s.place = λ e. part_differs passes.part (ap digits_of e) in
      a.not_yet (record {
        place = s.place;
        within = ordered.after k s.place l s.within differ passes;
        is = s.is;
      })

  pub order_fits : FitsUpTo index plan (length plan)
  order_fits = record { fits = λ k l. (not_unknown k l, not_awaits k l) }
