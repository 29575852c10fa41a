-- The test whether a unit is upstream of another is the digit rule, for units of an index whose labels are labels and
-- part.
use mathlib.Core.Path.{◌≡◌, refl, sym, ◌∙◌, ap}
use mathlib.Core.Bool.{Bool, true, false, true≢false}
use mathlib.Core.List.{List}
use mathlib.Core.Logic.{◌≢◌, ◌↔◌}
use Prim.Native.Nat.{ℕ, ◌<◌}
use native.Mathlib.Omega.{arith}
use lib.Dec.{ltb}
use lib.ListN.{length}
use borrow.Author.Tests.{ltb-true, ltb-false}
use Rattle.sheet.specs.declared.OutletFlow.{OutletFlow}
use Rattle.sheet.specs.declared.OutletFlow.TheVariants.{Same}
use Rattle.sheet.specs.declared.Label.{Label}
use Rattle.sheet.specs.Record.{digits_of}
use Rattle.sheet.specs.Refusal.{depth_fits}
use Rattle.sheet.specs.Flow.{is_label, answer_unequal, outlet_flow}
use Rattle.sheet.proofs.Records.{same_is, same_not}
use Rattle.claims.specs.Parting.{PartAt}
use Rattle.claims.proofs.Parting.{part_differs, part_turned}
use Rattle.claims.proofs.FlowTests.{part_once}
use Rattle.claims.proofs.FlowAnswers.{Answered, answered_yes, answered_no, answer_at_lem, good_labels}
use Rattle.lookup.specs.Lookup.{greatest_depth}
use Rattle.plan.specs.Plan.{of_one_basin, is_upstream}
use Rattle.plan.specs.Meaning.{label_in, digits_in, ByDigits, GoodIndex}

-- by the answer to the outlet question
told : (p q : Label) (k : ℕ) → PartAt (digits_of p) (digits_of q) k → (o : OutletFlow)
    → outlet_flow greatest_depth (of_one_basin p) (of_one_basin q) ≡ o → Answered (digits_of p) (digits_of q) k o
    → (is_upstream q p ≡ true) ↔ ByDigits q p
unfolding is_upstream
told p q k t o e (answered_yes r) = (λ _. record { place = k; part = t; rule = r }, λ _. rw e)
told p q k t o e (answered_no n) = (
  λ f. absurd (true≢false (sym f ∙ rw e)),
  λ m. absurd (n (rw (part_once (digits_of p) (digits_of q) m.place k m.part t) at m.rule)),
)

-- labels that part
of_parted : (p q : Label) → is_label greatest_depth p ≡ true → is_label greatest_depth q ≡ true
    → (k : ℕ) → PartAt (digits_of p) (digits_of q) k → (is_upstream q p ≡ true) ↔ ByDigits q p
unfolding depth_fits answer_unequal
of_parted p q e f k t =
    let n : p ≢ q = λ s. part_differs t (ap digits_of s) in
    let asked : outlet_flow greatest_depth (of_one_basin p) (of_one_basin q) ≡ answer_unequal p q =
    good_labels greatest_depth (of_one_basin p) (of_one_basin q) refl e f ∙ rw (same_not p q n) in
    told p q k t (answer_unequal p q) asked (answer_at_lem (digits_of p) (digits_of q) k t)

-- a unit is not upstream of itself
of_same : (p : Label) → is_label greatest_depth p ≡ true → (is_upstream p p ≡ true) ↔ ByDigits p p
unfolding depth_fits is_upstream
of_same p e =
    let asked : outlet_flow greatest_depth (of_one_basin p) (of_one_basin p) ≡ Same =
    good_labels greatest_depth (of_one_basin p) (of_one_basin p) refl e e ∙ rw (same_is p p refl) in
    (λ f. absurd (true≢false (sym f ∙ rw asked)), λ m. absurd (part_differs m.part refl))

-- two units of the index
module _ (index : List Label) (good : GoodIndex index) (i j : ℕ) (l : i < length index) (m : j < length index) where
  pub upstream_agrees : (is_upstream (label_in index j) (label_in index i) ≡ true)
      ↔ ByDigits (label_in index j) (label_in index i)
  upstream_agrees = go (ltb i j) (ltb j i) refl refl
    where
      parted : (k : ℕ) → PartAt (digits_in index i) (digits_in index j) k
          → (is_upstream (label_in index j) (label_in index i) ≡ true) ↔ ByDigits (label_in index j) (label_in index i)
      parted k t = of_parted _ _ (good.labels.labels i l) (good.labels.labels j m) k t

      go : (b c : Bool) → ltb i j ≡ b → ltb j i ≡ c
          → (is_upstream (label_in index j) (label_in index i) ≡ true) ↔ ByDigits (label_in index j) (label_in index i)
      go true c e f = let t = good.parted.parted i j (ltb-true i j e) m in parted t.0 t.1
      go false true e f = let t = good.parted.parted j i (ltb-true j i f) l in parted t.0 (part_turned t.1)
      go false false e f =
          let same : j ≡ i = omega (arith, ltb-false i j e, ltb-false j i f) in
          rw same (of_same _ (good.labels.labels i l))
