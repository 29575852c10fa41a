-- The flow question's answer by the results of its tests.
use mathlib.Core.Path.{◌≡◌, ◌∙◌}
use mathlib.Core.Bool.{true, false}
use mathlib.Core.List.{List}
use Prim.Native.Nat.{ℕ}
use lib.ListN.{length}
use borrow.Author.Tests.{eq-eqb, ne_eqb}
use Rattle.sheet.specs.declared.Flow.{Flow}
use Rattle.sheet.specs.declared.Flow.TheVariants.{Same, No, Refused}
use Rattle.sheet.specs.declared.UnitName.{UnitName}
use Rattle.sheet.specs.declared.OutletFlow.{OutletFlow}
use Rattle.sheet.specs.Record.{digits_of, same_label}
use Rattle.sheet.specs.Refusal.{depth_fits, least_fits}
use Rattle.sheet.specs.Flow.{part_at, is_label, answer_at, answer_unequal, outlet_flow, stem_alone}
use Rattle.sheet.specs.Flow.{cell_answer, flow}

module _ (depth least : ℕ) (p q : UnitName) where
  module _ (fits : (depth_fits depth ≡ true) × (least_fits least ≡ true)) where
    pub p_refused : is_label depth p.label ≡ false → Refused 11 ≡ flow depth least p q
    unfolding flow outlet_flow
    p_refused e = rw (fits.0, fits.1, e)

    module _ (p-label : is_label depth p.label ≡ true) where
      pub q_refused : is_label depth q.label ≡ false → Refused 11 ≡ flow depth least p q
      unfolding flow outlet_flow
      q_refused e = rw (fits.0, fits.1, p-label, e)

      module _ (q-label : is_label depth q.label ≡ true) where
        pub other_basin : (p.basin ≡ q.basin → ⊥) → No ≡ flow depth least p q
        unfolding flow outlet_flow
        other_basin e = rw (fits.0, fits.1, p-label, q-label, ne_eqb p.basin q.basin e)

        module _ (basin : p.basin ≡ q.basin) where
          pub same : same_label p.label q.label ≡ true → Same ≡ flow depth least p q
          unfolding flow outlet_flow
          same e = rw (fits.0, fits.1, p-label, q-label, eq-eqb p.basin q.basin basin, e)

          -- by the digits x of p's label and y of q's
          pub unequal : same_label p.label q.label ≡ false → (x y : List ℕ) → x ≡ digits_of p.label
              → y ≡ digits_of q.label → (outlet : OutletFlow) → outlet ≡ answer_at x y (part_at x y) → (answer : Flow)
              → answer ≡ cell_answer (stem_alone depth least (length x)) outlet → answer ≡ flow depth least p q
          unfolding flow outlet_flow answer_unequal
          unequal e x y is-p is-q outlet f answer g =
              rw (fits.0, fits.1, p-label, q-label, eq-eqb p.basin q.basin basin, e)
              (g ∙ rw (f, is-p, is-q))
