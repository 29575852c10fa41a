-- The flow question's answer, from that to the outlet question.
use mathlib.Core.Path.{◌≡◌, refl}
use mathlib.Core.Bool.{Bool, true, false, cond}
use Prim.Native.Nat.{ℕ}
use lib.Dec.{eqb}
use lib.ListN.{length}
use Rattle.sheet.specs.declared.Flow.TheVariants.{Refused}
use Rattle.sheet.specs.declared.OutletFlow.{OutletFlow}
use Rattle.sheet.specs.declared.OutletFlow.TheVariants.{Same as OutletSame, No as OutletNo}
use Rattle.sheet.specs.declared.OutletFlow.TheVariants.{Refused as OutletRefused}
use Rattle.sheet.specs.declared.UnitName.{UnitName}
use Rattle.sheet.specs.Record.{digits_of, same_label}
use Rattle.sheet.specs.Refusal.{both, depth_fits, least_fits}
use Rattle.sheet.specs.Flow.{is_label, answer_unequal, outlet_flow, stem_alone, cell_answer, flow}

-- the flow question, from the outlet question, where least fits
pub from_outlet_flow : (depth least : ℕ) (p q : UnitName) → least_fits least ≡ true
    → flow depth least p q ≡ cell_answer (stem_alone depth least (length (digits_of p.label))) (outlet_flow depth p q)
unfolding flow outlet_flow
from_outlet_flow depth least p q fits =
    let within : OutletFlow =
    cond (same_label p.label q.label) OutletSame (answer_unequal p.label q.label) in
    let judged : OutletFlow =
    cond (both (is_label depth p.label) (is_label depth q.label))
    (cond (eqb p.basin q.basin) within OutletNo) (OutletRefused 11) in
    rw fits (go (depth_fits depth) (stem_alone depth least (length (digits_of p.label))) judged)
  where
    go : (d alone : Bool) (judged : OutletFlow)
        → cond d (cell_answer alone (cond d judged (OutletRefused 2))) (Refused 2)
        ≡ cell_answer alone (cond d judged (OutletRefused 2))
    go true alone judged = refl
    go false alone judged = refl
