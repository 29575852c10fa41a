-- `levy_intake` meets its contract: by the total, and by the intake's stage.
use mathlib.Core.Path.{sym, ◌∙◌}
use Prim.Native.Nat.{◌≤◌}
use native.Mathlib.Omega.{arith}
use Rattle.dues.specs.Levy.{greatest_total}
use Rattle.levy.proofs.IntakeCalls.{too_large, not_ended, ended}
use Rattle.levy.proofs.from_intake.levy_intake.Goals as goal
use Rattle.levy.proofs.from_intake.levy_intake.Goals.{Else-total-gt-GREATEST_TOTAL}

-- the total is within its bound
within : (c : Else-total-gt-GREATEST_TOTAL) → c.args.total ≤ greatest_total
within c = omega (arith, c.if-total-gt-GREATEST_TOTAL.false)

pub returns-then-total-gt-GREATEST_TOTAL : goal.returns-then-total-gt-GREATEST_TOTAL
returns-then-total-gt-GREATEST_TOTAL c =
    let told = too_large _ _ _ _ _ _ _ (omega (arith, c.if-total-gt-GREATEST_TOTAL.true)) in
    record {
      answer = rw c.numbered.ensures told.0;
      values = rw c.numbered.ensures told.1.0;
      lent = told.1.1.0;
      index = told.1.1.1.0;
      dues = told.1.1.1.1;
    }

pub returns-in_default : goal.returns-in_default
returns-in_default c =
    let told = not_ended _ _ _ _ _ _ _ (within (goal.at.returns-in_default c).Else-total-gt-GREATEST_TOTAL)
    (sym c.ended_sizes.ensures ∙ c.in_default.is) in
    record {
      answer = rw c.numbered-in_default.ensures told.0;
      values = rw c.numbered-in_default.ensures told.1.0;
      lent = told.1.1.0;
      index = told.1.1.1.0;
      dues = told.1.1.1.1;
    }

pub returns : goal.returns
returns c =
    let e = c.levy.ensures in
    let told = ended _ _ _ _ _ _ _ (sym c.ended_sizes.ensures ∙ c.in-Some.is)
    (e.answer, (e.values, (e.lent, (e.index, e.dues)))) in
    record { answer = told.0; values = told.1.0; lent = told.1.1.0; index = told.1.1.1.0; dues = told.1.1.1.1 }
