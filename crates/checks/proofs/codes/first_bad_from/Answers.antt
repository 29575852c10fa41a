-- `first_bad_from` meets its contract: before each turn no byte from the first cell up to this one is bad.
use mathlib.Core.Path.{sym, ◌∙◌, ap}
use mathlib.Core.Bool.{not}
use native.Mathlib.Omega.{arith}
use borrow.Author.Count.{below_more}
use Rattle.sheet.specs.Refusal.{bad_code}
use Rattle.sheet.proofs.First.{from_none, from_at}
use Rattle.checks.proofs.codes.first_bad_from.Goals as goal

pub loop-cell-preserved : goal.loop-cell-preserved
unfolding bad_code
loop-cell-preserved c =
    below_more _ _ c.loop-cell.invariant (λ h. ap not (sym c.is_code.ensures ∙ c.if-not-is_code.false))

pub returns-then-not-is_code : goal.returns-then-not-is_code
unfolding bad_code
returns-then-not-is_code c =
    sym (from_at _ _ _ _ (omega arith) (omega arith) (ap not (sym c.is_code.ensures ∙ c.if-not-is_code.true))
    (λ j h g. c.loop-cell.invariant j g h))

pub returns : goal.returns
returns c = sym (from_none _ _ _ (λ k h g. c.loop-cell.invariant k (omega arith) h))
