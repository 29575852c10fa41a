-- `without_last_odd` meets its contract. The invariant: of the digits of what is left as many stay as of all. The
-- measure: what is left.
use native.Mathlib.Omega.{arith}
use mathlib.Core.Path.{refl, sym, ap, ◌∙◌}
use Rattle.sheet.specs.Record.{number}
use Rattle.plan.proofs.LastOdd.{last_odd, last_even}
use Rattle.plan.proofs.without_last_odd.Goals as goal

pub loop-left-init : goal.loop-left-init
loop-left-init c = (refl, omega arith)

pub loop-left-smaller : goal.loop-left-smaller
loop-left-smaller c = omega arith

pub loop-left-preserved : goal.loop-left-preserved
loop-left-preserved c =
    let l = c.loop-left in
    (sym (last_odd l.left l.invariant.1 (omega arith)) ∙ l.invariant.0, omega arith)

pub returns : goal.returns
returns c =
    let l = c.loop-left in
    sym (last_even l.left l.invariant.1 (λ e. omega arith)) ∙ ap number l.invariant.0
