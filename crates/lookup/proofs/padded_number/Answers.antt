-- `padded_number` meets its contract. The loop's invariant: with zeros behind it the number is the one lent. The
-- measure: how far it is from the least number of 18 digits.
use native.Mathlib.Omega.{arith}
use mathlib.Core.Path.{refl, sym, ◌∙◌}
use Rattle.lookup.proofs.PaddedHalves.{zero_padded}
use Rattle.lookup.proofs.Zeros.{padded_turn, padded_full}
use Rattle.lookup.proofs.padded_number.Goals as goal

pub returns-then-number-eq0 : goal.returns-then-number-eq0
returns-then-number-eq0 c = sym (zero_padded _ c.if-number-eq0.true)

pub loop-m-init : goal.loop-m-init
loop-m-init c = (refl, omega arith)

pub loop-m-preserved : goal.loop-m-preserved
loop-m-preserved c =
    let l = c.loop-m in (padded_turn l.m l.invariant.1 (omega arith) ∙ l.invariant.0, omega (arith, l.invariant.1))

pub returns : goal.returns
returns c =
    let l = c.loop-m in sym (padded_full l.m (omega (arith, c.loop-m-test.false))) ∙ l.invariant.0
