use mathlib.Core.Path.{◌≡◌}
use Prim.Native.Nat.{◌^◌, ◌<◌}
use Rattle.sheet.specs.Record.{decimal_digits}
use Rattle.plan.specs.Steps.{before_last_odd}
use Rattle.plan.proofs.without_last_odd.Given as goal

abbrev pub invariant-loop-left : goal.invariant-loop-left
invariant-loop-left l =
    (before_last_odd (decimal_digits l.left) ≡ before_last_odd (decimal_digits l.m)) × (l.left < 10 ^ 20)

abbrev pub decreases-loop-left : goal.decreases-loop-left
decreases-loop-left l = l.left
