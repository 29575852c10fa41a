use mathlib.Core.Path.{◌≡◌}
use Prim.Native.Nat.{◌+◌, ◌≤◌}
use lib.ListN.{length}
use Rattle.sheet.specs.Record.{decimal_digits}
use Rattle.digits.proofs.count_decimal_digits.Given as goal

abbrev pub invariant-loop-m : goal.invariant-loop-m
invariant-loop-m l = (l.count + length (decimal_digits l.m) ≡ length (decimal_digits l.number)) × (l.m ≤ l.number)

abbrev pub decreases-loop-m : goal.decreases-loop-m
decreases-loop-m l = l.m
