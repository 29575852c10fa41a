use mathlib.Core.Path.{◌≡◌}
use Prim.Native.Nat.{◌+◌, ◌≤◌}
use lib.ListN.{length}
use Rattle.sheet.specs.Record.{decimal_digits}
use Rattle.sheet.specs.Flow.{are_digits}
use Rattle.digits.specs.Counts.{number_fits}
use Rattle.digits.proofs.fitting_count.Given as goal

abbrev pub invariant-loop-m : goal.invariant-loop-m
invariant-loop-m l =
    (length (decimal_digits l.m) + 18 ≡ l.left + length (decimal_digits l.number)) × (l.left ≤ 18) × (l.m ≤ l.number) ×
    (are_digits l.left (decimal_digits l.m) ≡ number_fits l.number)

abbrev pub decreases-loop-m : goal.decreases-loop-m
decreases-loop-m l = l.m
