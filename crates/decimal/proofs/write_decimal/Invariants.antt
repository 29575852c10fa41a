use Prim.Native.Nat.{◌≤◌, ◌+◌}
use mathlib.Core.Path.{◌≡◌}
use lib.ListN.{length}
use Rattle.decimal.specs.Text.{decimal_text, overwrite}
use Rattle.decimal.proofs.write_decimal.Given as goal

abbrev pub invariant-loop-rest : goal.invariant-loop-rest
invariant-loop-rest l =
    (overwrite l.out l.at (decimal_text l.rest) ≡ overwrite l.initial.out l.at (decimal_text l.n)) ×
    (l.end ≡ l.at + length (decimal_text l.rest)) × (l.end ≤ l.at + l.count) × (length l.out ≡ length l.initial.out)

abbrev pub decreases-loop-rest : goal.decreases-loop-rest
decreases-loop-rest l = l.rest
