use Rattle.std.proofs.Common.{◌≡◌, ◌≤◌, length}
use Rattle.sheet.specs.Record.{decimal_digits}
use Rattle.sheet.specs.Refusal.{written}
use Rattle.digits.proofs.put_digits.Given as goal

abbrev pub invariant-loop-i : goal.invariant-loop-i
invariant-loop-i l =
    (written (decimal_digits l.left) l.out ≡ written (decimal_digits l.number) l.initial.out) × (length (decimal_digits l.left) ≡ l.i) ×
    (length l.out ≡ length l.initial.out) × (l.left ≤ l.number)
