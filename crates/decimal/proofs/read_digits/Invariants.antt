use Rattle.std.proofs.Common.{◌≡◌, ◌+◌, ◌^◌, ◌<◌, ◌≤◌, length, drop}
use Rattle.decimal.specs.Value.{digit_run, value_from}
use Rattle.decimal.proofs.read_digits.Given as goal

abbrev pub invariant-loop-count : goal.invariant-loop-count
invariant-loop-count l =
    let s = drop l.at l.line in
    (value_from l.value (digit_run (drop l.count s)) ≡ value_from 0 (digit_run s))
    × (l.count + length (digit_run (drop l.count s)) ≡ length (digit_run s)) × (l.value < 10 ^ l.count)
    × (l.count ≤ l.most)
