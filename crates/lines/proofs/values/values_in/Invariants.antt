use Rattle.std.proofs.Common.{◌≡◌, length, drop}
use Rattle.lines.specs.Fields.{fields}
use Rattle.lines.specs.Values.{no_values, values_from}
use Rattle.lines.proofs.values.values_in.Given as goal

abbrev pub invariant-loop-field : goal.invariant-loop-field
invariant-loop-field l =
    (values_from l.columns l.place (drop l.place (fields l.line)) l.values ≡ values_from l.columns 0 (fields l.line) no_values) ×
    (l.place ≡ length l.yielded)
