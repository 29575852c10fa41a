use Rattle.std.proofs.Common.{◌≡◌, length, drop}
use Rattle.lines.specs.Fields.{fields}
use Rattle.names.specs.Columns.{no_columns}
use Rattle.names.specs.Names.{names_from}
use Rattle.names.proofs.columns_in.Given as goal

abbrev pub invariant-loop-field : goal.invariant-loop-field
invariant-loop-field l =
    (names_from l.place (drop l.place (fields l.line)) l.columns ≡ names_from 0 (fields l.line) no_columns) ×
    (l.place ≡ length l.yielded)
