use mathlib.Core.Path.{◌≡◌}
use Prim.Native.Nat.{◌*◌, ◌≤◌}
use Rattle.sheet.specs.Area.{row_weight}
use Rattle.drainage.specs.Total.{own_values}
use Rattle.drainage.proofs.Lists.{filled}
use Rattle.drainage.proofs.measure.own_weights.Given as goal

abbrev pub invariant-loop-row : goal.invariant-loop-row
invariant-loop-row l =
    (l.row ≤ l.grid.rows) × (l.totals ≡ filled (own_values l.grid.dirs.now (row_weight l.grid.cols l.weights)) (l.row * l.grid.cols) l.initial.totals)
