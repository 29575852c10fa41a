use mathlib.Core.Path.{◌≡◌}
use Prim.Native.Nat.{◌+◌, ◌-◌, ◌≤◌}
use lib.ListN.{length, drop}
use Rattle.index.specs.Steps.{groups_of}
use Rattle.index.proofs.units.count_units.Given as goal

abbrev pub invariant-loop-first : goal.invariant-loop-first
invariant-loop-first l =
    (l.first ≤ length l.cells) × (l.count ≤ l.first) ×
    (l.count + length (groups_of (drop l.first l.cells) l.labels l.basins) ≡ length (groups_of l.cells l.labels l.basins))

abbrev pub decreases-loop-first : goal.decreases-loop-first
decreases-loop-first l = length l.cells - l.first
