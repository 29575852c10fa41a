use mathlib.Core.Path.{◌≡◌}
use mathlib.Core.List.{map}
use lib.ListN.{length, drop}
use Rattle.order.specs.Keys.{cell_of}
use Rattle.order.specs.Places.{positioned, PositionsFit}
use Rattle.order.proofs.positions.place_donors.Given as goal

abbrev pub invariant-loop-key : goal.invariant-loop-key
invariant-loop-key l =
    (length l.work ≡ length l.initial.work) × PositionsFit l.n l.at (map cell_of (drop l.key-index l.keys)) l.work
    × (positioned l.n l.at (map cell_of (drop l.key-index l.keys)) l.work ≡ positioned l.n l.first (map cell_of l.keys) l.initial.work)
