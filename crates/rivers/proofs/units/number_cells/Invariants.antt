use mathlib.Core.Path.{◌≡◌}
use Prim.Native.Nat.{◌-◌}
use lib.ListN.{length}
use Rattle.rivers.specs.Labelled.{relabelled, stands}
use Rattle.rivers.proofs.units.number_cells.Given as goal

abbrev pub invariant-loop-i : goal.invariant-loop-i
invariant-loop-i l =
    (length l.basins ≡ length l.initial.basins)
    × (relabelled (stands l.cell l.i (l.hi - l.i)) (λ c. l.number) l.basins ≡ relabelled (stands l.cell l.lo (l.hi - l.lo))
    (λ c. l.number) l.initial.basins)
