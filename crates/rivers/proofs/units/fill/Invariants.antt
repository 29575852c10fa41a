use mathlib.Core.Path.{◌≡◌}
use Prim.Native.Nat.{◌-◌}
use lib.ListN.{length}
use Rattle.rivers.specs.Labelled.{cells_labelled, stands}
use Rattle.rivers.proofs.units.fill.Given as goal

abbrev pub invariant-loop-j : goal.invariant-loop-j
invariant-loop-j l =
    (length l.labels ≡ length l.initial.labels)
    × (cells_labelled (stands l.cell l.j (l.hi - l.j)) (λ c. l.prefix) l.labels ≡ cells_labelled (stands l.cell l.lo (l.hi - l.lo))
    (λ c. l.prefix) l.initial.labels)
