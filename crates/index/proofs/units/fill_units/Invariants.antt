use Prim.Native.Nat.{◌-◌}
use lib.ListN.{length}
use Rattle.index.specs.Index.{lent_index}
use Rattle.index.proofs.Filling.{Filling}
use Rattle.index.proofs.units.fill_units.Given as goal

abbrev pub invariant-loop-first : goal.invariant-loop-first
invariant-loop-first l =
    Filling l.cells l.labels l.basins (lent_index l.initial.units l.initial.outlets l.initial.counts l.initial.unit_basins)
    (lent_index l.units l.outlets l.counts l.unit_basins) l.at l.first

abbrev pub decreases-loop-first : goal.decreases-loop-first
decreases-loop-first l =
    length l.cells - l.first
