use Prim.Native.Nat.{◌-◌}
use lib.ListN.{get_or}
use Rattle.rivers.specs.UnitAt.{UnitAt}
use Rattle.rivers.proofs.Largest.{Passed}
use Rattle.rivers.proofs.heaviest.heaviest.Given as goal

abbrev pub invariant-loop-j : goal.invariant-loop-j
invariant-loop-j l =
    (u : UnitAt l.cell l.size l.area l.rule.split l.rule.least l.end l.initial.j l.hi)
    → Passed u l.j l.top.finished (get_or l.top.keys 0 0) (get_or l.top.keys 1 0) (get_or l.top.keys 2 0) (get_or l.top.keys 3 0)

abbrev pub decreases-loop-j : goal.decreases-loop-j
decreases-loop-j l = l.hi - l.j
