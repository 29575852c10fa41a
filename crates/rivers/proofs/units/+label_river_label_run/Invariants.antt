-- The measure of the two functions is the digits left, and then the run's length. Invariant: the unit's cells are
-- labelled as far as the walk has come, whatever unit lies at these positions.
use Rattle.std.proofs.Common.{◌-◌, ◌+◌, ◌≡◌, length, get_or}
use Rattle.rivers.specs.Labelled.{unit_labelled}
use Rattle.rivers.specs.Prefix.{Prefix}
use Rattle.rivers.specs.UnitAt.{UnitAt}
use Rattle.rivers.proofs.Bounds.{measure}
use Rattle.rivers.proofs.Progress.{Progress}
use Rattle.rivers.proofs.units.+label_river_label_run.Given as goal

abbrev pub decreases-label_river : goal.decreases-label_river
decreases-label_river l = measure l.digits (get_or l.size.now l.j 0 + 1)

abbrev pub decreases-label_run : goal.decreases-label_run
decreases-label_run l = measure l.digits (l.span.hi - l.span.lo)

abbrev pub invariant-label_run-loop-j : goal.invariant-label_run-loop-j
invariant-label_run-loop-j l =
    (length l.labels ≡ length l.initial.labels)
    × ((u : UnitAt l.cell l.size l.area l.rule.split l.rule.least l.end l.initial.lo l.hi) (p : Prefix l.prefix l.digits)
    → Progress u.of.network u.run l.cell l.size l.end l.hi l.left p.gathered
    (unit_labelled u.of.network u.run l.digits p.gathered l.initial.labels) l.labels l.digit l.lo l.j)

abbrev pub decreases-label_run-loop-j : goal.decreases-label_run-loop-j
decreases-label_run-loop-j l = l.hi - l.j
