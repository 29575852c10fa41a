use mathlib.Core.Path.{◌≡◌}
use Rattle.drainage.specs.Total.{value_at}
use Rattle.drainage.proofs.Lists.{filled}
use Rattle.drainage.proofs.measure.copy.Given as goal

abbrev pub invariant-loop-i : goal.invariant-loop-i
invariant-loop-i l = l.to ≡ filled (value_at l.from) l.i l.initial.to
