use mathlib.Core.Path.{◌≡◌}
use Rattle.drainage.specs.Total.{own_values}
use Rattle.drainage.proofs.Lists.{filled}
use Rattle.drainage.proofs.measure.own_values.Given as goal

abbrev pub invariant-loop-c : goal.invariant-loop-c
invariant-loop-c l = l.totals ≡ filled (own_values l.dirs (λ cell. l.value)) l.c l.initial.totals
