use Rattle.digits.proofs.NumberPlaces.{Putting}
use Rattle.digits.proofs.put_number.Given as goal

abbrev pub invariant-loop-m : goal.invariant-loop-m
invariant-loop-m l = Putting l.number l.end l.initial.out l.out l.at l.room l.m

abbrev pub decreases-loop-m : goal.decreases-loop-m
decreases-loop-m l = l.m
