use mathlib.Core.Path.{refl}
use Rattle.order.specs.Places.{entered}
use Rattle.order.proofs.positions.enter.Goals as goal

pub returns : goal.returns
unfolding entered
returns c = refl
