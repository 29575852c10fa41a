-- `push` meets its contract.
use mathlib.Core.Path.{refl}
use native.Mathlib.Omega.{arith}
use lib.ListN.{length-set}
use Rattle.upstream.specs.Work.{pushed}
use Rattle.upstream.proofs.push.Goals as goal

pub bounds-work-n : goal.bounds-work-n
bounds-work-n c = simp length-set (omega arith)

pub bounds-work-n-2 : goal.bounds-work-n-2
bounds-work-n-2 c = simp length-set (omega arith)

pub returns : goal.returns
unfolding pushed
returns c = (refl, refl)
