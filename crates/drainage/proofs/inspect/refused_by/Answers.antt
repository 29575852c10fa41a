-- `refused_by` meets its contract.
use Rattle.sheet.specs.Refusal.{refused_at}
use Rattle.drainage.proofs.inspect.refused_by.Goals as goal

pub returns-in-Some : goal.returns-in-Some
unfolding refused_at
returns-in-Some c = rw c.in-Some.is

pub returns-in-None : goal.returns-in-None
unfolding refused_at
returns-in-None c = rw c.in-None.is
