-- `unit_at` meets its contract.
use Rattle.checks.proofs.unit_at.Goals as goal

pub returns : goal.returns
returns c = rw c.label_at.ensures
