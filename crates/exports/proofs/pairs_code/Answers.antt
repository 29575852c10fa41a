-- `pairs_code` meets its contract.
use Rattle.exports.proofs.pairs_code.Goals as goal

pub returns-in-Ok : goal.returns-in-Ok
returns-in-Ok c = rw c.in-Ok.is
