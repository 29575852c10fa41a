-- `pf_first_bad` meets its contract.
use Rattle.exports.proofs.pf_first_bad.Goals as goal

pub returns : goal.returns
returns c = c.first_bad.ensures
