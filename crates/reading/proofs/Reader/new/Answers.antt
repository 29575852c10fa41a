-- `new` meets its contract.
use Rattle.reading.proofs.Reader.new.Goals as goal

pub returns : goal.returns
returns c = rw c.new.ensures
