-- `lines::values::value_of` meets its contract.
use Rattle.lines.specs.Values.{value_of}
use Rattle.lines.proofs.values.value_of.Goals as goal

pub returns : goal.returns
unfolding value_of
returns c = c.value_or.ensures
