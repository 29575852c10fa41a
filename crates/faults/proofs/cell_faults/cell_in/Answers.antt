-- `cell_in` meets its contract.
use Rattle.faults.specs.Faults.{cell_in}
use Rattle.faults.proofs.cell_faults.cell_in.Goals as goal

pub returns : goal.returns
unfolding cell_in
returns c = simp (c.value_of.ensures, c.value_of-2.ensures, c.value_of-3.ensures)
