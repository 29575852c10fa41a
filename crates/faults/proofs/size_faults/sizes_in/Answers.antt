-- `sizes_in` meets its contract.
use Rattle.faults.specs.Faults.{sizes_in}
use Rattle.faults.proofs.size_faults.sizes_in.Goals as goal

pub returns : goal.returns
unfolding sizes_in
returns c =
    simp (
      c.value_of.ensures,
      c.value_of-2.ensures,
      c.value_of-3.ensures,
      c.value_or.ensures,
      c.value_or-2.ensures,
    )
