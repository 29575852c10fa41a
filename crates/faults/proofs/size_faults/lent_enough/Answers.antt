-- `lent_enough` meets its contract.
use native.Mathlib.Omega.{arith}
use Rattle.sheet.proofs.Cells.{cells_most}
use Rattle.sheet.proofs.Within.{rows_cols_most}
use Rattle.faults.proofs.size_faults.lent_enough.Goals as goal

pub overflow_mul-sizes : goal.overflow_mul-sizes
overflow_mul-sizes c = let most = rows_cols_most _ _ c.requires in omega (arith, cells_most most.0 most.1)
