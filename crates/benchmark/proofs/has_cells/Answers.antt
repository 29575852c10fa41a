-- `has_cells` meets its contract.
use mathlib.Core.Path.{sym, ◌∙◌}
use native.Mathlib.Omega.{arith}
use Rattle.sheet.proofs.Cells.{cells_most}
use Rattle.sheet.proofs.Within.{rows_cols_most}
use Rattle.benchmark.specs.Cells.{has_cells}
use Rattle.benchmark.proofs.has_cells.Goals as goal

pub overflow_mul-result : goal.overflow_mul-result
overflow_mul-result c =
    let most = rows_cols_most _ _ (sym c.sizes_fit.ensures ∙ c.if-sizes_fit.true) in
    omega (arith, cells_most most.0 most.1)
