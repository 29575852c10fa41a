-- `bench_codes_by_bytes` meets its contract.
use mathlib.Core.Path.{sym, ◌∙◌, ap}
use native.Mathlib.Nat.{sub-zero}
use native.Mathlib.Omega.{arith}
use Rattle.sheet.specs.Sheet.{first}
use Rattle.sheet.proofs.Cells.{cells_most}
use Rattle.directions.specs.Sizes.{Sized}
use Rattle.benchmark.specs.Cells.{cell_or, first_bad_cell}
use Rattle.benchmark.proofs.Sized.{sized}
use Rattle.benchmark.proofs.bench_codes_by_bytes.Goals as goal
use Rattle.benchmark.proofs.bench_codes_by_bytes.Goals.{Then-has_cells}

-- the sizes fit, and there is a byte for each cell
fits : (c : Then-has_cells) → let a = c.args in Sized a.rows a.cols a.dirs.now
fits c = sized _ _ _ (sym c.has_cells.ensures ∙ c.if-has_cells.true)

pub overflow_mul-rows : goal.overflow_mul-rows
overflow_mul-rows c = omega (arith, cells_most (fits c).rows_most (fits c).cols_most)

pub first_bad_from-requires : goal.first_bad_from-requires
first_bad_from-requires c = (fits c, omega arith)

pub returns-then-has_cells : goal.returns-then-has_cells
unfolding first_bad_cell first
returns-then-has_cells c =
    rw (sym c.has_cells.ensures ∙ c.if-has_cells.true)
    (c.cell_or.ensures ∙ ap (cell_or _) (rw (sub-zero _) at c.first_bad_from.ensures))

pub returns : goal.returns
unfolding first_bad_cell
returns c = rw (sym c.has_cells.ensures ∙ c.if-has_cells.false)
