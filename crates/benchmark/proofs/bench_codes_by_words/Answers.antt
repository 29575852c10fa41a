-- `bench_codes_by_words` meets its contract.
use mathlib.Core.Path.{sym, ◌∙◌, ap}
use native.Mathlib.Omega.{arith}
use Rattle.sheet.proofs.Cells.{cells_most}
use Rattle.directions.specs.Sizes.{Sized}
use Rattle.benchmark.specs.Cells.{cell_or, first_bad_cell}
use Rattle.benchmark.proofs.Sized.{sized}
use Rattle.benchmark.proofs.bench_codes_by_words.Goals as goal
use Rattle.benchmark.proofs.bench_codes_by_words.Goals.{Then-has_cells}

-- the sizes fit, and there is a byte for each cell
fits : (c : Then-has_cells) → let a = c.args in Sized a.rows a.cols a.dirs.now
fits c = sized _ _ _ (sym c.has_cells.ensures ∙ c.if-has_cells.true)

pub overflow_mul-rows : goal.overflow_mul-rows
overflow_mul-rows c = omega (arith, cells_most (fits c).rows_most (fits c).cols_most)

pub first_bad_code-requires : goal.first_bad_code-requires
first_bad_code-requires c = fits c

pub returns-then-has_cells : goal.returns-then-has_cells
unfolding first_bad_cell
returns-then-has_cells c =
    rw (sym c.has_cells.ensures ∙ c.if-has_cells.true)
    (c.cell_or.ensures ∙ ap (cell_or _) c.first_bad_code.ensures)

pub returns : goal.returns
unfolding first_bad_cell
returns c = rw (sym c.has_cells.ensures ∙ c.if-has_cells.false)
