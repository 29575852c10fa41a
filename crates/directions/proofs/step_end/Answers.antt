-- `step_end` meets its contract.
use mathlib.Core.Path.{◌≡◌, sym, ◌∙◌}
use Prim.Native.Nat.{◌<◌, ◌+◌, ◌*◌}
use native.Mathlib.Omega.{arith}
use Rattle.sheet.specs.Direction.{moved_by}
use Rattle.directions.proofs.Signed.{read_step}
use Rattle.sheet.proofs.Cells.{cells_most, cell_lt, moved_lt, end_off_row, end_off_col, end_at}
use Rattle.directions.proofs.step_end.Goals as goal
use Rattle.directions.proofs.step_end.Goals.{After-moved, After-moved-2, In_ok-to_col}

-- what the two calls answer
row_is : (c : After-moved)
    → let a = c.args in c.moved.result ≡ moved_by a.row a.s.row a.rows
row_is c = rw (read_step _ c.requires.1.rows) at c.moved.ensures

-- what the two calls answer
row_is-In_ok-to_col : (c : In_ok-to_col)
    → let a = c.args in c.moved.result ≡ moved_by a.row a.s.row a.rows
row_is-In_ok-to_col c = rw (read_step _ c.requires.1.rows) at c.moved.ensures

col_is : (c : After-moved-2)
    → let a =
    c.args in c.moved-2.result ≡ moved_by a.col a.s.col
    a.cols
col_is c =
    rw (read_step _ c.requires.1.cols) at c.moved-2.ensures

col_is-In_ok-to_col : (c : In_ok-to_col)
    → let a =
    c.args in c.moved-2.result ≡ moved_by a.col a.s.col
    a.cols
col_is-In_ok-to_col c =
    rw (read_step _ c.requires.1.cols) at c.moved-2.ensures

pub returns-in_err-to_row : goal.returns-in_err-to_row
returns-in_err-to_row c = c.from_residual.ensures ∙ end_off_row _ _ _ _ _ (sym (row_is (goal.at.returns-in_err-to_row c).After-moved) ∙ c.in_err-to_row.was)

pub returns-in_err-to_col : goal.returns-in_err-to_col
returns-in_err-to_col c =
    c.from_residual-in_err-to_col.ensures ∙ end_off_col _ _ _ _ _ (sym (row_is (goal.at.returns-in_err-to_col c).After-moved) ∙ c.in_ok-to_row.was)
    (sym (col_is (goal.at.returns-in_err-to_col c).After-moved-2) ∙ c.in_err-to_col.was)

-- the cell lies on the sheet
at_lt : (c : In_ok-to_col) → c.in_ok-to_row.to_row * c.args.cols + c.in_ok-to_col.to_col < 65536
at_lt c =
    let p = c.requires.0 in
    let hr = moved_lt _ _ (sym (row_is-In_ok-to_col c) ∙ c.in_ok-to_row.was) in
    let hc = moved_lt _ _ (sym (col_is-In_ok-to_col c) ∙ c.in_ok-to_col.was) in
    omega (arith, cell_lt hr hc, cells_most p.rows_most p.cols_most)

pub overflow_mul-result : goal.overflow_mul-result
overflow_mul-result c = omega (arith, at_lt c)

pub overflow_add-result : goal.overflow_add-result
overflow_add-result c = omega (arith, at_lt c)

pub returns : goal.returns
returns c =
    end_at _ _ _ _ _ (sym (row_is (goal.at.returns c).After-moved) ∙ c.in_ok-to_row.was)
    (sym (col_is (goal.at.returns c).After-moved-2) ∙ c.in_ok-to_col.was)
