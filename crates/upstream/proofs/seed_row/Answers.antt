-- `seed_row` meets its contract: before each turn the outlets of the cells before it are queued.
use mathlib.Core.Path.{◌≡◌, refl, ◌∙◌}
use Prim.Native.Nat.{◌+◌, ◌*◌}
use native.Mathlib.Omega.{arith}
use Rattle.sheet.proofs.Cells.{row_end}
use Rattle.upstream.proofs.seed_row.Goals as goal

pub loop-col-init : goal.loop-col-init
loop-col-init c =
    let a = c.args in
    let e : a.row * a.grid.cols + 0 ≡ a.row * a.grid.cols = omega arith in
    (omega arith, refl, rw e c.requires.2, refl)

pub push_outlet-last-requires : goal.push_outlet-last-requires
push_outlet-last-requires c =
    let p = c.requires in (
      p.0,
      record { rows_most = p.0.rows_most; cols_most = p.0.cols_most; row_on = p.1; col_on = c.loop-col-test.true },
      c.loop-col.invariant.2,
    )

pub loop-col-preserved : goal.loop-col-preserved
loop-col-preserved c =
    let a = c.args in
    let l = c.loop-col in
    let e : a.row * a.grid.cols + (l.col + 1) ≡ a.row * a.grid.cols + l.col + 1 = omega arith in (
      omega arith,
      c.push_outlet-last.auto.work ∙ l.invariant.1,
      rw e c.push_outlet-last.ensures.0,
      c.push_outlet-last.ensures.1 ∙ l.invariant.3,
    )

pub shape_of-work : goal.shape_of-work
shape_of-work c = c.loop-col.invariant.1

pub returns : goal.returns
returns c =
    let a = c.args in
    let l = c.loop-col in
    let e : a.row * a.grid.cols + l.col ≡ (a.row + 1) * a.grid.cols = omega (arith, row_end a.row a.grid.cols) in
    (rw (← e) l.invariant.2, l.invariant.3)
