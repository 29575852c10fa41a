-- `first_target` meets its contract: before each turn no cell before it is the target.
use mathlib.Core.Path.{◌≡◌, refl, sym, ◌∙◌}
use Prim.Native.Nat.{◌+◌, ◌*◌}
use native.Mathlib.Omega.{arith}
use borrow.Author.Count.{below_more}
use Rattle.sheet.specs.Sheet.{grid}
use Rattle.directions.specs.Sizes.{OnSheet}
use Rattle.checks.specs.Search.{is_target}
use Rattle.sheet.proofs.Cells.{row_end}
use Rattle.directions.proofs.Sizes.{on_lt, on_fits}
use Rattle.sheet.proofs.First.{first_none, first_at_lem}
use Rattle.checks.proofs.first_target.Goals as goal
use Rattle.checks.proofs.first_target.Goals.{After-is_target, In-loop-col}

pub rows-init : goal.rows-init
rows-init c = (omega arith, refl, λ k h. absurd (omega arith))

pub loop-col-init : goal.loop-col-init
loop-col-init c = (omega arith, c.rows.invariant.1, λ k h. c.rows.invariant.2 k (omega arith))

-- the row and the column lie on the sheet
on : (c : In-loop-col)
    → let a =
    c.args in OnSheet a.grid.rows a.grid.cols
    c.rows.row c.loop-col.col
on c =
    let p = c.requires.0 in
    record { rows_most = p.rows_most; cols_most = p.cols_most; row_on = c.rows-test.true; col_on = c.loop-col-test.true }

pub is_target-requires : goal.is_target-requires
is_target-requires c = let p = c.requires in (p.0, on c, p.1)

pub overflow_mul-found : goal.overflow_mul-found
overflow_mul-found c = omega (arith, on_fits (on (goal.at.overflow_mul-found c).In-loop-col))

pub overflow_add-found : goal.overflow_add-found
overflow_add-found c = omega (arith, on_fits (on (goal.at.overflow_add-found c).In-loop-col))

-- what the call answers
target_is : (c : After-is_target)
    → let a = c.args in
    c.is_target.result ≡ is_target (grid a.grid.rows a.grid.cols a.grid.dirs.now) a.reached.now a.target
    (c.rows.row * a.grid.cols + c.loop-col.col)
target_is c = c.is_target.ensures

pub loop-col-preserved : goal.loop-col-preserved
loop-col-preserved c =
    let l = c.loop-col in (
      omega arith,
      l.invariant.1,
      λ k h. below_more _ _ l.invariant.2 (sym (target_is (goal.at.loop-col-preserved c).After-is_target) ∙ c.if-is_target.false) k (omega arith),
    )

pub rows-preserved : goal.rows-preserved
rows-preserved c =
    let a = c.args in
    let e : c.loop-col.col ≡ a.grid.cols = omega arith in (
      omega arith,
      c.loop-col.invariant.1,
      λ k h. c.loop-col.invariant.2 k (omega (
        arith,
        row_end c.rows.row a.grid.cols,
      )),
    )

pub returns-after-rows : goal.returns-after-rows
returns-after-rows c =
    let e : c.rows.row ≡ c.args.grid.rows = omega arith in
    c.rows.invariant.1 ∙ sym (first_none _ _ (rw e at c.rows.invariant.2))

pub returns-then-is_target : goal.returns-then-is_target
returns-then-is_target c =
    let l = c.loop-col in
    sym (first_at_lem _ _ _
    (record { below = on_lt (on (goal.at.returns-then-is_target c).In-loop-col); passes = sym (target_is (goal.at.returns-then-is_target c).After-is_target) ∙ c.if-is_target.true; none_before = l.invariant.2 }))
