-- `push_donors` meets its contract: before each turn the donors against the steps before it are queued.
use mathlib.Core.Path.{◌≡◌, refl, ◌∙◌}
use Prim.Native.Nat.{◌+◌, ◌*◌, ◌/◌, ◌%◌, ◌-◌}
use native.Mathlib.Nat.{div-add-mod'}
use native.Mathlib.Omega.{arith}
use Rattle.sheet.specs.Sheet.{grid}
use Rattle.upstream.specs.Growth.{Ready}
use Rattle.upstream.proofs.Spreading.{donors_start, donors_more, ready_more, all_pushed}
use Rattle.upstream.proofs.push_donors.Goals as goal
use Rattle.upstream.proofs.push_donors.Goals.{Start}

-- the column is what the division leaves
col_is : (c : Start)
    → let a = c.args in a.cell - (a.cell / a.grid.cols) * a.grid.cols ≡ a.cell % a.grid.cols
col_is c = omega (arith, div-add-mod' c.args.cell c.args.grid.cols)

ready : (c : Start)
    → let a =
    c.args in Ready (grid a.grid.rows a.grid.cols a.grid.dirs.now) a.work.now a.end (a.cell / a.grid.cols)
    (a.cell - (a.cell / a.grid.cols) * a.grid.cols)
ready c = rw (col_is c) c.requires.1

pub overflow_mul-col : goal.overflow_mul-col
overflow_mul-col c = omega (arith, div-add-mod' c.args.cell c.args.grid.cols)

pub overflow_sub-col : goal.overflow_sub-col
overflow_sub-col c = omega (arith, div-add-mod' c.args.cell c.args.grid.cols)

pub loop-k-init : goal.loop-k-init
loop-k-init c = (omega arith, refl, donors_start (ready (goal.at.loop-k-init c).Start))

pub push_donor-last-requires : goal.push_donor-last-requires
push_donor-last-requires c = (
  ready_more (ready (goal.at.push_donor-last-requires c).Start) c.loop-k.invariant.2,
  c.loop-k-test.true,
)

pub loop-k-preserved : goal.loop-k-preserved
loop-k-preserved c =
    let l = c.loop-k in (
      omega arith,
      c.push_donor-last.auto.work ∙ l.invariant.1,
      donors_more l.invariant.2 c.push_donor-last.ensures,
    )

pub shape_of-work : goal.shape_of-work
shape_of-work c = c.loop-k.invariant.1

pub returns : goal.returns
returns c =
    let a = c.args in
    let r = ready (goal.at.returns c).Start in
    let e : c.loop-k.k ≡ 8 = omega arith in
    let is : (a.cell / a.grid.cols) * a.grid.cols + (a.cell - (a.cell / a.grid.cols) * a.grid.cols) ≡ a.cell = omega (
      arith,
      col_is (goal.at.returns c).Start,
      div-add-mod' a.cell a.grid.cols,
    ) in
    all_pushed c.requires.0 r.on is (rw e at c.loop-k.invariant.2)
