-- `spread` meets its contract: before each turn the donors of the cells before the head are queued.
use mathlib.Core.Path.{◌≡◌, refl, ◌∙◌}
use Prim.Native.Nat.{◌*◌, ◌≤◌}
use native.Mathlib.Omega.{arith}
use Rattle.sheet.proofs.Cells.{cells_most}
use Rattle.upstream.proofs.Queues.{queued_most}
use Rattle.upstream.proofs.Spreading.{spread_ready, spread_more}
use Rattle.upstream.proofs.spread.Goals as goal
use Rattle.upstream.proofs.spread.Goals.{At-loop-head}

pub loop-head-init : goal.loop-head-init
loop-head-init c = (omega arith, refl, c.requires.2, refl)

-- the queue ends within the sheet's cells
end_most : (c : At-loop-head)
    → c.loop-head.end ≤ c.args.grid.rows * c.args.grid.cols
end_most c = queued_most c.loop-head.invariant.2.upstream.queue

cells_fit : (c : At-loop-head)
    → c.args.grid.rows * c.args.grid.cols ≤ 65536
cells_fit c = cells_most c.requires.0.rows_most c.requires.0.cols_most

pub offset_bounds-work-head : goal.offset_bounds-work-head
offset_bounds-work-head c = omega (arith, end_most (goal.at.offset_bounds-work-head c).At-loop-head, cells_fit (goal.at.offset_bounds-work-head c).At-loop-head)

pub bounds-work-head : goal.bounds-work-head
bounds-work-head c = omega (arith, end_most (goal.at.bounds-work-head c).At-loop-head, c.loop-head.invariant.2.upstream.queue.room)

pub overflow_cast-cell : goal.overflow_cast-cell
overflow_cast-cell c = omega (arith, c.type_inv.work c.loop-head.head)

pub push_donors-end-requires : goal.push_donors-end-requires
push_donors-end-requires c = (
  c.requires.1,
  spread_ready c.requires.0 c.loop-head.invariant.2
      c.loop-head-test.true,
)

pub overflow_add-head : goal.overflow_add-head
overflow_add-head c =
    omega (
      arith,
      end_most (goal.at.overflow_add-head c).At-loop-head,
      cells_fit (goal.at.overflow_add-head c).At-loop-head,
    )

pub loop-head-smaller : goal.loop-head-smaller
loop-head-smaller c = omega (arith, end_most (goal.at.loop-head-smaller c).At-loop-head)

pub loop-head-preserved : goal.loop-head-preserved
loop-head-preserved c =
    let l = c.loop-head in
    let p = c.push_donors-end.ensures in (
      omega (arith, p.grown.more),
      c.push_donors-end.auto.work ∙ l.invariant.1,
      spread_more c.loop-head-test.true l.invariant.2 p,
      p.grown.kept ∙ l.invariant.3,
    )

pub shape_of-work : goal.shape_of-work
shape_of-work c = c.loop-head.invariant.1

pub returns : goal.returns
returns c =
    let e : c.loop-head.head ≡ c.loop-head.end = omega arith in
    (rw e at c.loop-head.invariant.2, c.loop-head.invariant.3)
