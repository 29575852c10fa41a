-- `place_outlets` meets its contract. The invariant: the first i cells of the queue are outlets and have their
-- positions.
use mathlib.Core.Path.{◌≡◌}
use native.Mathlib.Omega.{arith}
use Rattle.upstream.specs.Work.{queued_at, receiver_of}
use Rattle.order.proofs.Placing.{outlets_all, outlets_end, next_fits}
use Rattle.order.proofs.Placing.{outlets_more}
use Rattle.order.proofs.positions.place_outlets.Goals as goal
use Rattle.order.proofs.positions.place_outlets.Goals.{Else-work-n-gt0, In-loop-i}

-- the cell has no receiver
none-on : (c : Else-work-n-gt0)
    → receiver_of c.args.n c.loop-i.work
    (queued_at c.loop-i.work c.loop-i.i) ≡ 0
none-on c = omega (arith, c.if-work-n-gt0.false)

pub returns-then-work-n-gt0 : goal.returns-then-work-n-gt0
returns-then-work-n-gt0 c =
    let p = c.requires in
    let l = c.loop-i in
    outlets_end p l.invariant.1 c.loop-i-test.true c.if-work-n-gt0.true

pub overflow_add-at-in-loop-i : goal.overflow_add-at-in-loop-i
overflow_add-at-in-loop-i c = record {
  fits =
      next_fits c.requires
      c.loop-i.invariant.1 c.loop-i-test.true
      (none-on (goal.at.overflow_add-at-in-loop-i c).Else-work-n-gt0);
}

pub loop-i-preserved : goal.loop-i-preserved
loop-i-preserved c = (
  omega arith,
  outlets_more c.requires
      c.loop-i.invariant.1 c.loop-i-test.true
      (none-on (goal.at.loop-i-preserved c).Else-work-n-gt0),
)

pub returns : goal.returns
returns c =
    let l = c.loop-i in
    outlets_all c.requires l.invariant.1 (omega arith)
