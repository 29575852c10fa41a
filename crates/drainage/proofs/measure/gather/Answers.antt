-- `gather` meets its contract: before each turn the totals are gathered down to the cells of the queue that are left.
use mathlib.Core.Path.{◌≡◌, sym, ◌∙◌, ap}
use mathlib.Core.List.{List, [], ◌∷◌}
use Prim.Native.Nat.{ℕ, ◌+◌, ◌<◌}
use native.Mathlib.Omega.{arith}
use lib.ListN.{length, take, get_or, length-append}
use lib.Seq.{length-take-le}
use Rattle.std.proofs.Common.{rules}
use Rattle.upstream.proofs.Queues.{queued_most}
use Rattle.drainage.proofs.Gathering.{Gathered, gathered_start, gathered_more, gathered_end, adds, last_left}
use Rattle.drainage.proofs.measure.gather.Goals as goal
use Rattle.drainage.proofs.measure.gather.Goals.{In-Some}

pub loop-cell-init : goal.loop-cell-init
loop-cell-init c =
    let a = c.args in
    let left = c.into_iter-cell-iterator.result.iter.rest.now in
    let all : left ≡ take a.queued a.work.now = search rules in
    let long : length left ≡ a.queued = ap length all ∙ length-take-le a.queued a.work.now
    (omega (arith, queued_most c.requires.queue, c.requires.queue.room)) in
    (all ∙ ap (λ (k : ℕ). take k a.work.now) (sym long), omega arith, rw long (gathered_start c.requires))

-- the cell that is taken, and those that are left after it
module _ (c : In-Some) where
  abbrev left : List ℕ
  left = c.next.new.self.iter.rest.now

  one : length c.loop-cell.cell-iterator.iter.rest.now ≡ length left + 1
  one = ap length c.in-Some.ensures.steps ∙ length-append left (c.in-Some.cell.now ∷ [])

  last : (left ≡ take (length left) c.args.work.now) × (c.in-Some.cell.now ≡ get_or c.args.work.now (length left) 0)
  last = last_left c.args.work.now left c.in-Some.cell.now (rw c.in-Some.ensures.steps at c.loop-cell.invariant.0)

  on : length left < c.args.queued
  on = omega (arith, one)

  gathered : Gathered c.args.n c.args.work.now (length left + 1) c.args.totals.now c.loop-cell.totals
  gathered = rw one at c.loop-cell.invariant.2

pub add_to_receiver-requires : goal.add_to_receiver-requires
add_to_receiver-requires c =
    let at = (goal.at.add_to_receiver-requires c).In-Some in
    rw (last at).1 (adds c.requires (on at) (gathered at))

pub loop-cell-preserved : goal.loop-cell-preserved
loop-cell-preserved c =
    let at = (goal.at.loop-cell-preserved c).In-Some in
    let less : length (left at) < c.args.queued = on at in (
      (last at).0,
      omega arith,
      rw (c.add_to_receiver.ensures, (last at).1) (gathered_more c.requires (on at) (gathered at)),
    )

pub returns : goal.returns
returns c = gathered_end c.requires (rw c.in-None.ensures.steps.0 at c.loop-cell.invariant.2)
