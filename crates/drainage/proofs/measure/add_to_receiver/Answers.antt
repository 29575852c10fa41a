-- `add_to_receiver` meets its contract.
use mathlib.Core.Path.{◌≡◌}
use Prim.Native.Nat.{ℕ, ◌+◌, ◌-◌, ◌<◌}
use native.Mathlib.Omega.{arith}
use Rattle.upstream.specs.Work.{receiver_of}
use Rattle.drainage.proofs.Gathering.{added_none, added_some}
use Rattle.drainage.proofs.measure.add_to_receiver.Goals as goal
use Rattle.drainage.proofs.measure.add_to_receiver.Goals.{Then-receiver-ne0}

abbrev receiver : Then-receiver-ne0 → ℕ
receiver c =
    receiver_of c.args.n c.args.work.now c.args.cell

-- the receiver's number is one more than its cell
is : (c : Then-receiver-ne0) → receiver c ≡ receiver c - 1 + 1
is c = omega (arith, c.if-receiver-ne0.true)

on : (c : Then-receiver-ne0) → receiver c - 1 < c.args.n
on c = c.requires.receiver_on (receiver c - 1) (is c)

pub bounds-totals-to : goal.bounds-totals-to
bounds-totals-to c = omega (arith, on (goal.at.bounds-totals-to c).Then-receiver-ne0, c.requires.room)

pub bounds-totals-to-then-receiver-ne0 : goal.bounds-totals-to-then-receiver-ne0
bounds-totals-to-then-receiver-ne0 c = omega (arith, on (goal.at.bounds-totals-to-then-receiver-ne0 c).Then-receiver-ne0, c.requires.room)

pub returns-then-receiver-ne0 : goal.returns-then-receiver-ne0
returns-then-receiver-ne0 c = added_some _ _ (receiver (goal.at.returns-then-receiver-ne0 c).Then-receiver-ne0) (omega (arith, c.if-receiver-ne0.true))

pub returns-else-receiver-ne0 : goal.returns-else-receiver-ne0
returns-else-receiver-ne0 c = added_none _ _ _ c.if-receiver-ne0.false
