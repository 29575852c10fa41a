use mathlib.Core.Path.{◌≡◌}
use mathlib.Core.List.{List}
use Prim.Native.Nat.{ℕ, ◌≤◌}
use lib.ListN.{length, take}
use Rattle.drainage.proofs.Gathering.{Gathered}
use Rattle.drainage.proofs.measure.gather.Given as goal

-- the cells of the queue that are left
abbrev pub invariant-loop-cell : goal.invariant-loop-cell
invariant-loop-cell l =
    let left : List ℕ = l.cell-iterator.iter.rest.now in
    (left ≡ take (length left) l.work) × (length left ≤ l.queued) × Gathered l.n l.work (length left) l.initial.totals l.totals
