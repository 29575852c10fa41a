use mathlib.Core.Path.{◌≡◌}
use Prim.Native.Nat.{ℕ, ◌+◌}
use Rattle.index.proofs.Groups.{Run}
use Rattle.index.proofs.units.last_of_group.Given as goal

-- the cells from `first` to the last before `next` are of one unit
abbrev pub invariant-loop-next : goal.invariant-loop-next
invariant-loop-next l = (last : ℕ) → l.next ≡ last + 1 → Run l.cells l.labels l.basins l.first last
