use mathlib.Core.Path.{◌≡◌}
use mathlib.Core.Bool.{false}
use Prim.Native.Nat.{ℕ, ◌<◌, ◌≤◌}
use Rattle.directions.specs.Sizes.{grid_of}
use Rattle.sheet.specs.Refusal.{bad_code}
use Rattle.checks.proofs.codes.first_bad_from.Given as goal

abbrev pub invariant-loop-cell : goal.invariant-loop-cell
invariant-loop-cell l = (k : ℕ) → k < l.cell → l.from ≤ k → bad_code (grid_of l.grid) k ≡ false
