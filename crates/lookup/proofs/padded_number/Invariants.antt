use mathlib.Core.Path.{◌≡◌}
use Prim.Native.Nat.{◌-◌, ◌^◌, ◌<◌}
use Rattle.lookup.specs.PaddedHalves.{padded_number}
use Rattle.lookup.proofs.padded_number.Given as goal

abbrev pub invariant-loop-m : goal.invariant-loop-m
invariant-loop-m l = (padded_number l.m ≡ padded_number l.number) × (0 < l.m)

abbrev pub decreases-loop-m : goal.decreases-loop-m
decreases-loop-m l = 10 ^ 17 - l.m
