use Prim.Native.Nat.{◌*◌}
use Rattle.directions.specs.Sizes.{grid_of}
use Rattle.sheet.specs.Refusal.{bad_code}
use Rattle.sheet.proofs.First.{NoneBelow}
use Rattle.checks.proofs.codes.first_bad_code.Given as goal

abbrev pub invariant-loop-word : goal.invariant-loop-word
invariant-loop-word l = NoneBelow (bad_code (grid_of l.grid)) (8 * l.word)
