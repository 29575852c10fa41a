-- `is_code` meets its contract.
use mathlib.Core.Path.{◌∙◌, ap}
use Prim.Native.Nat.{ℕ}
use lib.Dec.{eqb}
use Rattle.directions.proofs.LowestBits.{code_alone_lem}
use Rattle.directions.proofs.is_code.Goals as goal

pub returns : goal.returns
returns c =
    ap (λ (x : ℕ). eqb x 8) c.first_bad.ensures ∙ code_alone_lem c.args.byte c.ranges.byte.fits
