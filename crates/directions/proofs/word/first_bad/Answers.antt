-- `first_bad` meets its contract.
use mathlib.Core.Path.{◌∙◌, ap}
use Prim.Native.Nat.{ℕ, ◌/◌}
use lib.Count.{count_trailing_zeros}
use Rattle.sheet.specs.Word.{first_bad_of}
use Rattle.directions.proofs.LowestBits.{first_kept}
use Rattle.directions.proofs.word.first_bad.Goals as goal

pub returns : goal.returns
unfolding first_bad_of
returns c =
    ap (λ (x : ℕ). count_trailing_zeros 64 x / 8) c.clear_lowest_bits.ensures ∙ first_kept 8 c.args.word
