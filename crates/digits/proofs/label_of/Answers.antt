-- what `label_of` is to show of the digits that it reads
use native.Mathlib.Omega.{arith}
use mathlib.Core.Path.{sym, ◌∙◌}
use Rattle.sheet.proofs.Within.{digits_every, depth_most}
use Rattle.digits.proofs.label_of.Goals as goal

pub record_of-requires : goal.record_of-requires
record_of-requires c =
    let most = depth_most _ (sym c.depth_fits.ensures ∙ c.if-not-depth_fits.false) in
    (digits_every _ (sym c.all_digits.ensures ∙ c.if-not-all_digits.false), omega arith)
