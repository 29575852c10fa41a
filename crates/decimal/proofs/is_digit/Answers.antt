use Rattle.std.proofs.Common.{rules}
use Rattle.decimal.specs.Value.{is_digit}
use Rattle.decimal.proofs.is_digit.Goals as goal

pub returns : goal.returns
unfolding is_digit
returns c = search rules
