use Rattle.std.proofs.Common.{◌≡◌, drop}
use Rattle.sheet.specs.Record.{number, number_from}
use Rattle.digits.proofs.number_of.Given as goal

abbrev pub invariant-loop-digit : goal.invariant-loop-digit
invariant-loop-digit l = number_from l.number (drop l.digit-index l.digits) ≡ number l.digits
