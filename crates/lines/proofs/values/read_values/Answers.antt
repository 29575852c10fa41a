-- `lines::values::read_values` meets its contract.
use mathlib.Core.Path.{sym, ap, ◌∙◌}
use native.Mathlib.Omega.{arith}
use Rattle.lines.specs.Values.{line_values}
use Rattle.lines.proofs.ValuesLaws.{values_long, values_fit_lem}
use Rattle.lines.proofs.values.read_values.Goals as goal

pub returns-then-line-gt-LINE_BYTES : goal.returns-then-line-gt-LINE_BYTES
returns-then-line-gt-LINE_BYTES c = let e = (sym (values_long _ _ (omega arith))) in record { line = e; values = ap line_values e }

pub returns : goal.returns
returns c = let e = (c.values_in.ensures ∙ sym (values_fit_lem _ _ (omega arith))) in record { line = e; values = ap line_values e }
