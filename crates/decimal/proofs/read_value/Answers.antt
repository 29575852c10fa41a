-- `decimal::read_value` meets its contract.
use mathlib.Core.Path.{sym, ap, ◌∙◌}
use native.Mathlib.Omega.{arith}
use Rattle.decimal.specs.Value.{unpadded_at, found_values}
use Rattle.decimal.proofs.ValueLaws.{value_over, value_over_blanks, value_after_blanks}
use Rattle.decimal.proofs.read_value.Goals as goal

pub returns-then-most-gt-MOST_DIGITS : goal.returns-then-most-gt-MOST_DIGITS
returns-then-most-gt-MOST_DIGITS c = let e = (sym (value_over _ _ _ c.if-most-gt-MOST_DIGITS.true)) in record { value = e; values = ap found_values e }

pub returns-then-start-at-gt-MOST_BLANKS : goal.returns-then-start-at-gt-MOST_BLANKS
returns-then-start-at-gt-MOST_BLANKS c = let e = (sym (value_over_blanks _ _ _ (omega arith))) in record { value = e; values = ap found_values e }

pub returns : goal.returns
returns c =
    let e = (c.unpadded_value.ensures ∙ ap (unpadded_at _ _) c.blanks_end-start.ensures ∙ sym
    (value_after_blanks _ _ _ c.if-most-gt-MOST_DIGITS.false (omega arith))) in record { value = e; values = ap found_values e }
