-- `decimal::unpadded_value` meets its contract.
use Rattle.std.proofs.Common.{◌≡◌, true, refl, sym, ap, ◌∙◌, get_or}
use Rattle.decimal.specs.Ascii.{digit_zero}
use Rattle.decimal.specs.Value.{is_digit}
use Rattle.decimal.proofs.TakeWhile.{while_at_end, while_at_stop, while_at_next}
use Rattle.decimal.proofs.ValueLaws.{unpadded_none, unpadded_zero, unpadded_more}
use Rattle.decimal.proofs.unpadded_value.Goals as goal

pub returns-in_err-b : goal.returns-in_err-b
returns-in_err-b c =
    c.from_residual.ensures
    ∙ sym (unpadded_none _ _ _ (while_at_end is_digit c.args.line.now c.args.at c.in_err-b.ensures.lookup.3))

zero-digit : is_digit digit_zero ≡ true
unfolding is_digit
zero-digit = refl

pub returns-then-b-eq-DIGIT_ZERO : goal.returns-then-b-eq-DIGIT_ZERO
returns-then-b-eq-DIGIT_ZERO c =
    let there = c.in_ok-b.ensures.lookup.3 in
    let zero : get_or c.args.line.now c.args.at 0 ≡ digit_zero = sym (there.1 0) ∙ c.if-b-eq-DIGIT_ZERO.true in
    let run = while_at_next is_digit _ _ there.0 (ap is_digit zero ∙ zero-digit) in
    c.read_digits.ensures ∙ sym (unpadded_zero _ _ _ run zero)

pub returns-then-is_digit : goal.returns-then-is_digit
returns-then-is_digit c =
    let there = c.in_ok-b.ensures.lookup.3 in
    let digit = ap is_digit (sym (there.1 0)) ∙ sym c.is_digit.ensures ∙ c.if-is_digit.true in
    let run = while_at_next is_digit _ _ there.0 digit in
    c.read_digits-then-is_digit.ensures
    ∙ sym (unpadded_more _ _ _ run (λ z. c.if-b-eq-DIGIT_ZERO.false (there.1 0 ∙ z)))

pub returns-else-is_digit : goal.returns-else-is_digit
returns-else-is_digit c =
    let there = c.in_ok-b.ensures.lookup.3 in
    let other = ap is_digit (sym (there.1 0)) ∙ sym c.is_digit.ensures ∙ c.if-is_digit.false in
    sym (unpadded_none _ _ _ (while_at_stop is_digit _ _ there.0 other))
