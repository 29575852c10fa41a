-- `number_of` meets its contract: the number gathered, and the digits from here on, give the whole number.
use Rattle.std.proofs.Common.{arith, refl, sym, ◌∙◌}
use Rattle.sheet.specs.Record.{number}
use Rattle.digits.proofs.Places.{number_turn, number_end, number_room}
use Rattle.digits.proofs.number_of.Goals as goal

pub loop-digit-init : goal.loop-digit-init
unfolding number
loop-digit-init c = refl

pub overflow_mul-number : goal.overflow_mul-number
overflow_mul-number c =
    let l = c.loop-digit in
    omega (arith, number_room l.number c.args.digits.now l.digit-index c.loop-digit-test.true, l.invariant, c.requires)

pub overflow_add-number : goal.overflow_add-number
overflow_add-number c =
    let l = c.loop-digit in
    omega (arith, number_room l.number c.args.digits.now l.digit-index c.loop-digit-test.true, l.invariant, c.from.ensures, c.requires)

pub loop-digit-preserved : goal.loop-digit-preserved
loop-digit-preserved c =
    rw c.from.ensures (number_turn c.loop-digit.number _ _ c.loop-digit-test.true ∙ c.loop-digit.invariant)

pub returns : goal.returns
returns c = sym (number_end _ _ _ c.loop-digit-test.false) ∙ c.loop-digit.invariant
