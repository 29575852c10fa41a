-- `decimal::read_digits` meets its contract. The invariant: the bytes before the place are digits, at most so many as may
-- be, and write `value`, so that the digits from there on make it the number of all.
use Rattle.std.proofs.Common.{◌≡◌, ◌<◌, ◌≤◌, ◌+◌, ◌-◌, ◌*◌, true, length, drop, get_or, sym, ◌∙◌, arith}
use Rattle.std.proofs.lemmas.List.{take_rest}
use Rattle.decimal.specs.Ascii.{digit_zero}
use Rattle.decimal.specs.Value.{is_digit, digit_run}
use Rattle.decimal.proofs.TakeWhile.{while_at_end, while_at_stop}
use Rattle.decimal.proofs.ValueLaws.{digit_there, digits_written, next_small, few_fit, digit_low, number_over, number_of}
use Rattle.decimal.proofs.read_digits.Goals as goal
use Rattle.decimal.proofs.read_digits.Goals.{Else-count-most}

-- the byte at the place is a digit
digit : (c : Else-count-most) → is_digit (get_or (drop c.args.at c.args.line.now) c.loop-count.count 0) ≡ true
digit c = sym (rw (take_rest c.args.line.now c.args.at) at c.is_digit.ensures) ∙ c.if-not-is_digit.false

-- with the digit the number stays below 10 ^ 9
fits : (c : Else-count-most)
    → c.loop-count.value * 10 + (get_or (drop c.args.at c.args.line.now) c.loop-count.count 0 - digit_zero) < 1000000000
fits c =
    few_fit _ (c.loop-count.count + 1)
    (next_small (drop c.args.at c.args.line.now) c.loop-count.count c.loop-count.value c.loop-count.invariant.2 (digit c))
    (omega (arith, c.loop-count.invariant.3, c.if-count-most.false, c.requires.1))

pub returns-then-not-is_digit : goal.returns-then-not-is_digit
returns-then-not-is_digit c =
    let l = c.loop-count in
    let s = drop c.args.at c.args.line.now in
    let rest = take_rest c.args.line.now c.args.at in
    let inside = rw rest at c.loop-count-test.true in
    let none = while_at_stop is_digit s l.count inside (sym (rw rest at c.is_digit.ensures) ∙ c.if-not-is_digit.true) in
    let all = digits_written s l.count l.value l.invariant.0 l.invariant.1 none in
    let few : length (digit_run s) ≤ c.args.most = omega (arith, all.1, l.invariant.3) in
    rw (all.0, all.1) (sym (number_of c.args.most c.args.line.now c.args.at few))

pub returns-then-count-most : goal.returns-then-count-most
returns-then-count-most c =
    let l = c.loop-count in
    let s = drop c.args.at c.args.line.now in
    let rest = take_rest c.args.line.now c.args.at in
    let inside = rw rest at c.loop-count-test.true in
    let here = digit_there s l.count inside (sym (rw rest at c.is_digit.ensures) ∙ c.if-not-is_digit.false) in
    sym (number_over c.args.most c.args.line.now c.args.at
    (omega (arith, here.1, l.invariant.1, c.if-count-most.true)))

pub overflow_mul-value : goal.overflow_mul-value
overflow_mul-value c = omega (arith, fits c)

pub overflow_sub-value : goal.overflow_sub-value
overflow_sub-value c = rw (take_rest c.args.line.now c.args.at) (digit_low _ (digit c))

pub overflow_add-value : goal.overflow_add-value
overflow_add-value c =
    rw (take_rest c.args.line.now c.args.at) (omega (arith, fits (goal.at.overflow_add-value c).Else-count-most))

pub loop-count-preserved : goal.loop-count-preserved
loop-count-preserved c =
    let l = c.loop-count in
    let s = drop c.args.at c.args.line.now in
    let rest = take_rest c.args.line.now c.args.at in
    let d = digit (goal.at.loop-count-preserved c).Else-count-most in
    let here = digit_there s l.count (rw rest at c.loop-count-test.true) d in
    rw rest (
      sym (here.0 l.value) ∙ l.invariant.0,
      omega (arith, here.1, l.invariant.1),
      next_small s l.count l.value l.invariant.2 d,
      omega (arith, l.invariant.3, c.if-count-most.false),
    )

pub returns : goal.returns
returns c =
    let l = c.loop-count in
    let s = drop c.args.at c.args.line.now in
    let none = while_at_end is_digit s l.count (omega (arith, rw (take_rest c.args.line.now c.args.at) at c.loop-count-test.false)) in
    let all = digits_written s l.count l.value l.invariant.0 l.invariant.1 none in
    let few : length (digit_run s) ≤ c.args.most = omega (arith, all.1, l.invariant.3) in
    let end : length c.args.line.now ≡ c.args.at + length (digit_run s) = omega (arith, all.1, c.requires.0) in
    rw (all.0, end) (sym (number_of c.args.most c.args.line.now c.args.at few))
