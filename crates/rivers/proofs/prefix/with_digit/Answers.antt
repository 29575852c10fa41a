-- `rivers::prefix::with_digit` meets its contract.
use mathlib.Core.Path.{◌≡◌, ap}
use native.Mathlib.Omega.{arith}
use Rattle.sheet.specs.declared.Label.{Label}
use Rattle.sheet.specs.Record.{record_of}
use Rattle.rivers.proofs.Prefixes.{few_first, many_first, more_first, more_rest, prefix_rest_fits}
use Rattle.rivers.proofs.prefix.with_digit.Goals as goal

pub returns-then-prefix-lt-LEAST_OF_18_DIGITS : goal.returns-then-prefix-lt-LEAST_OF_18_DIGITS
returns-then-prefix-lt-LEAST_OF_18_DIGITS c = λ gathered d e.
    let first : c.args.prefix.first ≡ (record_of gathered).first = ap (λ (p : Label). p.first) e in
    let few = few_first gathered d (omega (arith, first, c.if-prefix-lt-LEAST_OF_18_DIGITS.true)) in
    rw first (more_first gathered d c.args.digit few)

pub overflow_mul-result-2 : goal.overflow_mul-result-2
overflow_mul-result-2 c = omega (arith, prefix_rest_fits c.requires.prefix)

pub overflow_add-result-2 : goal.overflow_add-result-2
overflow_add-result-2 c = omega (arith, prefix_rest_fits c.requires.prefix)

pub returns : goal.returns
returns c = λ gathered d e.
    let first : c.args.prefix.first ≡ (record_of gathered).first = ap (λ (p : Label). p.first) e in
    let rest : c.args.prefix.rest ≡ (record_of gathered).rest = ap (λ (p : Label). p.rest) e in
    let many = many_first gathered d (omega (arith, first, c.if-prefix-lt-LEAST_OF_18_DIGITS.false)) in
    rw (first, rest) (more_rest gathered d c.args.digit many)
