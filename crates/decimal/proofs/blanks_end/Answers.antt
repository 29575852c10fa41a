use Rattle.std.proofs.Common.{rules, tests, refl, ap, ◌∙◌, arith, length, not, eqb, ◌+◌, ◌≡◌, drop}
use Rattle.std.proofs.lemmas.List.{take_rest}
use Rattle.std.proofs.lemmas.Iterator.{YieldsList-from_slice}
use Rattle.std.proofs.lemmas.Iterator.Search.{position_from_yields_List}
use Rattle.decimal.specs.Ascii.{blank}
use Rattle.decimal.specs.Value.{is_blank, blank_run}
use Rattle.decimal.proofs.TakeWhile.{while_found, while_at_end}
use Rattle.decimal.proofs.blanks_end.Goals as goal

pub returns-in_default : goal.returns-in_default
returns-in_default c =
    omega (arith, ap length (while_at_end is_blank c.args.line.now c.args.at (omega (arith, c.in_default.ensures.lookup.0))))

pub returns : goal.returns
returns c =
    let found = position_from_yields_List (λ b. not (eqb b blank)) _ _ c.position.result c.position.ensures.ran
    (YieldsList-from_slice c.in-Some.rest.now c.iter.ensures.rest) (λ x b q k. search (rules, tests)) in
    let end = c.unwrap_or.ensures ∙ while_found is_blank (λ b. not (eqb b blank)) (λ b. refl) c.in-Some.rest.now found in
    let rest : c.in-Some.rest.now ≡ drop c.args.at c.args.line.now = c.in-Some.ensures.lookup.0.2 ∙ take_rest c.args.line.now c.args.at in
    ap (λ n. c.args.at + n) (end ∙ ap (λ s. length (blank_run s)) rest)
