-- `all_digits` meets its contract: the iterator's `all` has the answer of the test of every entry.
use Rattle.std.proofs.Common.{rules, tests, sym, ◌∙◌}
use Rattle.std.proofs.lemmas.Iterator.{YieldsList-from_slice}
use Rattle.std.proofs.lemmas.Iterator.Search.{all_from_yields_List}
use Rattle.sheet.specs.Refusal.{within}
use Rattle.digits.proofs.Places.{every_all}
use Rattle.digits.proofs.all_digits.Goals as goal

pub returns : goal.returns
unfolding within
returns c =
    all_from_yields_List (within 9) _ _ _ c.all.ensures.ran (YieldsList-from_slice c.args.digits.now cc) (λ x b q k. search (rules, tests))
    ∙ sym (every_all (within 9) c.args.digits.now)
