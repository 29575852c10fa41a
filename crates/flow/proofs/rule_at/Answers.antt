-- `rule_at` meets its contract: the iterator's `all` has the answer of the test of p's digits from there on.
use Rattle.std.proofs.Common.{◌≡◌, ◌-◌, length, take, drop, sym, ◌∙◌, rules, tests, arith, length-drop}
use Rattle.std.proofs.lemmas.Iterator.{YieldsList-from_slice}
use Rattle.std.proofs.lemmas.Iterator.Search.{all_from_yields_List}
use borrow.Author.Tests.{lt-ltb, le-ltb}
use lib.Seq.{take_all}
use Rattle.sheet.specs.Flow.{every, is_odd, rule_at}
use Rattle.digits.proofs.Places.{every_all}
use Rattle.flow.proofs.rule_at.Goals as goal

pub returns-then-p-i : goal.returns-then-p-i
unfolding rule_at
returns-then-p-i c =
    let p = c.args.p.now in
    let i = c.args.i in
    let to-end : take (length p - i) (drop i p) ≡ drop i p = take_all (length p - i) (drop i p) (rw (length-drop i p) (omega arith)) in
    let all : c.all.result ≡ every is_odd (drop i p) =
    all_from_yields_List is_odd _ _ _ c.all.ensures.ran (YieldsList-from_slice (drop i p) (c.iter.ensures.rest ∙ to-end)) (λ x b q k. search (rules, tests))
    ∙ sym (every_all is_odd (drop i p)) in
    simp (lt-ltb _ _ c.if-p-i.true, all)

pub returns-else-p-i : goal.returns-else-p-i
unfolding rule_at
returns-else-p-i c = simp (le-ltb _ _ c.if-p-i.false)
