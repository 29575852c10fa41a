-- `before_last_odd` meets its contract.
use mathlib.Core.Path.{sym, ap, ◌∙◌}
use Prim.Native.Nat.{ℕ}
use Rattle.sheet.specs.Record.{label_of_numbers}
use Rattle.plan.proofs.LastOdd.{label_in_first, label_in_rest}
use Rattle.plan.proofs.before_last_odd.Goals as goal

pub returns-then-rest-eq0 : goal.returns-then-rest-eq0
returns-then-rest-eq0 c =
    ap (λ (m : ℕ). label_of_numbers m 0) c.without_last_odd-first.ensures
    ∙ label_in_first c.args.p c.requires (sym c.without_last_odd-rest.ensures ∙ c.if-rest-eq0.true)

pub returns : goal.returns
returns c =
    ap (label_of_numbers c.args.p.first) c.without_last_odd-rest.ensures
    ∙ label_in_rest c.args.p c.requires (λ e. c.if-rest-eq0.false (c.without_last_odd-rest.ensures ∙ e))
