-- `first_missing` meets its contract: the search finds the place of the first unit that has not come.
use Rattle.std.proofs.Common.{rules, tests, ◌≡◌, sym, ap, ◌∙◌}
use native.Mathlib.Numerals.{add-one}
use Rattle.std.proofs.lemmas.Iterator.{YieldsList-from_slice}
use Rattle.std.proofs.lemmas.Iterator.Adapters.{position_from-zero}
use Rattle.std.proofs.lemmas.Iterator.Search.{position_from_yields_List}
use Rattle.plan.specs.Steps.{missing_in}
use Rattle.plan.proofs.Come.{missing_at, is_zero, missing_found}
use Rattle.plan.proofs.first_missing.Goals as goal
use Rattle.plan.proofs.first_missing.Goals.{After-position}

found : (c : After-position) → missing_at c.position.result ≡ missing_in 0 c.args.work.now
found c =
    let work = c.args.work.now in
    ap missing_at (position_from_yields_List is_zero c.position.new.self _ c.position.result c.position.ensures.ran
    (YieldsList-from_slice work cc) (λ x b q k. search (rules, tests))
    ∙ position_from-zero is_zero work)
    ∙ sym (missing_found 0 work)

pub returns-in-Some : goal.returns-in-Some
returns-in-Some c =
    rw (add-one c.in-Some.place) (ap missing_at (sym c.in-Some.is) ∙ found (goal.at.returns-in-Some c).After-position)

pub returns-in-None : goal.returns-in-None
returns-in-None c = ap missing_at (sym c.in-None.is) ∙ found (goal.at.returns-in-None c).After-position
