-- `lines::values::value_or` meets its contract.
use Rattle.std.proofs.Common.{rules, tests, ◌≡◌, refl, sym, ap, get_or, arith, ◌∙◌}
use Rattle.std.proofs.lemmas.Iterator.{YieldsList-from_slice}
use Rattle.std.proofs.lemmas.Iterator.Search.{position_from_yields_List}
use Rattle.std.specs.List.{position}
use Rattle.lines.specs.Columns.{same_column}
use Rattle.lines.specs.Values.{value_or}
use Rattle.lines.proofs.ColumnLaws.{equal_is}
use Rattle.lines.proofs.values.value_or.Goals as goal
use Rattle.lines.proofs.values.value_or.Goals.{After-position}

-- what the search gives is the place of the first column of the name
found : (c : After-position)
    → c.position.result ≡ position (λ y. same_column y c.args.column) c.args.columns.places
found c =
    position_from_yields_List (λ y. same_column y c.args.column) _ _ c.position.result c.position.ensures.ran
    (YieldsList-from_slice c.args.columns.places c.iter.ensures.rest) (λ x b q k. search (rules, tests, equal_is))

pub returns-in-Some : goal.returns-in-Some
unfolding value_or
returns-in-Some c =
    rw (sym (found (goal.at.returns-in-Some c).After-position) ∙ c.in-Some.is)
    (ap (λ k. get_or c.args.values.places k 0) (omega arith))

pub returns-in-None : goal.returns-in-None
unfolding value_or
returns-in-None c = rw (sym (found (goal.at.returns-in-None c).After-position) ∙ c.in-None.is) refl
