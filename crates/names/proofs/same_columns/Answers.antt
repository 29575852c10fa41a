-- `names::same_columns` meets its contract.
use Rattle.std.proofs.Common.{rules, tests}
use Rattle.std.proofs.lemmas.Iterator.{YieldsList-from_slice}
use Rattle.std.proofs.lemmas.Iterator.Search.{all_from_yields_List}
use Rattle.names.specs.Columns.{as_often, same_columns}
use Rattle.names.proofs.same_columns.Goals as goal

pub returns : goal.returns
unfolding same_columns
returns c =
    all_from_yields_List (λ x. as_often c.args.expected c.args.columns x) _ _ _ c.all.ensures.ran
    (YieldsList-from_slice c.args.expected.places cc) (λ x b q k. search (rules, tests))
