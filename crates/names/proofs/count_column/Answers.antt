-- `names::count_column` meets its contract.
use Rattle.std.proofs.Common.{rules, tests, ◌∙◌}
use Rattle.std.proofs.lemmas.Iterator.{YieldsList-from_slice}
use Rattle.std.proofs.lemmas.Iterator.Consumers.{count_from_yields_List, YieldsList-from_filter}
use Rattle.std.proofs.lemmas.List.Sums.{length-filter}
use Rattle.lines.specs.Columns.{same_column}
use Rattle.lines.proofs.ColumnLaws.{equal_is}
use Rattle.names.specs.Columns.{count_column}
use Rattle.names.proofs.count_column.Goals as goal

pub returns : goal.returns
unfolding count_column
returns c =
    let places = c.args.columns.places in
    count_from_yields_List c.filter.result c.count.result c.count.ensures.ran
    (YieldsList-from_filter _ (λ y. same_column y c.args.column) (YieldsList-from_slice places (cc))
    c.filter.ensures.closure (λ x b q k. search (rules, tests, equal_is)))
    ∙ length-filter (λ y. same_column y c.args.column) places
