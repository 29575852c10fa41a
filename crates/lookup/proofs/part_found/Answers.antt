-- `part_found` meets its contract: the units below the padded leading digits in their basin stand before them, those
-- below their end stand before them or begin so.
use native.Mathlib.Omega.{arith}
use mathlib.Core.Path.{◌≡◌, ◌∙◌}
use mathlib.Core.List.{List}
use Prim.Native.Nat.{◌+◌, ◌-◌}
use Rattle.sheet.specs.declared.UnitName.{UnitName}
use Rattle.sheet.specs.Record.{labels_in, units_in}
use Rattle.lookup.specs.Lookup.{start_of, length_of}
use Rattle.lookup.proofs.Limits.{start_below, end_below}
use Rattle.lookup.proofs.part_found.Goals as goal
use Rattle.lookup.proofs.part_found.Goals.{After-count_below-end, After-count_below-start}

abbrev units_at : After-count_below-start → List UnitName
units_at c = units_in c.args.basins.now (labels_in c.args.labels.now)

abbrev units_at-After-count_below-end : After-count_below-end → List UnitName
units_at-After-count_below-end c = units_in c.args.basins.now (labels_in c.args.labels.now)

-- how many stand before the leading digits
start_is : (c : After-count_below-start) → c.count_below-start.result ≡ start_of c.args.leading (units_at c)
start_is c =
    (rw c.padded.ensures.whole at c.count_below-start.ensures)
    ∙ start_below c.args.leading _ _ c.requires.label_value c.requires.labels_value

-- how many stand before them or begin so
end_is : (c : After-count_below-end)
    → c.count_below-end.result
    ≡ start_of c.args.leading (units_at-After-count_below-end c) + length_of c.args.leading (units_at-After-count_below-end c)
end_is c =
    (rw c.padded_end.ensures.whole at c.count_below-end.ensures)
    ∙ end_below c.args.leading _ _ c.requires.label_value c.requires.labels_value

pub overflow_sub-result : goal.overflow_sub-result
overflow_sub-result c = omega (arith, start_is (goal.at.overflow_sub-result c).After-count_below-start, end_is c)

pub returns : goal.returns
returns c =
    let begin = start_is (goal.at.returns c).After-count_below-start in
    let count : c.count_below-end.result - c.count_below-start.result ≡ length_of c.args.leading
    (units_in c.args.basins.now (labels_in c.args.labels.now)) =
    omega (arith, begin, end_is c) in
    rw (count, begin)
