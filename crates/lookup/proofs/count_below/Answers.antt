-- `count_below` meets its contract: so many places pass the test as entries do.
use Rattle.std.proofs.Common.{◌≡◌, ◌≤◌, ◌<◌, ◌-◌, ◌/◌, length, true, List, rules, tests, arith, sym, ap, ◌∙◌}
use Rattle.std.proofs.lemmas.Iterator.{YieldsList-from_range}
use Rattle.std.proofs.lemmas.Iterator.Adapters.{serves_from_places}
use Rattle.std.proofs.lemmas.Iterator.Consumers.{count_from_yields_List, YieldsList-from_filter}
use Rattle.sheet.specs.declared.UnitName.{UnitName}
use Rattle.sheet.specs.Record.{no_digits, label_places, labels_in, label_at, units_in, unit_at}
use Rattle.sheet.specs.Flow.{is_label}
use Rattle.digits.proofs.Places.{in_range}
use Rattle.lookup.specs.Lookup.{greatest_depth}
use Rattle.lookup.specs.Padded.{is_below, count_below}
use Rattle.lookup.specs.PaddedHalves.{joined}
use Rattle.lookup.proofs.Counted.{labels_counted, entries_counted, unit_entry_lem, every_at, counted_places}
use Rattle.lookup.proofs.count_below.Goals as goal

pub count-requires-clause-can : goal.count-requires-clause-can
unfolding label_places
count-requires-clause-can c =
    let labels = c.args.labels.now in
    let n = c.label_count.result in
    let count : n - 0 ≡ n = omega arith in (
      tt,
      tt,
      rw c.filter.ensures.closure (serves_from_places (YieldsList-from_range 0 n n c.filter.ensures.source count) (λ x q k. search (rules, tests))
          (λ x k lt is.
          let inside = in_range 0 n x k lt is in
          let below : x < length labels / 2 = omega (arith, c.label_count.ensures) in
          let based : length labels / 2 ≤ length c.args.basins.now = omega (arith, labels_counted labels, c.requires.labels_in_bounds) in
          let label : is_label greatest_depth (label_at labels x) ≡ true = every_at no_digits (is_label greatest_depth) (labels_in labels) x c.requires.labels_value (omega (arith, labels_counted labels)) in
          search rules)),
    )

pub returns : goal.returns
unfolding count_below
returns c =
    let labels = c.args.labels.now in
    let basins = c.args.basins.now in
    let n = c.label_count.result in
    let count : n - 0 ≡ n = omega arith in
    let units : List UnitName = units_in basins (labels_in labels) in
    let counted : n ≡ length units = c.label_count.ensures ∙ sym (entries_counted labels basins c.requires.labels_in_bounds) in
    let test = is_below c.args.basin (joined c.args.limit) in
    count_from_yields_List c.filter.result _ c.count.ensures.ran
    (YieldsList-from_filter _ (λ i. test (unit_at basins labels i)) (YieldsList-from_range 0 n n (search rules) count) c.filter.ensures.closure (λ x b q k. search (rules, tests)))
    ∙ counted_places test units (λ i. test (unit_at basins labels i))
    (λ k lt. ap test (unit_entry_lem labels basins c.requires.labels_in_bounds k (omega (arith, c.label_count.ensures)))) 0 n (omega arith)
