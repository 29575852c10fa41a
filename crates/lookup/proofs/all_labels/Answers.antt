-- `all_labels` meets its contract: the iterator's `all` over the places has the answer of the test of every entry.
use Rattle.std.proofs.Common.{◌≡◌, ◌<◌, ◌-◌, ◌/◌, length, rules, tests, arith, refl, ◌∙◌}
use Rattle.std.proofs.lemmas.Iterator.{YieldsList-from_range}
use Rattle.std.proofs.lemmas.Iterator.Adapters.{serves_from_places}
use Rattle.std.proofs.lemmas.Iterator.Search.{all_from_yields_List}
use Rattle.sheet.specs.Record.{no_digits, label_places, labels_in, label_at}
use Rattle.sheet.specs.Flow.{is_label}
use Rattle.digits.proofs.Places.{every_places, in_range}
use Rattle.lookup.specs.Lookup.{greatest_depth}
use Rattle.lookup.proofs.Counted.{labels_counted}
use Rattle.lookup.proofs.all_labels.Goals as goal

pub all-requires-clause-callable : goal.all-requires-clause-callable
unfolding label_places
all-requires-clause-callable c =
    let n = c.label_count.result in
    let count : n - 0 ≡ n = omega arith in
    serves_from_places (YieldsList-from_range 0 n n refl count) (λ x q k. search (rules, tests))
    (λ x k lt is.
    let inside = in_range 0 n x k lt is in
    let below : x < length c.args.labels.now / 2 = omega (arith, c.label_count.ensures) in
    search rules)

pub returns : goal.returns
returns c =
    let labels = c.args.labels.now in
    let n = c.label_count.result in
    let count : n - 0 ≡ n = omega arith in
    all_from_yields_List (λ i. is_label greatest_depth (label_at labels i)) _ _ _ c.all.ensures.ran (YieldsList-from_range 0 n n refl count)
    (λ x b q k. search (rules, tests))
    ∙ every_places no_digits (is_label greatest_depth) (labels_in labels) 0 n (omega (arith, c.label_count.ensures, labels_counted labels))
