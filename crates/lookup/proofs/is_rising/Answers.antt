-- `is_rising` meets its contract: the iterator's `all` over the places but the first has the answer of the units.
use Rattle.std.proofs.Common.{◌≡◌, ◌≤◌, ◌<◌, ◌-◌, ◌/◌, length, true, List, ℕ, rules, tests, arith, refl, sym, ◌∙◌}
use Rattle.std.proofs.lemmas.Iterator.{YieldsList-from_range}
use Rattle.std.proofs.lemmas.Iterator.Adapters.{serves_from_places}
use Rattle.std.proofs.lemmas.Iterator.Search.{all_from_yields_List}
use Rattle.sheet.specs.declared.UnitName.{UnitName}
use Rattle.sheet.specs.Record.{no_digits, label_places, labels_in, label_at, units_in, unit_at}
use Rattle.sheet.specs.Flow.{is_label}
use Rattle.digits.proofs.Places.{in_range}
use Rattle.lookup.specs.Lookup.{greatest_depth, stands_before}
use Rattle.lookup.specs.Exactly.{entry_at}
use Rattle.lookup.proofs.Counted.{labels_counted, entries_counted, unit_entry_lem, every_at}
use Rattle.lookup.proofs.Rising.{rising_places}
use Rattle.lookup.proofs.is_rising.Goals as goal

pub all-requires-clause-callable : goal.all-requires-clause-callable
unfolding label_places
all-requires-clause-callable c =
    let labels = c.args.labels.now in
    let n = c.label_count.result in
    serves_from_places (YieldsList-from_range 1 n (n - 1) refl refl) (λ x q k. search (rules, tests))
    (λ x k lt is.
    let inside = in_range 1 (n - 1) x k lt is in
    let below : x < length labels / 2 = omega (arith, c.label_count.ensures) in
    let based : length labels / 2 ≤ length c.args.basins.now = omega (arith, labels_counted labels, c.requires.labels_in_bounds) in
    let label : is_label greatest_depth (label_at labels x) ≡ true = every_at no_digits (is_label greatest_depth) (labels_in labels) x c.requires.labels_value (omega (arith, labels_counted labels)) in
    let before : is_label greatest_depth (label_at labels (x - 1)) ≡ true = every_at no_digits (is_label greatest_depth) (labels_in labels) (x - 1) c.requires.labels_value (omega (arith, labels_counted labels)) in
    search rules)

pub returns : goal.returns
returns c =
    let labels = c.args.labels.now in
    let basins = c.args.basins.now in
    let n = c.label_count.result in
    let units : List UnitName = units_in basins (labels_in labels) in
    let counted : n ≡ length units = c.label_count.ensures ∙ sym (entries_counted labels basins c.requires.labels_in_bounds) in
    let entry : (k : ℕ) → k < length units → unit_at basins labels k ≡ entry_at units k =
    λ k lt. unit_entry_lem labels basins c.requires.labels_in_bounds k (omega (arith, c.label_count.ensures)) in
    all_from_yields_List (λ i. stands_before (unit_at basins labels (i - 1)) (unit_at basins labels i)) _ _ _ c.all.ensures.ran
    (YieldsList-from_range 1 n (length units - 1) refl (omega arith))
    (λ x b q k. search (rules, tests))
    ∙ rising_places units (λ i. stands_before (unit_at basins labels (i - 1)) (unit_at basins labels i))
    (λ k some lt. rw (entry (k - 1) (omega arith), entry k lt))
