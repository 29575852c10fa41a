-- `labels_part` meets its contract: the iterator's `all` over the places but the first has the answer of the labels.
use Rattle.std.proofs.Common.{◌≡◌, ◌<◌, ◌-◌, ◌/◌, length, true, not, List, ℕ, ltb, rules, tests, arith, refl, sym, ◌∙◌}
use Rattle.std.proofs.lemmas.Iterator.{YieldsList-from_range}
use Rattle.std.proofs.lemmas.Iterator.Adapters.{serves_from_places}
use Rattle.std.proofs.lemmas.Iterator.Search.{all_from_yields_List}
use Rattle.sheet.specs.declared.Label.{Label}
use Rattle.sheet.specs.Record.{no_digits, label_places, labels_in, label_at}
use Rattle.sheet.specs.Flow.{is_label}
use Rattle.digits.proofs.Places.{in_range}
use Rattle.lookup.specs.Lookup.{greatest_depth}
use Rattle.lookup.specs.Padded.{padded, padded_end}
use Rattle.lookup.proofs.Counted.{labels_counted, every_at}
use Rattle.plan.proofs.UnitsOfOne.{rising_of_one}
use Rattle.plan.proofs.Parted.{parts_padded, neighbours_part_lem, parted_places}
use Rattle.plan.proofs.labels_part.Goals as goal

pub all-requires-clause-callable : goal.all-requires-clause-callable
unfolding label_places
all-requires-clause-callable c =
    let index = c.args.index.now in
    let n = c.label_count.result in
    serves_from_places (YieldsList-from_range 1 n (n - 1) refl refl) (λ x q k. search (rules, tests))
    (λ x k lt is.
    let inside = in_range 1 (n - 1) x k lt is in
    let below : x < length index / 2 = omega (arith, c.label_count.ensures) in
    let label : is_label greatest_depth (label_at index x) ≡ true =
    every_at no_digits (is_label greatest_depth) (labels_in index) x c.requires.labels (omega (arith, labels_counted index)) in
    let before : is_label greatest_depth (label_at index (x - 1)) ≡ true =
    every_at no_digits (is_label greatest_depth) (labels_in index) (x - 1) c.requires.labels (omega (arith, labels_counted index)) in
    search rules)

pub returns : goal.returns
returns c =
    let index = c.args.index.now in
    let n = c.label_count.result in
    let labels : List Label = labels_in index in
    let counted : n ≡ length labels = c.label_count.ensures ∙ sym (labels_counted index) in
    let label : (k : ℕ) → k < length labels → is_label greatest_depth (label_at index k) ≡ true =
    λ k lt. every_at no_digits (is_label greatest_depth) labels k c.requires.labels lt in
    all_from_yields_List (λ k. not (ltb (padded (label_at index k)) (padded_end (label_at index (k - 1))))) _ _ _ c.all.ensures.ran
    (YieldsList-from_range 1 n (length labels - 1) refl (omega arith))
    (λ x b q k. search (rules, tests))
    ∙ parted_places labels (λ k. not (ltb (padded (label_at index k)) (padded_end (label_at index (k - 1)))))
    (λ k some lt. sym (parts_padded (label_at index (k - 1)) (label_at index k) (label (k - 1) (omega arith)) (label k lt)
    (rising_of_one labels c.requires.rises (k - 1) k (omega arith) lt)))
    ∙ neighbours_part_lem labels c.requires.rises
