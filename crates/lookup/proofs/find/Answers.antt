-- `find` meets its contract, return by return.
use native.Mathlib.Omega.{arith}
use mathlib.Core.Path.{sym, ap, ◌∙◌}
use Rattle.std.specs.Prelude.{Ok, Err}
use Rattle.lookup.specs.Lookup.{lookup_values}
use Rattle.lookup.proofs.Answers.{answer_3, answer_11, entries_11, answer_16, answer_part}
use Rattle.lookup.proofs.Counted.{labels_counted}
use Rattle.lookup.proofs.find.Goals as goal

pub returns-then-basins-label_count : goal.returns-then-basins-label_count
returns-then-basins-label_count c =
    let e = ap Err c.numbered.ensures
    ∙ answer_3 c.args.leading _ _ (omega (arith, labels_counted c.args.labels.now, c.label_count.ensures)) in
    record { answer = e; values = ap lookup_values e }

pub returns-then-not-is_label : goal.returns-then-not-is_label
returns-then-not-is_label c =
    let e = ap Err c.numbered-then-not-is_label.ensures
    ∙ answer_11 c.args.leading _ _ (omega (arith, labels_counted c.args.labels.now, c.label_count.ensures))
    (sym c.is_label.ensures ∙ c.if-not-is_label.true) in
    record { answer = e; values = ap lookup_values e }

pub returns-then-is_rising : goal.returns-then-is_rising
returns-then-is_rising c =
    let e = ap Ok c.part_found.ensures ∙ answer_part _ _ _
    (omega (arith, labels_counted c.args.labels.now, c.label_count.ensures))
    (sym c.is_label.ensures ∙ c.if-not-is_label.false) (sym c.all_labels.ensures ∙ c.if-all_labels.true)
    (sym c.is_rising.ensures ∙ c.if-is_rising.true) in
    record { answer = e; values = ap lookup_values e }

pub returns-then-all_labels : goal.returns-then-all_labels
returns-then-all_labels c =
    let e = ap Err c.numbered-then-all_labels.ensures ∙ answer_16 c.args.leading _ _
    (omega (arith, labels_counted c.args.labels.now, c.label_count.ensures))
    (sym c.is_label.ensures ∙ c.if-not-is_label.false) (sym c.all_labels.ensures ∙ c.if-all_labels.true)
    (sym c.is_rising.ensures ∙ c.if-is_rising.false) in
    record { answer = e; values = ap lookup_values e }

pub returns : goal.returns
returns c =
    let e = ap Err c.numbered-2.ensures ∙ entries_11 c.args.leading _ _
    (omega (arith, labels_counted c.args.labels.now, c.label_count.ensures))
    (sym c.is_label.ensures ∙ c.if-not-is_label.false) (sym c.all_labels.ensures ∙ c.if-all_labels.false) in
    record { answer = e; values = ap lookup_values e }
