-- `end_of` meets its contract.
use mathlib.Core.Path.{sym, ◌∙◌}
use Rattle.sheet.specs.Record.{labels_in}
use Rattle.plan.specs.Steps.{label_before_last_odd}
use Rattle.plan.proofs.LastOdd.{left_is_label}
use Rattle.plan.proofs.Places.{count_end, end_first, end_is}
use Rattle.plan.proofs.end_of.Goals as goal

pub padded_end-requires : goal.padded_end-requires
padded_end-requires c =
    rw c.before_last_odd.ensures (left_is_label c.args.p c.requires.p_value)

pub count_below-requires : goal.count_below-requires
count_below-requires c =
    let p = c.args.p in
    let first = end_first (labels_in c.args.index.now) c.requires.rising (label_before_last_odd p)
    (left_is_label p c.requires.p_value) in record {
      rest_bound = c.padded_end.ensures.most;
      index_value = c.requires.rising.labels;
      stand_first = rw (c.padded_end.ensures.whole, c.before_last_odd.ensures) first;
    }

pub returns : goal.returns
returns c =
    let index = labels_in c.args.index.now in
    let p = c.args.p in
    c.count_below.ensures
    ∙ rw (c.padded_end.ensures.whole, c.before_last_odd.ensures)
    (count_end index c.requires.rising (label_before_last_odd p) (left_is_label p c.requires.p_value) ∙ sym (end_is index p))
