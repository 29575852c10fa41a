-- `place_of` meets its contract.
use native.Mathlib.Omega.{arith}
use mathlib.Core.Path.{◌≡◌, sym, ◌∙◌}
use Prim.Native.Nat.{◌<◌}
use lib.ListN.{length}
use Rattle.sheet.specs.Record.{labels_in, label_at, label_places, same_label}
use Rattle.lookup.proofs.Counted.{labels_counted}
use Rattle.plan.proofs.Places.{start_first, place_at_lem, place_of_none, place_of_other}
use Rattle.plan.proofs.place_of.Goals as goal
use Rattle.plan.proofs.place_of.Goals.{else-place-label_count-via-then-place-label_count+else-same_label, else-place-label_count-via-else-place-label_count}

pub returns-then-not-is_label : goal.returns-then-not-is_label
returns-then-not-is_label c =
    sym (place_of_none _ c.requires c.args.p (sym c.is_label.ensures ∙ c.if-not-is_label.true))

pub count_below-place-requires-clause-stand_first : goal.count_below-place-requires-clause-stand_first
count_below-place-requires-clause-stand_first c =
    rw c.padded.ensures.whole
    (start_first (labels_in c.args.index.now) c.requires c.args.p (sym c.is_label.ensures ∙ c.if-not-is_label.false))

pub label_at-requires : goal.label_at-requires
unfolding label_places
label_at-requires c = omega arith

pub returns-then-same_label : goal.returns-then-same_label
returns-then-same_label c =
    let inside : c.count_below-place.result < length (labels_in c.args.index.now) =
    omega (arith, labels_counted c.args.index.now, c.label_count.ensures) in
    let compared : same_label (label_at c.args.index.now c.count_below-place.result) c.args.p ≡ c.same_label.result =
    rw (← c.label_at.ensures) (sym c.same_label.ensures) in
    sym (place_at_lem _ c.requires c.args.p c.count_below-place.result inside (compared ∙ c.if-same_label.true))

pub returns : goal.returns
returns c =
    sym (place_of_other _ c.requires c.args.p (sym c.is_label.ensures ∙ c.if-not-is_label.false)
    c.count_below-place.result (rw c.padded.ensures.whole at c.count_below-place.ensures)
    (λ h. elim c.else-place-label_count.branch [
      | else-place-label_count-via-then-place-label_count+else-same_label w ↦
          (rw (← w.label_at.ensures) (sym w.same_label.ensures)) ∙ w.if-same_label.false
      | else-place-label_count-via-else-place-label_count w ↦
          absurd (omega (arith, labels_counted c.args.index.now, c.label_count.ensures, w.if-place-label_count.false))
    ]))
