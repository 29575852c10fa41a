-- `answer_by_digits` meets its contract: the last places of the array hold q's digits, and each return gives one of the
-- answers.
use native.Mathlib.Omega.{arith}
use mathlib.Core.Path.{◌≡◌, sym, ◌∙◌}
use mathlib.Core.Bool.{true}
use mathlib.Core.List.{List}
use Prim.Native.Nat.{ℕ, ◌-◌, ◌≤◌}
use lib.ListN.{replicate, take, drop}
use Rattle.sheet.specs.Record.{digits_of}
use Rattle.sheet.specs.Flow.{is_label}
use Rattle.digits.specs.LastPlaces.{label_start}
use Rattle.digits.proofs.LabelPlaces.{found_label, found_within, found_digits, found_none}
use Rattle.flow.proofs.Judged.{q_refused, other_basin, same, unequal}
use Rattle.flow.proofs.answer_by_digits.Goals as goal
use Rattle.flow.proofs.answer_by_digits.Goals.{In-Some}
use Rattle.std.specs.Prelude.{Some}

-- the places that the digits are written to
abbrev places : List ℕ
places = replicate 36 0

found : (c : In-Some) → let a = c.args in label_start a.depth a.q.label 36 ≡ Some c.in-Some.start
found c = sym c.put_label.ensures.start ∙ c.in-Some.is

within : (c : In-Some) → c.in-Some.start ≤ 36
within c = found_within _ _ _ _ (found c)

q-label : (c : In-Some) → is_label c.args.depth c.args.q.label ≡ true
q-label c = found_label _ _ _ _ (found c)

-- what stands in the places from there on
q-digits : (c : In-Some)
    → take (36 - c.in-Some.start) (drop c.in-Some.start c.put_label.new.out) ≡ digits_of c.args.q.label
q-digits c = found_digits _ _ places _ _ (omega arith) (omega arith) (omega arith) (found c) c.put_label.ensures.places

pub returns-in_default : goal.returns-in_default
returns-in_default c =
    q_refused _ _ _ _ c.requires.depth_value c.requires.label_value
    (found_none _ _ _ (sym c.put_label.ensures.start ∙ c.in_default.is))

pub returns-then-p-q : goal.returns-then-p-q
returns-then-p-q c =
    let asked = c.requires in
    other_basin _ _ _ _ asked.depth_value asked.label_value (q-label (goal.at.returns-then-p-q c).In-Some) c.if-p-q.true

pub returns-then-same_label : goal.returns-then-same_label
returns-then-same_label c =
    let asked = c.requires in
    same _ _ _ _ asked.depth_value asked.label_value (q-label (goal.at.returns-then-same_label c).In-Some) c.if-p-q.false
    (sym c.same_label.ensures ∙ c.if-same_label.true)

pub slice_bounds-answer_at-count : goal.slice_bounds-answer_at-count
slice_bounds-answer_at-count c = within (goal.at.slice_bounds-answer_at-count c).In-Some

pub slice_bounds-answer_at-start : goal.slice_bounds-answer_at-start
slice_bounds-answer_at-start c = within (goal.at.slice_bounds-answer_at-start c).In-Some

pub returns : goal.returns
returns c =
    let asked = c.requires in
    let differ = sym c.same_label.ensures ∙ c.if-same_label.false in
    unequal _ _ _ _ asked.depth_value asked.label_value (q-label (goal.at.returns c).In-Some) c.if-p-q.false differ _ _
    asked.digits_value (q-digits (goal.at.returns c).In-Some) _ c.answer_at.ensures _
    (rw c.is_stem_alone-alone.ensures at c.cell_answer.ensures)
