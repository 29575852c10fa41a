-- `answer_fitting` meets its contract: the last places of the array hold p's digits.
use native.Mathlib.Omega.{arith}
use mathlib.Core.Path.{◌≡◌, sym, ◌∙◌}
use mathlib.Core.List.{List}
use Prim.Native.Nat.{ℕ, ◌-◌, ◌≤◌}
use lib.ListN.{replicate, take, drop}
use Rattle.sheet.specs.Record.{digits_of}
use Rattle.digits.specs.LastPlaces.{label_start}
use Rattle.digits.proofs.LabelPlaces.{found_label, found_within, found_digits, found_none}
use Rattle.flow.proofs.Judged.{p_refused}
use Rattle.flow.proofs.answer_fitting.Goals as goal
use Rattle.flow.proofs.answer_fitting.Goals.{In-Some}
use Rattle.std.specs.Prelude.{Some}

-- the places that the digits are written to
abbrev places : List ℕ
places = replicate 36 0

found : (c : In-Some) → let a = c.args in label_start a.depth a.p.label 36 ≡ Some c.in-Some.start
found c = sym c.put_label.ensures.start ∙ c.in-Some.is

within : (c : In-Some) → c.in-Some.start ≤ 36
within c = found_within _ _ _ _ (found c)

-- what stands in the places from there on
p-digits : (c : In-Some)
    → take (36 - c.in-Some.start) (drop c.in-Some.start c.put_label.new.out) ≡ digits_of c.args.p.label
p-digits c = found_digits _ _ places _ _ (omega arith) (omega arith) (omega arith) (found c) c.put_label.ensures.places

pub returns-in_default : goal.returns-in_default
returns-in_default c = p_refused _ _ _ _ c.requires (found_none _ _ _ (sym c.put_label.ensures.start ∙ c.in_default.is))

pub slice_bounds-answer_by_digits-count : goal.slice_bounds-answer_by_digits-count
slice_bounds-answer_by_digits-count c = within c

pub slice_bounds-answer_by_digits-start : goal.slice_bounds-answer_by_digits-start
slice_bounds-answer_by_digits-start c = within c

pub answer_by_digits-requires : goal.answer_by_digits-requires
answer_by_digits-requires c = record {
  depth_value = c.requires;
  label_value = found_label _ _ _ _ (found (goal.at.answer_by_digits-requires c).In-Some);
  digits_value = p-digits (goal.at.answer_by_digits-requires c).In-Some;
}
