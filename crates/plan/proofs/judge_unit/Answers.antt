-- `judge_unit` meets its contract, return by return.
use native.Mathlib.Omega.{arith}
use borrow.Author.Tests.{lt-ltb, le-ltb}
use mathlib.Core.Path.{◌≡◌, sym, ap, ◌∙◌}
use mathlib.Core.List.{List}
use Prim.Native.Nat.{ℕ, suc, ◌≤◌, ◌<◌}
use native.Mathlib.Numerals.{add-one}
use lib.ListN.{length, get_or, set}
use Rattle.std.specs.Prelude.{Err}
use Rattle.sheet.specs.declared.Label.{Label}
use Rattle.sheet.specs.Record.{labels_in}
use Rattle.plan.specs.Steps.{all_come, end_of, span_of}
use Rattle.plan.proofs.Places.{place_is, label_in_lem}
use Rattle.plan.proofs.Upstream.{end_after_lem}
use Rattle.plan.proofs.Judging.{outcome_then, work_then, judged_used, judged_waiting, judged_come}
use Rattle.plan.proofs.judge_unit.Goals as goal
use Rattle.plan.proofs.judge_unit.Goals.{After-all_come, After-end_of-end, Start}

abbrev labels_at : Start → List Label
labels_at c = labels_in c.args.index.now

-- the unit's place is one of the index, and so is a work place
inside : (c : Start) → c.args.place < length (labels_at c)
inside c = (place_is (labels_at c) c.args.p c.args.place c.requires.p_value).0

there : (c : Start) → c.args.place < length c.args.work.now
there c = omega (arith, inside c, c.requires.work_len)

-- the end stands after it, and past no work place
end_later : (c : After-end_of-end) → c.args.place < c.end_of-end.result
end_later c =
    rw c.end_of-end.ensures
    (end_after_lem (labels_in c.args.index.now) c.args.p c.args.place c.requires.judged c.requires.p_value).0

end_most : (c : After-end_of-end) → c.end_of-end.result ≤ length c.args.work.now
end_most c =
    rw (c.end_of-end.ensures, c.requires.work_len)
    (end_after_lem (labels_in c.args.index.now) c.args.p c.args.place c.requires.judged c.requires.p_value).1

-- what `all_come` answers
come : (c : After-all_come)
    → c.all_come.result ≡ all_come (suc c.args.place) (end_of (labels_in c.args.index.now) c.args.p) c.args.work.now
come c =
    c.all_come.ensures ∙ ap (λ (from : ℕ). all_come from c.end_of-end.result c.args.work.now)
    (add-one c.args.place) ∙ ap (λ (end : ℕ). all_come (suc c.args.place) end c.args.work.now)
    c.end_of-end.ensures

pub offset_bounds-work-place : goal.offset_bounds-work-place
offset_bounds-work-place c = omega (arith, there (goal.at.offset_bounds-work-place c).Start)

pub bounds-work-place : goal.bounds-work-place
bounds-work-place c = there (goal.at.bounds-work-place c).Start

pub returns-then-work-place-gt0 : goal.returns-then-work-place-gt0
returns-then-work-place-gt0 c =
    let a = c.args in
    let used = judged_used (labels_in a.index.now) a.p a.place a.work.now
    (lt-ltb 0 (get_or a.work.now a.place 0) (omega arith)) in record {
      answer = ap Err c.numbered.ensures ∙ outcome_then used;
      work = work_then used;
    }

pub end_of-end-requires-clause-p_value : goal.end_of-end-requires-clause-p_value
end_of-end-requires-clause-p_value c =
    let index = labels_in c.args.index.now in
    rw (place_is index c.args.p c.args.place c.requires.p_value).1 at
    (label_in_lem index c.requires.judged.rising c.args.place (inside (goal.at.end_of-end-requires-clause-p_value c).Start))

pub overflow_add-place : goal.overflow_add-place
overflow_add-place c = omega (arith, there (goal.at.overflow_add-place c).Start)

pub all_come-requires-clause-end_in_bounds : goal.all_come-requires-clause-end_in_bounds
all_come-requires-clause-end_in_bounds c = end_most c

pub returns-then-not-all_come : goal.returns-then-not-all_come
returns-then-not-all_come c =
    let a = c.args in
    let waiting = judged_waiting (labels_in a.index.now) a.p a.place a.work.now
    (le-ltb 0 (get_or a.work.now a.place 0) (omega arith))
    (sym (come (goal.at.returns-then-not-all_come c).After-all_come) ∙ c.if-not-all_come.true) in record {
      answer = ap Err c.numbered-then-not-all_come.ensures ∙ outcome_then waiting;
      work = work_then waiting;
    }

pub span_of-requires : goal.span_of-requires
span_of-requires c = omega (arith, end_later (goal.at.span_of-requires c).After-end_of-end)

pub offset_bounds-work-place-2 : goal.offset_bounds-work-place-2
offset_bounds-work-place-2 c = omega (arith, there (goal.at.offset_bounds-work-place-2 c).Start)

pub bounds-work-place-2 : goal.bounds-work-place-2
bounds-work-place-2 c = there (goal.at.bounds-work-place-2 c).Start

pub returns : goal.returns
returns c =
    let a = c.args in
    let span : c.span_of.result ≡ span_of a.place (end_of (labels_in a.index.now) a.p) =
    c.span_of.ensures ∙ ap (span_of a.place) c.end_of-end.ensures in
    let done = judged_come (labels_in a.index.now) a.p a.place a.work.now
    (le-ltb 0 (get_or a.work.now a.place 0) (omega arith))
    (sym (come (goal.at.returns c).After-all_come) ∙ c.if-not-all_come.false) in record {
      answer = outcome_then done;
      work = ap (set a.work.now a.place) span ∙ work_then done;
    }
