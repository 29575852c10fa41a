-- `check_plan` meets its contract, return by return.
use native.Mathlib.Omega.{arith}
use mathlib.Core.Path.{◌≡◌, sym, ap, ◌∙◌}
use lib.ListN.{length, take}
use lib.Seq.{length-take-le}
use Rattle.std.specs.Prelude.{Err}
use Rattle.std.proofs.lemmas.Result.{err_from_is_err_and}
use Rattle.sheet.specs.Record.{labels_in}
use Rattle.sheet.proofs.Answer.{accepted_no_fault, refused_fault, refused_by_fault}
use Rattle.lookup.proofs.Counted.{labels_counted}
use Rattle.plan.specs.Plan.{plan_values}
use Rattle.plan.proofs.Answers.{index_judged, answer_fault, answer_3, answer_plan}
use Rattle.plan.proofs.check_plan.Goals as goal

pub returns-in_err-index_fault : goal.returns-in_err-index_fault
returns-in_err-index_fault c =
    let e = sym c.index_fault.ensures ∙ c.in_err-index_fault.was in
    let p = err_from_is_err_and c.from_residual.result c.from_residual.ensures.1 in
    let all = answer_fault (labels_in c.args.index.now) (labels_in c.args.plan.now) c.args.work.now (refused_fault _ e) in
    let answer = p.1 ∙ ap Err p.2 ∙ refused_by_fault _ e ∙ all.0 in
    record { answer = answer; values = ap plan_values answer; work = all.1.1 }

pub returns-then-work-count : goal.returns-then-work-count
returns-then-work-count c =
    let none = accepted_no_fault _ (sym c.index_fault.ensures ∙ c.in_ok-index_fault.was) in
    let all = answer_3 (labels_in c.args.index.now) (labels_in c.args.plan.now) c.args.work.now none
    (omega (arith, c.label_count-count.ensures, labels_counted c.args.index.now)) in
    let answer = ap Err c.numbered.ensures ∙ all.0 in
    record { answer = answer; values = ap plan_values answer; work = all.1.1 }

pub judge_from_start-answer-requires : goal.judge_from_start-answer-requires
judge_from_start-answer-requires c = record {
  judged = index_judged _ (accepted_no_fault _ (sym c.index_fault.ensures ∙ c.in_ok-index_fault.was));
  work_len = length-take-le c.label_count-count.result c.args.work.now c.if-work-count.false
      ∙ c.label_count-count.ensures ∙ sym (labels_counted c.args.index.now);
}

pub returns : goal.returns
returns c =
    let labels = labels_in c.args.index.now in
    let counted : c.label_count-count.result ≡ length labels =
    c.label_count-count.ensures ∙ sym (labels_counted c.args.index.now) in
    let lent : length (take c.label_count-count.result c.args.work.now) ≡ c.label_count-count.result =
    length-take-le c.label_count-count.result c.args.work.now c.if-work-count.false in
    let all = answer_plan labels (labels_in c.args.plan.now) c.args.work.now
    (accepted_no_fault _ (sym c.index_fault.ensures ∙ c.in_ok-index_fault.was))
    (omega (arith, counted, c.if-work-count.false)) c.judge_from_start-answer.result
    c.judge_from_start-answer.ensures.answer c.label_count-count.result counted c.judge_from_start-answer.new.work
    (c.judge_from_start-answer.auto.work ∙ lent) in
    record { answer = all.0; values = all.1.0; work = rw c.clear_first.ensures all.1.1 }
