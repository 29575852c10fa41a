-- `line` meets its contract.
use mathlib.Core.Path.{◌≡◌, sym, ap, ◌∙◌}
use Rattle.sheet.proofs.Answer.{accepted_no_fault, refused_fault, refused_by_fault}
use Rattle.intake.specs.Intake.{TakenValues, taken_values, After, lent_sheet, keep, line_after}
use Rattle.intake.proofs.LineLaws.{line_good, line_fault}
use Rattle.intake.proofs.Intake.line.Goals as goal

-- the number and place of the outcome
abbrev values : After → TakenValues
values a = taken_values a.taken.outcome

pub returns-in-Ok : goal.returns-in-Ok
returns-in-Ok c =
    let e = c.line_in.ensures ∙ sym (line_good _ _ _ (accepted_no_fault _ (sym c.state_fault.ensures ∙ c.in-Ok.is))) in
    record { after = e; values = ap values e }

pub returns-in-Err : goal.returns-in-Err
returns-in-Err c =
    let a = c.args in
    let lent = lent_sheet a.dirs.now a.weights.now in
    let is = sym c.state_fault.ensures ∙ c.in-Err.is in
    let e : keep lent c.answer.result ≡ line_after a.self a.line.now lent =
    simp (c.answer.ensures, refused_by_fault _ is) (sym (line_fault _ _ _ (refused_fault _ is))) in
    record { after = e; values = ap values e }
