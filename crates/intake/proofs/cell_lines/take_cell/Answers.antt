-- `take_cell` meets its contract.
use mathlib.Core.Path.{sym, ◌∙◌}
use Rattle.sheet.proofs.Answer.{accepted_no_fault, refused_fault, refused_by_fault}
use Rattle.intake.proofs.LineLaws.{cell_accepted, cell_refused}
use Rattle.intake.proofs.cell_lines.take_cell.Goals as goal

pub write_cell-requires : goal.write_cell-requires
write_cell-requires c =
    record { sized = c.requires; dirs_value = accepted_no_fault _ (sym c.cell_fault.ensures ∙ c.in-Ok.is) }

pub returns-in-Ok : goal.returns-in-Ok
returns-in-Ok c =
    let none = accepted_no_fault _ (sym c.cell_fault.ensures ∙ c.in-Ok.is) in
    let wrote = c.write_cell.ensures in
    λ weights. simp (c.accepted.ensures, wrote weights) (sym (cell_accepted _ _ _ _ c.cell_in-cell.ensures none))

pub returns-in-Err : goal.returns-in-Err
returns-in-Err c =
    let is = sym c.cell_fault.ensures ∙ c.in-Err.is in
    λ weights. simp (c.answer.ensures, refused_by_fault _ is)
    (sym (cell_refused _ _ _ _ c.cell_in-cell.ensures (refused_fault _ is)))
