-- `sheet_verdict` meets its contract: by what labelling answered.
use Rattle.std.proofs.lemmas.Result.{err_from_is_err_and}
use Rattle.labelling.specs.FromIntake.{lent_with}
use Rattle.report.proofs.ReportLaws.{labelled_sheet, refused_sheet}
use Rattle.report.proofs.sheet_verdict.Goals as goal

pub returns-in_err-label : goal.returns-in_err-label
unfolding lent_with
returns-in_err-label c =
    let p = err_from_is_err_and c.from_residual.result c.from_residual.ensures.1 in record {
      verdict = rw (p.1, p.2) (refused_sheet _ _ _ c.label.ensures.outcome c.in_err-label.was);
      lent = c.label.ensures.lent;
    }

pub returns : goal.returns
unfolding lent_with
returns c = record {
  verdict = labelled_sheet _ _ _ c.label.ensures.outcome c.in_ok-label.was;
  lent = c.label.ensures.lent;
}
