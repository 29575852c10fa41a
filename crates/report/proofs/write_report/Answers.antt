-- `write_report` meets its contract: the verdict, then its text.
use Rattle.report.proofs.ReportLaws.{promises}
use Rattle.report.proofs.write_report.Goals as goal

pub returns : goal.returns
returns c =
    let v = c.verdict_of-verdict.ensures in
    let promised = promises _ _ _ _ v.verdict v.lent c.write_verdict.ensures in
    record { report = promised.0; values = promised.1 }
