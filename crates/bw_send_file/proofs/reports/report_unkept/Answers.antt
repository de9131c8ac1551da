use Rattle.bw_send_file.specs.StateReports.{unkept_text}
use Rattle.bw_send_file.proofs.ReportSteps.{unkept}
use Rattle.bw_send_file.proofs.reports.report_unkept.Goals as goal

pub returns : goal.returns
returns g c =
    unkept g.E.Sink c.args.path.now _ _ _ _
    (c.report_failure.ensures (unkept_text c.args.path.now) c.unkept_line.ensures)
