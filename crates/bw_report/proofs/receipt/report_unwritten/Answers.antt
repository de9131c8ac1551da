use Rattle.bw_report.specs.Receipts.{unwritten_receipt_text}
use Rattle.bw_report.proofs.receipt.report_unwritten.Goals as goal

pub returns : goal.returns
returns g c = c.report_failure.ensures (unwritten_receipt_text c.args.path.now) c.unwritten_line.ensures
