use Rattle.std.proofs.Common.{refl}
use Rattle.bw_report.proofs.ReceiptLemmas.{added, appended, appended_in_part, line_put, none_printed, none_put}
use Rattle.bw_report.proofs.ReceiptLemmas.{reported_alone}
use Rattle.bw_report.proofs.receipt.put_receipt.Goals as goal

pub returns-in-Err-clause-puts : goal.returns-in-Err-clause-puts
returns-in-Err-clause-puts g c =
    none_put g.R.ReceiptFiles g.W.Sink g.E.Sink _ c.args.job.now _ _ _ _ _ _ _ _ c.in-Err.ensures.err

pub returns-in-Ok-append-clause-puts : goal.returns-in-Ok-append-clause-puts
returns-in-Ok-append-clause-puts g c =
    let was = c.in-Ok-append.ensures in
    line_put g.R.ReceiptFiles g.W.Sink g.E.Sink _ c.args.job.now _ _ _ _ _ _ _ _ _ _ _ c.in-Ok.line.items added
    c.in-Ok.ensures.ok refl
    (appended g.R.ReceiptFiles _ _ c.in-Some.is _ _ _ _ _ c.as_slice-2.ensures.value was.others was.count was.ok)
    (record { printed = refl; reported = refl })

pub returns-clause-puts : goal.returns-clause-puts
returns-clause-puts g c =
    let was = c.in-Err-append.ensures in
    let did = c.report_unwritten.ensures in
    line_put g.R.ReceiptFiles g.W.Sink g.E.Sink _ c.args.job.now _ _ _ _ _ _ _ _ _ _ _ c.in-Ok.line.items did.0
    c.in-Ok.ensures.ok did.1
    (appended_in_part g.R.ReceiptFiles _ _ c.in-Some.is _ _ _ _ _ c.as_slice-2.ensures.value was.others _ did.0 was.count was.err did.2)
    (reported_alone g.W.Sink g.E.Sink _ _ _ did.0 (none_printed _ _ did.0 did.2) did.3)
