use Rattle.bw_report.proofs.ReceiptLemmas.{found_left, found_made, left_out_after, of_faulty, of_read, of_unopened}
use Rattle.bw_report.proofs.ReceiptLemmas.{unopened, unread}
use Rattle.bw_report.proofs.receipt.recording_line.Goals as goal

pub returns-in-Read-clause-ok : goal.returns-in-Read-clause-ok
returns-in-Read-clause-ok g c =
    let known = of_read g.E.Sink _ _ _ _ _ _ _ _ _ c.in-Read.ensures.found in
    found_made c.found_line.result (λ v. v.items) _ c.args.job.now _ _ _ _ _ _ _ known c.found_line.ensures.ok

pub returns-in-Read-clause-err : goal.returns-in-Read-clause-err
returns-in-Read-clause-err g c =
    let known = of_read g.E.Sink _ _ _ _ _ _ _ _ _ c.in-Read.ensures.found in
    found_left g.E.Sink c.args.job.now.source.now c.found_line.result _ _ _ _ _ known.1 known.2 c.found_line.ensures.err

pub returns-in-Faulty-clause-err : goal.returns-in-Faulty-clause-err
returns-in-Faulty-clause-err g c =
    let known = of_faulty g.E.Sink _ _ _ _ _ _ _ c.in-Faulty.ensures.found in
    let did = c.refuse.ensures in
    left_out_after g.E.Sink _ _ _ _ _ _ _ known.0 known.1
    (λ m. unread g.E.Sink c.args.job.now.source.now _ _ _ did.0 did.1 did.3 m did.2)

pub returns-in-Unopened-clause-err : goal.returns-in-Unopened-clause-err
returns-in-Unopened-clause-err g c =
    let known = of_unopened g.E.Sink _ _ _ _ _ _ _ c.in-Unopened.ensures.found in
    unopened g.E.Sink c.args.job.now.source.now _ _ _ known.0 known.1 known.4 _ _ known.2 known.3
