use Rattle.bw_report.proofs.ReceiptLemmas.{in_json, in_words, made_line}
use Rattle.bw_report.proofs.receipt.ReceiptJob.line.Goals as goal

pub returns-then-self : goal.returns-then-self
returns-then-self c =
    made_line c.receipt_json.result (λ v. v.items) c.args.self.now c.receipt_under-receipt.result _ _ c.receipt_under-receipt.ensures
    (in_json c.args.self.now _ c.if-self.true) c.receipt_json.ensures

pub returns-else-self : goal.returns-else-self
returns-else-self c =
    made_line c.receipt_line.result (λ v. v.items) c.args.self.now c.receipt_under-receipt.result _ _ c.receipt_under-receipt.ensures
    (in_words c.args.self.now _ c.if-self.false) c.receipt_line.ensures
