use Rattle.std.proofs.Common.{◌∙◌, ap, Some}
use Rattle.std.proofs.lemmas.Result.{IfOk-weaker}
use Rattle.serde_json.specs.Written.{compact_text}
use Rattle.bw_take_files.proofs.ReceiptShapes.{receipt-depth, receipt-has_float}
use Rattle.bw_take_files.proofs.receipts.writing.object_text.Goals as goal

pub returns-clause-text : goal.returns-clause-text
returns-clause-text c =
    let none = receipt-has_float c.args.receipt.now c.args.address.now c.args.source.now in
    IfOk-weaker c.to_string.result _ _
    (λ t is. is (rw c.in_ok-value.ensures none) ∙ ap compact_text c.in_ok-value.ensures) c.to_string.ensures.text

pub returns-clause-reads_back : goal.returns-clause-reads_back
returns-clause-reads_back c =
    let few = receipt-depth c.args.receipt.now c.args.address.now c.args.source.now in
    IfOk-weaker c.to_string.result _ _
    (λ t is. is (rw c.in_ok-value.ensures few) ∙ ap Some c.in_ok-value.ensures) c.to_string.ensures.reads_back
