use Rattle.std.proofs.Common.{sym, ◌∙◌, ◌++◌, codes, decimal}
use Rattle.std.proofs.lemmas.List.{append_assoc}
use Rattle.bw_takes.specs.ReceiptChecks.{bad_receipt_text}
use Rattle.bw_takes.proofs.receipts.bad_receipt_line.Goals as goal

pub returns : goal.returns
unfolding bad_receipt_text
returns c =
    let digits = decimal c.args.number in
    let end = codes ": not a receipt\n" in
    c.in_ok-line.ensures.ok
    ∙ sym (append_assoc (c.args.path.now ++ codes " line ") digits end
    ∙ append_assoc c.args.path.now (codes " line ") (digits ++ end))
