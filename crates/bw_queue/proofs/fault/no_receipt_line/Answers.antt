use Rattle.std.proofs.Common.{sym, ◌∙◌, ◌++◌, codes, decimal}
use Rattle.std.proofs.lemmas.List.{append_assoc}
use Rattle.bw_queue.specs.QueueFaults.{no_receipt_text}
use Rattle.bw_queue.proofs.fault.no_receipt_line.Goals as goal

pub returns : goal.returns
unfolding no_receipt_text
returns c =
    let digits = decimal c.args.number in
    let end = codes ": not a receipt\n" in
    c.in_ok-line.ensures.ok
    ∙ sym (append_assoc (c.args.path.now ++ codes " line ") digits end
    ∙ append_assoc c.args.path.now (codes " line ") (digits ++ end))
