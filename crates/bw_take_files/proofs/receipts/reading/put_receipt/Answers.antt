use Rattle.bw_take_files.proofs.LineLemmas.{nothing_said}
use Rattle.bw_take_files.proofs.receipts.reading.put_receipt.Goals as goal

pub returns-in_default : goal.returns-in_default
returns-in_default c = nothing_said c.args.line.now c.is_empty.result c.in_ok-receipt.field-0 c.is_empty.ensures
    c.if-is_empty.false c.in_default.is c.in_ok-receipt.ensures
