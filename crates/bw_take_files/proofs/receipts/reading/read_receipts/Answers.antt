use Rattle.std.proofs.Common.{ap, ◌∙◌, arith}
use Rattle.bw_take_files.proofs.ReceiptFileLemmas.{first_bad, receipts_more, texts, when_false, when_true}
use Rattle.bw_take_files.proofs.receipts.reading.read_receipts.Goals as goal

pub returns-then-not-branch : goal.returns-then-not-branch
returns-then-not-branch c = first_bad _ c.deref-line-items.result.now c.loop-line.line-index _ c.loop-line.number
    c.loop-line.receipts.items (ap texts c.deref-line-items.ensures.value ∙ c.in_ok-lines.ensures) c.loop-line-test.true
    c.loop-line.invariant.0 c.loop-line.invariant.1
    (when_false c.in_ok-put_receipt.field-0 _ _ c.in_ok-put_receipt.ensures cc)

pub loop-line-preserved : goal.loop-line-preserved
loop-line-preserved c = (
  receipts_more c.deref-line-items.result.now c.loop-line.line-index _ c.loop-line.receipts.items _ c.loop-line-test.true
      c.loop-line.invariant.0 (when_true c.in_ok-put_receipt.field-0 _ _ c.in_ok-put_receipt.ensures cc),
  omega arith,
)
