use Rattle.std.proofs.Common.{◌≢◌, List, subst}
use Rattle.std.specs.List.{All}
use Rattle.std.proofs.lemmas.List.{take_all}
use Rattle.bw_take_files.specs.declared.receipts.receipt.Receipt.{Receipt}
use Rattle.bw_report.proofs.StoredLemmas.{all_more, receipts_differ}
use Rattle.bw_report.proofs.stored.is_among.Goals as goal

pub loop-kept-preserved : goal.loop-kept-preserved
loop-kept-preserved c = all_more (λ (kept : Receipt). kept ≢ c.args.receipt.now) c.args.receipts.now
    c.loop-kept.kept-index c.kept-item.result c.loop-kept-test.true c.kept-item.is c.loop-kept.invariant
    (receipts_differ c.kept-item.result c.args.receipt.now c.if-eq.ensures)

pub returns : goal.returns
returns c = subst (λ (rs : List Receipt). All (λ (kept : Receipt). kept ≢ c.args.receipt.now) rs)
    (take_all c.loop-kept.kept-index c.args.receipts.now c.loop-kept-test.false) c.loop-kept.invariant
