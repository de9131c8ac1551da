use Rattle.bw_delivery.proofs.LineWords.{index_found}
use Rattle.bw_delivery.proofs.lines.index_after.Goals as goal

pub returns : goal.returns
returns c = index_found c.index.result c.args.word.now c.args.line.now c.in-Some.text.now c.in-Some.ensures c.index.ensures
