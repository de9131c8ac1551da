use Rattle.bw_console.proofs.PrintLemmas.{flush-stops}
use Rattle.bw_console.proofs.print.print.Goals as goal

pub returns-clause-err : goal.returns-clause-err
returns-clause-err g c =
    flush-stops g.W.Sink _ _ _ _ c.flush.result c.in_ok-write_all.ensures.ok c.in_ok-write_all.ensures.count
    c.flush.ensures.count c.flush.ensures.kept
