use Rattle.bw_repair.proofs.Fills.{named_all}
use Rattle.bw_repair.proofs.OutWrites.{on_err}
use Rattle.bw_repair.proofs.conversions.making.finish.Goals as goal

pub returns-clause-err : goal.returns-clause-err
returns-clause-err g c =
    on_err c.sync-2.result
    (named_all g.D.Disk (g.D.Disk.path_of c.args.file.now) c.args.id _ _ _ _ c.in_ok-sync.ensures.honest
    c.in_ok-append.ensures.honest c.in_ok-sync.ensures.unchanged c.in_ok-append.ensures.written
    c.sync-2.ensures.unchanged)
