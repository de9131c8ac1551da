use Rattle.bw_takes.proofs.WatchLemmas.{watch_stays}
use Rattle.bw_takes.proofs.watching.watch_takes.Goals as goal

pub returns-clause-disk : goal.returns-clause-disk
returns-clause-disk g c = watch_stays g.D.Disk _ _ _ _ _ _ _ _ c.watch_by_reader.ensures
