use Rattle.bw_queue.proofs.NamingLemmas.{good_at}
use Rattle.bw_queue.proofs.namings.is_good_at.Goals as goal

pub returns : goal.returns
returns c = good_at c.args.lines.now c.args.place _ c.is_good_after.result c.requires c.is_good_after.ensures
