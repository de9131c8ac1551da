use Rattle.bw_repair.proofs.Leftovers.{leftovers_unread}
use Rattle.bw_repair.proofs.laws.law_leftovers.Goals as goal

pub returns : goal.returns
returns c = record { unread = leftovers_unread }
