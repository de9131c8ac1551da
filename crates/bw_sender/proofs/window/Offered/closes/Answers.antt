use Rattle.std.proofs.Common.{rules}
use Rattle.bw_sender.proofs.window.Offered.closes.Goals as goal

pub returns-in-None : goal.returns-in-None
returns-in-None c = search rules
