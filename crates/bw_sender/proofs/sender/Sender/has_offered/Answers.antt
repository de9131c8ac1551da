use Rattle.std.proofs.Common.{rules}
use Rattle.bw_sender.proofs.sender.Sender.has_offered.Goals as goal

pub returns-then-eq : goal.returns-then-eq
returns-then-eq c = search rules
