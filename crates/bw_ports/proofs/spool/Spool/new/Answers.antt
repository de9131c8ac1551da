use Rattle.std.proofs.Common.{refl}
use Rattle.bw_ports.proofs.spool.Spool.new.Goals as goal

pub returns-clause-open : goal.returns-clause-open
returns-clause-open g c = refl
