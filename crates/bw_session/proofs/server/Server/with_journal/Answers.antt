use Rattle.std.proofs.Common.{rules}
use Rattle.bw_session.proofs.server.Server.with_journal.Goals as goal

pub returns-clause-limit : goal.returns-clause-limit
returns-clause-limit g c = search rules
