use Rattle.std.proofs.Common.{rules}
use Rattle.bw_exchange.proofs.link_stats.Metered.start.Goals as goal

pub returns-clause-link_stats : goal.returns-clause-link_stats
returns-clause-link_stats g c = search rules
