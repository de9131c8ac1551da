use Rattle.std.proofs.Common.{rules}
use Rattle.bw_exchange.proofs.end_text.end_name.Goals as goal

pub returns-in-Bye-clause-value : goal.returns-in-Bye-clause-value
returns-in-Bye-clause-value c = search rules
