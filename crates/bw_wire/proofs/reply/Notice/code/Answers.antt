use Rattle.std.proofs.Common.{rules}
use Rattle.bw_wire.proofs.reply.Notice.code.Goals as goal

pub returns-6-clause-value : goal.returns-6-clause-value
returns-6-clause-value c = search rules

pub returns-7-clause-value : goal.returns-7-clause-value
returns-7-clause-value c = search rules
