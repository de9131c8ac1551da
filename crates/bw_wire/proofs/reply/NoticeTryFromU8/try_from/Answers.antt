use Rattle.std.proofs.Common.{rules}
use Rattle.bw_wire.proofs.reply.NoticeTryFromU8.try_from.Goals as goal

pub returns-in-36 : goal.returns-in-36
returns-in-36 c = search rules
