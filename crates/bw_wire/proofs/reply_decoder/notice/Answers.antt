use Rattle.std.proofs.Common.{rules}
use Rattle.bw_wire.proofs.reply_decoder.notice.Goals as goal

pub returns : goal.returns
returns c = search rules
