use Rattle.std.proofs.Common.{rules}
use Rattle.bw_wire.proofs.payload.is_payload.Goals as goal

pub returns-in-3 : goal.returns-in-3
returns-in-3 c = search rules
