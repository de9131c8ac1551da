use Rattle.std.proofs.Common.{rules}
use Rattle.bw_layout.proofs.limit.LimitDefault.default.Goals as goal

pub returns : goal.returns
returns c = search rules
