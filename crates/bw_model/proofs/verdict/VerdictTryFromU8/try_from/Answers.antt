use Rattle.std.proofs.Common.{rules}
use Rattle.bw_model.proofs.verdict.VerdictTryFromU8.try_from.Goals as goal

pub returns-in-6 : goal.returns-in-6
returns-in-6 c = search rules
