use Rattle.std.proofs.Common.{rules}
use Rattle.bw_model.proofs.request.Request.as_ref.Goals as goal

pub returns-in-Mark-clause-same : goal.returns-in-Mark-clause-same
returns-in-Mark-clause-same c = search rules
