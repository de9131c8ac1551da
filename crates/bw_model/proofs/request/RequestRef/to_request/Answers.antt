use Rattle.std.proofs.Common.{rules}
use Rattle.bw_model.proofs.request.RequestRef.to_request.Goals as goal

pub returns-clause-ok : goal.returns-clause-ok
returns-clause-ok c = search rules
