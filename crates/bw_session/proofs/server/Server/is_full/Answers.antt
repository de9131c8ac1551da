use Rattle.std.proofs.Common.{ℕ, ap}
use Rattle.std.specs.Prelude.{nat_le}
use Rattle.bw_model.specs.Turn.{most_takes}
use Rattle.bw_session.proofs.server.Server.is_full.Goals as goal

pub returns-clause-value : goal.returns-clause-value
returns-clause-value g c = λ first book h.
    ap (λ (n : ℕ). nat_le most_takes n) (c.names.ensures.value first book h)
