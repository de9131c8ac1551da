use Rattle.bw_serve.proofs.Guarding.{runs_are_runs}
use Rattle.bw_serve.proofs.laws.law_guarded.Goals as goal

pub returns : goal.returns
returns g c = runs_are_runs g.T.Turns.answers g.T.Turns.committed
