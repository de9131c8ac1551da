use Rattle.bw_serve.proofs.HeldRuns.{leaves_from}
use Rattle.bw_serve.proofs.laws.law_held_runs.Goals as goal

pub returns : goal.returns
returns g c old new answered all = leaves_from g.S.TakeStore g.J.Journal c.law_server_runs.ensures old new answered all
