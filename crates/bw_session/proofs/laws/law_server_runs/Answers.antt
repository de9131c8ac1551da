use Rattle.bw_session.proofs.ServedRuns.{servers_run}
use Rattle.bw_session.proofs.laws.law_server_runs.Goals as goal

pub returns : goal.returns
returns g c = servers_run g.S.TakeStore g.J.Journal
