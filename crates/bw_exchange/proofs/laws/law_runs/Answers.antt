use Rattle.bw_exchange.proofs.GoodRuns.{turns_are_runs, order_holds_under_faults}
use Rattle.bw_exchange.proofs.laws.law_runs.Goals as goal

pub returns-clause-runs : goal.returns-clause-runs
returns-clause-runs c = turns_are_runs

pub returns-clause-in_order : goal.returns-clause-in_order
returns-clause-in_order c = order_holds_under_faults
