use Rattle.std.proofs.Common.{[], refl}
use Rattle.bw_session.proofs.StoreRuns.{leaves_run}
use Rattle.bw_serve.proofs.laws.law_names.Goals as goal

pub returns : goal.returns
returns g c limit before old new answered honest begun limited empty all =
    let leaves = leaves_run g.S.TakeStore _ (λ y. refl) limit before old new begun limited empty honest
    answered all in
    let run = c.law_runs.ensures.runs _ _ _ [] leaves.book answered leaves.run in
    record {
      leaves = leaves;
      received = run.received;
      answers = run.answers;
      left = run.left;
      each = λ name. c.law_isolation.ensures _ name run.received;
    }
