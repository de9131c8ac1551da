use Rattle.std.proofs.Common.{rules}
use Rattle.bw_serve.proofs.CountedBatches.{serves_by}
use Rattle.bw_serve.proofs.GuardedCalls.{committed_by_exchange, left_by_exchange}
use Rattle.bw_serve.proofs.guarded.serve_guarded.Goals as goal

pub returns : goal.returns
returns g c =
    let to = c.serve_link.ensures in
    let answers = g.T.Turns.answers in
    let committed = g.T.Turns.committed in
    let commits = g.T.Turns.commits in
    serves_by _ _ _ _ g.R.Source g.W.Sink g.O.Sink _ _ _ _ _ _ _ _ _ _ _ _ _ to
    (left_by_exchange answers committed commits _ _ _ _ to.serves.by_server (search rules))
    (committed_by_exchange answers committed commits _ _ _ _ to.serves.by_server (search rules) _ to.batches)
