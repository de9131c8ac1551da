use Rattle.std.proofs.Common.{rules}
use Rattle.bw_serve.proofs.GuardedCalls.{counts_by_quantum, left_by_quantum}
use Rattle.bw_serve.proofs.WrappedRuns.{works_by}
use Rattle.bw_serve.proofs.guarded.work_guarded.Goals as goal

pub returns : goal.returns
returns g c = (
  works_by g.L.Link _ _ _ _ _ _ _ _ _ _ _ c.work-closed.ensures
      (left_by_quantum g.T.Turns.answers _ _ _ _ c.work-closed.ensures.by_server (search rules)),
  counts_by_quantum g.T.Turns.answers _ _ _ c.work-closed.ensures.by_server,
)
