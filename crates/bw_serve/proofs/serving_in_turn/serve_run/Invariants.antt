use Rattle.bw_serve.specs.ServedAll.{ServesAll}
use Rattle.bw_serve.specs.Guards.{GuardedOverCommits}
use Rattle.bw_serve.proofs.serving_in_turn.serve_run.Given as goal

abbrev pub invariant-loop-index : goal.invariant-loop-index
invariant-loop-index g l = ServesAll (GuardedOverCommits g.T.Turns.answers g.T.Turns.committed l.fn.terms.allow.now)
    g.T.Turns.commits g.P.Peers g.P.Reader.Source g.P.Writer.Sink g.O.Sink g.E.Sink
    l.fn.terms.log l.index l.fn.server.server l.server.server l.fn.peers l.peers l.fn.out l.out l.fn.faults l.faults
