use Rattle.std.proofs.Common.{ℕ, ◌∙◌, sym, subst, arith}
use Rattle.bw_serve.specs.ServedAll.{ServesNext}
use Rattle.bw_serve.proofs.RunSteps.{run_more, run_ends}
use Rattle.bw_serve.specs.Guards.{GuardedOverCommits}
use Rattle.bw_serve.proofs.serving_in_turn.serve_run.Goals as goal

pub loop-index-preserved : goal.loop-index-preserved
loop-index-preserved g c =
    let next = c.serve_next.ensures in
    run_more (GuardedOverCommits g.T.Turns.answers g.T.Turns.committed c.args.terms.now.allow.now) g.T.Turns.commits
    g.P.Peers g.P.Reader.Source
    g.P.Writer.Sink g.O.Sink g.E.Sink _ _ next.0 _ _ _ _ _ _
    _ _ _ _ _ _ c.loop-index.invariant next.2 (sym next.1 ∙ c.in_default.is)

pub returns-in-Some : goal.returns-in-Some
returns-in-Some g c =
    let next = c.serve_next.ensures in
    let before = c.loop-index.invariant in
    run_ends (GuardedOverCommits g.T.Turns.answers g.T.Turns.committed c.args.terms.now.allow.now) g.T.Turns.commits
    g.P.Peers g.P.Reader.Source
    g.P.Writer.Sink g.O.Sink g.E.Sink _ _ _ _ _ _ _ _ _ _ _
    (record {
      before = before.outcomes;
      few = let e = before.all in let t = c.loop-index-test.true in omega (arith, e, t);
      m = c.loop-index.server.server;
      q = c.loop-index.peers;
      n = c.loop-index.out;
      f = c.loop-index.faults;
      each = before.each;
      last = next.0;
      next = subst (λ (i : ℕ). ServesNext (GuardedOverCommits g.T.Turns.answers g.T.Turns.committed
          c.args.terms.now.allow.now)
          g.T.Turns.commits g.P.Peers g.P.Reader.Source g.P.Writer.Sink
          g.O.Sink g.E.Sink c.args.terms.now.log i next.0 c.loop-index.server.server c.serve_next.new.server.server
          c.loop-index.peers c.serve_next.new.peers c.loop-index.out c.serve_next.new.out c.loop-index.faults
          c.serve_next.new.faults) (sym before.all) next.2;
      ends = sym next.1 ∙ c.in-Some.is;
    })
