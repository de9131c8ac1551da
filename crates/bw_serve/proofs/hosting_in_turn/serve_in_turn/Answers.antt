use Rattle.std.proofs.Common.{inl, inr, refl, rules}
use Rattle.bw_serve.proofs.AnsweredRuns.{by_run}
use Rattle.bw_serve.specs.Guards.{GuardedOverCommits}
use Rattle.bw_serve.proofs.hosting_in_turn.serve_in_turn.Goals as goal

pub returns-in-Err-print_opening : goal.returns-in-Err-print_opening
returns-in-Err-print_opening g c = inl (record {
  it = c.in-Ok.peers;
  between = c.listen.new.self;
  given = search rules;
  follows = (refl, inr c.in-Err-print_opening.ensures.unprinted);
})

pub returns : goal.returns
returns g c =
    let ran = c.serve_run-exit in
    let run = rw (c.new-server.ensures.server, c.in_default.ensures.silent) at ran.ensures in
    inl (record {
      it = c.in-Ok.peers;
      between = c.listen.new.self;
      given = search rules;
      follows = (
        refl,
        inl (
          ran.new.peers,
          record {
            following = ran.new.server.server;
            between = c.print_opening.new.out;
            opens = c.in_default.ensures.printed;
            ended = ran.result;
            logged = ran.new.faults;
            run = run;
            answers_all = by_run (GuardedOverCommits g.T.Turns.answers g.T.Turns.committed c.args.serving.now.allow.now)
                g.T.Turns.commits g.N.Peers.Peers g.N.Peers.Reader.Source
                g.N.Peers.Writer.Sink g.O.Sink g.E.Sink c.args.serving.now.log c.args.serving.now.exchanges ran.result
                c.args.opened.server ran.new.server.server c.in-Ok.peers ran.new.peers c.print_opening.new.out ran.new.out
                c.args.faults.now ran.new.faults run;
            reports = c.report_end.ensures;
          },
        ),
      );
    })
