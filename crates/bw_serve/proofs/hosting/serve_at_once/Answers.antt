use Rattle.std.proofs.Common.{inl, inr, refl, rules}
use Rattle.bw_serve.proofs.AnsweredRuns.{by_loop}
use Rattle.bw_serve.specs.Guards.{guarded_answers}
use Rattle.bw_serve.proofs.hosting.serve_at_once.Goals as goal

pub returns-in-Err-print_opening : goal.returns-in-Err-print_opening
returns-in-Err-print_opening g c = inl (record {
  it = c.in-Ok.reactor;
  between = c.reactor.new.self;
  given = search rules;
  follows = (refl, inr c.in-Err-print_opening.ensures.unprinted);
})

pub returns : goal.returns
returns g c =
    let ran = c.run_event_loop-exit in
    let run = rw (c.new-server.ensures.server, c.in_default.ensures.silent) at ran.ensures in
    inl (record {
      it = c.in-Ok.reactor;
      between = c.reactor.new.self;
      given = search rules;
      follows = (
        refl,
        inl (
          ran.new.reactor,
          record {
            following = ran.new.server.server;
            between = c.print_opening.new.out;
            opens = c.in_default.ensures.printed;
            ended = ran.result;
            logged = ran.new.faults;
            run = run;
            answers_all = by_loop (guarded_answers g.T.Turns.answers c.args.hosting.now.allow.now) g.T.Turns.commits
                g.N.Reactor.Reactor
                g.N.Reactor.Link.Link g.O.Sink
                g.E.Sink c.args.hosting.now.log c.args.hosting.now.bounds ran.result c.args.opened.server
                ran.new.server.server c.in-Ok.reactor ran.new.reactor c.print_opening.new.out ran.new.out
                c.args.faults.now ran.new.faults run;
            reports = c.report_end.ensures;
          },
        ),
      );
    })
