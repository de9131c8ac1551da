use Rattle.std.proofs.Common.{◌⊎◌, inl, inr, refl, rules}
use Rattle.std.specs.Prelude.{Ok}
use Rattle.bw_serve.specs.Beginnings.{Calls, GoesOnWith}
use Rattle.bw_serve.specs.Guards.{guarded_answers}
use Rattle.bw_serve.proofs.AnsweredRuns.{by_loop}
use Rattle.bw_serve_status.proofs.CountedRuns.{counted_shown}
use Rattle.bw_serve_status.proofs.hosting.serve_shown.Goals as goal

-- a call gave this, and so it goes on
gave : {N T F : Type 0} {Refused : Type 0} {calls : Calls N T F} {Follows : T → N → Type 0} {n : N} (it : T)
    (between : N) → calls n (Ok it) between → Follows it between → GoesOnWith calls Follows n ⊎ Refused
gave it between given follows = inl (record { it = it; between = between; given = given; follows = follows })

-- the address for operators can't be used
pub returns-in-Err-status_port : goal.returns-in-Err-status_port
returns-in-Err-status_port g c =
    gave c.in-Ok.reactor c.reactor.new.self (search rules) (inr (record {
      error = c.in-Err-status_port.error;
      refused = search rules;
      printed = refl;
      reports = c.report_unbound-in-Err-status_port.ensures;
    }))

-- memory was refused
pub returns-in_default : goal.returns-in_default
returns-in_default g c =
    gave c.in-Ok.reactor c.reactor.new.self (search rules)
    (gave c.in-Ok-status_port.port c.status_port.new.self (search rules) (refl, inr (inr (refl, search rules))))

-- the first lines aren't printed
pub returns-in-Err-print_opening : goal.returns-in-Err-print_opening
returns-in-Err-print_opening g c =
    gave c.in-Ok.reactor c.reactor.new.self (search rules)
    (gave c.in-Ok-status_port.port c.status_port.new.self (search rules)
    (refl, inr c.in-Err-print_opening.ensures.unprinted))

pub returns : goal.returns
returns g c =
    let ran = c.run_observed-exit in
    let silent = c.in_default-print_opening.ensures.silent in
    let hosting = c.args.showing.now.hosting in
    let answered = ran.new.server.server.server in
    let run =
    counted_shown g.T.Turns.answers g.T.Turns.commits g.T.HasTable.holds g.N.Reactor.Reactor g.N.Reactor.Link.Link
    g.O.Sink g.E.Sink g.N.Port.StatusPort g.N.Port.Link.Link c.args.opened.server hosting ran.result _ _ _ _
    _ _ _ _ _ _ c.in-Ok-status_port.port c.args.opened.takes c.in-Ok-begin_to_show.ensures.server
    c.in-Ok-begin_to_show.ensures.tallies
    c.in-Ok-begin_to_show.ensures.shows (rw silent at ran.ensures.runs) (rw silent at ran.ensures.observed) in
    gave c.in-Ok.reactor c.reactor.new.self (search rules)
    (gave c.in-Ok-status_port.port c.status_port.new.self (search rules) (
      refl,
      inl (
        ran.new.reactor,
        record {
          following = answered;
          between = c.print_opening.new.out;
          opens = c.in_default-print_opening.ensures.printed;
          ended = ran.result;
          logged = ran.new.faults;
          run = run;
          answers_all = by_loop (guarded_answers g.T.Turns.answers hosting.allow.now) g.T.Turns.commits g.N.Reactor.Reactor
              g.N.Reactor.Link.Link g.O.Sink
              g.E.Sink hosting.log hosting.bounds ran.result c.args.opened.server answered c.in-Ok.reactor
              ran.new.reactor c.print_opening.new.out ran.new.out c.args.faults.now ran.new.faults run.0;
          reports = c.report_end.ensures;
        },
      ),
    ))
