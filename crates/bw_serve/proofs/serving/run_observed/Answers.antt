use Rattle.std.proofs.Common.{◌≡◌, true, false, ℕ, ◌+◌, ◌≤◌, rules, arith, refl, sym, subst, inl, inr, ◌∙◌, ap}
use Rattle.bw_stream.specs.Moves.{one_more}
use Rattle.bw_console.specs.declared.exit.Exit.TheVariants as exits
use Rattle.bw_serve.specs.Rounds.{goes_on_after}
use Rattle.bw_serve.proofs.Running.{all_ended, lacks_sync, waited_more, runs_more, runs_none, runs_over, runs_shut}
use Rattle.bw_serve.specs.Guards.{guarded_answers}
use Rattle.bw_serve.proofs.serving.run_observed.Goals as goal

pub returns-in_default-clause-runs : goal.returns-in_default-clause-runs
returns-in_default-clause-runs g c = (refl, refl, refl, refl)

pub returns-in_default-clause-observed : goal.returns-in_default-clause-observed
returns-in_default-clause-observed g c = refl

pub loop-round-init : goal.loop-round-init
loop-round-init g c =
    let n = c.in-Ok.ensures in
    let begun = n.begun in
    record {
      runs = (
        _,
        refl,
        runs_none g.B.Reactor g.B.Link.Link (guarded_answers g.T.Turns.answers c.args.terms.now.allow.now)
            g.T.Turns.commits g.O.Sink g.E.Sink
            c.args.terms.now.log
            g.V.RoundObserver.looks c.args.terms.now.bounds.places c.args.terms.now.bounds.idle
            c.args.terms.now.bounds.exchanges c.in-Ok.event_loop
            c.args.server.now.server c.args.reactor.now c.args.out.now c.args.faults.now c.args.observer.now n,
      );
      begun = omega (arith, begun);
      peer_slots = n.peer_slots_are ∙ sym n.places_are;
      failures = refl;
      committed = c.requires;
      waits = omega arith;
    }

pub loop-round-preserved : goal.loop-round-preserved
loop-round-preserved g c =
    let l = c.loop-round in
    let r = c.serve_round in
    let ok = c.in-Ok-serve_round.ensures in
    record {
      runs = (
        ok.round.0.outcome,
        subst (λ r. goes_on_after r ≡ true) (sym ok.round.1) (search rules),
        runs_more g.B.Reactor g.B.Link.Link (guarded_answers g.T.Turns.answers c.args.terms.now.allow.now)
            g.T.Turns.commits g.O.Sink g.E.Sink
            c.args.terms.now.log
            g.V.RoundObserver.looks l.invariant.runs.0 l.invariant.runs.1 c.args.terms.now.bounds.places
            c.args.terms.now.bounds.idle
            c.args.terms.now.bounds.exchanges l.event_loop r.new.event_loop
            c.args.server.now.server l.server.server r.new.server.server c.args.reactor.now l.reactor r.new.reactor
            c.args.out.now l.out r.new.out c.args.faults.now l.faults r.new.faults c.args.observer.now l.observer
            _ l.invariant.runs.2 (search rules) ok.round.0 (search rules),
      );
      begun = r.ensures.begun;
      peer_slots = r.ensures.peer_slots;
      failures = ok.count ∙ l.invariant.failures;
      committed = r.ensures.committed;
      waits = subst (λ (n : ℕ). l._round + 1 ≤ n) (sym ok.waits)
          (waited_more l._round (g.B.Reactor.waits l.reactor) (search rules) l.invariant.waits);
    }

pub serve_round-requires-clause-committed : goal.serve_round-requires-clause-committed
serve_round-requires-clause-committed g c = c.loop-round.invariant.committed

pub serve_round-requires-clause-begun : goal.serve_round-requires-clause-begun
serve_round-requires-clause-begun g c = c.loop-round.invariant.begun

pub serve_round-requires-clause-peer_slots : goal.serve_round-requires-clause-peer_slots
serve_round-requires-clause-peer_slots g c = c.loop-round.invariant.peer_slots

pub returns-then-ended-terms-clause-observed : goal.returns-then-ended-terms-clause-observed
returns-then-ended-terms-clause-observed g c =
    let l = c.loop-round in
    runs_over g.B.Reactor g.B.Link.Link (guarded_answers g.T.Turns.answers c.args.terms.now.allow.now) g.T.Turns.commits
    g.O.Sink g.E.Sink c.args.terms.now.log
    g.V.RoundObserver.looks
    c.law_connections.ensures l.invariant.runs.0 c.args.terms.now.bounds exits.Done l.event_loop
    c.args.server.now.server l.server.server
    c.args.reactor.now l.reactor c.args.out.now l.out c.args.faults.now l.faults c.args.observer.now l.observer
    l.invariant.runs.2 l.invariant.begun
    (λ over is. (all_ended c.args.terms.now.bounds.exchanges l.event_loop over is (search rules), l.invariant.failures))

pub returns-then-ended-terms-clause-runs : goal.returns-then-ended-terms-clause-runs
returns-then-ended-terms-clause-runs g c = (returns-then-ended-terms-clause-observed g c).run

pub returns-in_default-serve_round-clause-observed : goal.returns-in_default-serve_round-clause-observed
returns-in_default-serve_round-clause-observed g c =
    let l = c.loop-round in
    let r = c.serve_round in
    let shut = c.in_default-serve_round.ensures in
    runs_shut g.B.Reactor g.B.Link.Link (guarded_answers g.T.Turns.answers c.args.terms.now.allow.now) g.T.Turns.commits
    g.O.Sink g.E.Sink c.args.terms.now.log
    g.V.RoundObserver.looks
    c.law_connections.ensures l.invariant.runs.0 c.args.terms.now.bounds exits.Device l.event_loop r.new.event_loop
    c.args.server.now.server
    l.server.server r.new.server.server c.args.reactor.now l.reactor r.new.reactor c.args.out.now l.out r.new.out
    c.args.faults.now l.faults r.new.faults c.args.observer.now l.observer l.invariant.runs.2 shut.shut r.ensures.begun
    (λ over. inl (inl (shut.count ∙ ap one_more l.invariant.failures)))

pub returns-in_default-serve_round-clause-runs : goal.returns-in_default-serve_round-clause-runs
returns-in_default-serve_round-clause-runs g c = (returns-in_default-serve_round-clause-observed g c).run

pub returns-then-not-may_go_on-clause-observed : goal.returns-then-not-may_go_on-clause-observed
returns-then-not-may_go_on-clause-observed g c =
    let l = c.loop-round in
    let r = c.serve_round in
    let round = c.in-Ok-serve_round.ensures.round in
    runs_over g.B.Reactor g.B.Link.Link (guarded_answers g.T.Turns.answers c.args.terms.now.allow.now) g.T.Turns.commits
    g.O.Sink g.E.Sink c.args.terms.now.log
    g.V.RoundObserver.looks
    c.law_connections.ensures round.0.outcome c.args.terms.now.bounds exits.Device r.new.event_loop
    c.args.server.now.server
    r.new.server.server c.args.reactor.now r.new.reactor c.args.out.now r.new.out c.args.faults.now r.new.faults
    c.args.observer.now c.show.new.observer
    (runs_more g.B.Reactor g.B.Link.Link (guarded_answers g.T.Turns.answers c.args.terms.now.allow.now)
    g.T.Turns.commits g.O.Sink g.E.Sink c.args.terms.now.log
    g.V.RoundObserver.looks l.invariant.runs.0 l.invariant.runs.1 c.args.terms.now.bounds.places
    c.args.terms.now.bounds.idle
    c.args.terms.now.bounds.exchanges l.event_loop r.new.event_loop
    c.args.server.now.server l.server.server r.new.server.server c.args.reactor.now l.reactor r.new.reactor
    c.args.out.now l.out r.new.out c.args.faults.now l.faults r.new.faults c.args.observer.now l.observer
    _ l.invariant.runs.2 (search rules) round.0 (search rules))
    r.ensures.begun
    (λ over is. inr (lacks_sync g.T.Turns.commits round.0.mid round.0.outcome r.new.server.server round.0.committed
    (subst (λ x. goes_on_after x ≡ false) (sym round.1) (search rules))))

pub returns-then-not-may_go_on-clause-runs : goal.returns-then-not-may_go_on-clause-runs
returns-then-not-may_go_on-clause-runs g c = (returns-then-not-may_go_on-clause-observed g c).run

pub returns-clause-observed : goal.returns-clause-observed
returns-clause-observed g c =
    let l = c.loop-round in
    runs_over g.B.Reactor g.B.Link.Link (guarded_answers g.T.Turns.answers c.args.terms.now.allow.now) g.T.Turns.commits
    g.O.Sink g.E.Sink c.args.terms.now.log
    g.V.RoundObserver.looks
    c.law_connections.ensures l.invariant.runs.0 c.args.terms.now.bounds exits.Device l.event_loop
    c.args.server.now.server l.server.server
    c.args.reactor.now l.reactor c.args.out.now l.out c.args.faults.now l.faults c.args.observer.now l.observer
    l.invariant.runs.2 l.invariant.begun (λ over is. inl (inr (search rules)))

pub returns-clause-runs : goal.returns-clause-runs
returns-clause-runs g c = (returns-clause-observed g c).run
