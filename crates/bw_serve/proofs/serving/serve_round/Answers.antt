use Rattle.std.proofs.Common.{◌≡◌, ◌≤◌, ℕ, [], ap, refl, sym, subst, ◌∙◌}
use Rattle.bw_connections.specs.Places.{connection_count}
use Rattle.bw_serve.proofs.Growing.{grown_peer_slots, grows_still, turn_advances, turn_begun, turn_peer_slots}
use Rattle.bw_serve.proofs.Guarding.{guarded_committed}
use Rattle.bw_serve.proofs.Withholding.{on_err}
use Rattle.bw_serve.specs.EventLoops.{InTurn, LetsIn}
use Rattle.bw_serve.specs.Rounds.{IsShut, patience_of}
use Rattle.bw_serve.proofs.Noticing.{all_still, wakes_none}
use Rattle.bw_serve.proofs.Rounds.{welcomes_after, welcomes_none}
use Rattle.bw_serve.specs.Guards.{guarded_answers}
use Rattle.bw_serve.proofs.serving.serve_round.Goals as goal

pub returns-in_default-clause-shut : goal.returns-in_default-clause-shut
returns-in_default-clause-shut g c = record {
  noticed = c.args.event_loop.now;
  notices = record { grows = grows_still g.B.Link.Link c.args.event_loop.now; begun = refl; refused = refl };
  reported = [];
  wakes = wakes_none c.args.event_loop.now;
  grows = grows_still g.B.Link.Link c.args.event_loop.now;
  now = 0;
  welcomes = welcomes_after g.B.Reactor 0 0 c.args.reactor.now c.wait.new.self c.wait.new.self c.args.event_loop.now
      c.args.event_loop.now refl c.wait.ensures.admitted (welcomes_none g.B.Reactor 0 c.wait.new.self
      c.args.event_loop.now);
  server = refl;
  printed = refl;
  logged = refl;
}

pub returns-in_err-welcome-clause-shut : goal.returns-in_err-welcome-clause-shut
returns-in_err-welcome-clause-shut g c =
    let shut : IsShut g.B.Reactor g.B.Link.Link c.args.event_loop.now c.welcome.new.self c.args.server.now.server
    c.args.server.now.server c.args.reactor.now c.welcome.new.reactor c.args.out.now c.args.out.now c.args.faults.now
    c.args.faults.now = record {
      noticed = c.notice.new.self;
      notices = c.notice.ensures.stays;
      reported = c.notice.ensures.notices.0.reported;
      wakes = c.notice.ensures.notices.0.each;
      grows = c.welcome.ensures.grows;
      now = c.now-now.result;
      welcomes = welcomes_after g.B.Reactor c.now-now.result c.now-now.result c.args.reactor.now c.now-now.new.self
          c.welcome.new.reactor c.notice.new.self c.welcome.new.self refl (λ xs was. c.now-now.ensures.admitted xs
          (c.notice.ensures.admitted xs (c.wait.ensures.admitted xs was))) c.welcome.ensures.welcomes;
      server = refl;
      printed = refl;
      logged = refl;
    } in
    on_err _ _ shut

pub returns-clause-round : goal.returns-clause-round
returns-clause-round g c =
    let e = c.serve_each in
    let at : c.now-now.result ≡ g.B.Reactor.time c.welcome.new.reactor =
    c.now-now.ensures.time ∙ sym c.welcome.ensures.time in
    let n = connection_count c.welcome.new.self.connections in
    let turn : InTurn g.B.Link.Link (guarded_answers g.T.Turns.answers c.args.terms.now.allow.now) g.O.Sink g.E.Sink
    c.args.terms.now.log
    (g.B.Reactor.time c.welcome.new.reactor) c.args.terms.now.bounds.idle n c.welcome.new.self e.new.self
    c.args.server.now.server e.new.server.server c.args.out.now e.new.out c.args.faults.now e.new.faults =
    subst (λ (now : ℕ). InTurn g.B.Link.Link (guarded_answers g.T.Turns.answers c.args.terms.now.allow.now) g.O.Sink
    g.E.Sink c.args.terms.now.log now
    c.args.terms.now.bounds.idle n c.welcome.new.self e.new.self
    c.args.server.now.server e.new.server.server c.args.out.now e.new.out c.args.faults.now e.new.faults) at
    e.ensures.in_turn in (
      record {
        waited = c.welcome.ensures.waits ∙ (c.now-now.ensures.waits ∙ (c.notice.ensures.waits ∙ c.in-Ok.ensures.waits));
        patience = c.welcome.ensures.patience ∙ (c.now-now.ensures.patience ∙ (c.notice.ensures.patience
            ∙ (c.in-Ok.ensures.patience ∙ (c.patience.ensures ∙ ap patience_of c.can_go_on.ensures))));
        noticed = c.notice.new.self;
        notices = c.notice.ensures.stays;
        links = c.notice.ensures.notices.0.reported;
        were_reported = c.welcome.ensures.reported _ (c.now-now.ensures.reported _ (c.notice.ensures.notices.0.more []
            c.in-Ok.ensures.reported));
        all = all_still c.args.event_loop.now c.notice.ensures.notices.0.reported
            (λ all. c.welcome.ensures.all_reported (c.now-now.ensures.all_reported all)) c.notice.ensures.notices.1;
        wakes = c.notice.ensures.notices.0.each;
        between = c.welcome.new.self;
        grows = c.welcome.ensures.grows;
        lets_in = subst (λ (now : ℕ). LetsIn now c.notice.new.self c.welcome.new.self) at c.welcome.ensures.lets_in;
        welcomes = welcomes_after g.B.Reactor c.now-now.result (g.B.Reactor.time c.welcome.new.reactor)
            c.args.reactor.now
            c.now-now.new.self c.welcome.new.reactor c.notice.new.self c.welcome.new.self at (λ xs was.
            c.now-now.ensures.admitted xs (c.notice.ensures.admitted xs (c.wait.ensures.admitted xs was)))
            c.welcome.ensures.welcomes;
        asks = c.in_ok-welcome.ensures.asks (c.now-now.ensures.tried 0
            (c.notice.ensures.tried 0 c.in-Ok.ensures.tried));
        served = e.new.self;
        mid = e.new.server.server;
        printed = e.new.out;
        logged = e.new.faults;
        in_turn = turn;
        kept = guarded_committed g.T.Turns.answers c.args.terms.now.allow.now e.new.server.server
            c.commit.new.server.server
            c.commit.ensures.answered c.args.server.now.server _
            (λ same. c.commit.ensures.idle (subst (λ x. g.T.Turns.committed x) (sym same) c.requires.committed))
            (turn_advances g.B.Link.Link (guarded_answers g.T.Turns.answers c.args.terms.now.allow.now) g.O.Sink
            g.E.Sink c.args.terms.now.log
            (g.B.Reactor.time c.welcome.new.reactor) c.args.terms.now.bounds.idle n c.welcome.new.self e.new.self
            c.args.server.now.server e.new.server.server c.args.out.now e.new.out c.args.faults.now e.new.faults
            turn).by_server;
        outcome = c.commit.result;
        committed = c.commit.ensures.commits;
        withholds = c.commit.ensures.withholds;
      },
      refl,
    )

pub returns-clause-begun : goal.returns-clause-begun
returns-clause-begun g c =
    let e = c.serve_each in
    subst (λ (n : ℕ). n ≤ c.args.terms.now.bounds.exchanges)
    (sym (c.commit.ensures.withholds.begun ∙ turn_begun g.B.Link.Link
    (guarded_answers g.T.Turns.answers c.args.terms.now.allow.now) g.O.Sink
    g.E.Sink c.args.terms.now.log c.now-now.result c.args.terms.now.bounds.idle
    (connection_count c.welcome.new.self.connections) c.welcome.new.self
    e.new.self c.args.server.now.server e.new.server.server c.args.out.now e.new.out c.args.faults.now e.new.faults
    e.ensures.in_turn))
    c.welcome.ensures.most

pub returns-clause-peer_slots : goal.returns-clause-peer_slots
returns-clause-peer_slots g c =
    let e = c.serve_each in
    let w = c.commit.ensures.withholds in
    let quanta = turn_peer_slots g.B.Link.Link (guarded_answers g.T.Turns.answers c.args.terms.now.allow.now) g.O.Sink
    g.E.Sink c.args.terms.now.log
    c.now-now.result c.args.terms.now.bounds.idle
    (connection_count c.welcome.new.self.connections) c.welcome.new.self e.new.self c.args.server.now.server
    e.new.server.server
    c.args.out.now e.new.out c.args.faults.now e.new.faults e.ensures.in_turn
    (grown_peer_slots g.B.Link.Link c.notice.new.self c.welcome.new.self c.welcome.ensures.grows
    (grown_peer_slots g.B.Link.Link c.args.event_loop.now c.notice.new.self c.notice.ensures.stays.grows
    c.requires.peer_slots)) in
    w.peer_slots_are ∙ (quanta ∙ sym w.places_are)

pub commit-requires : goal.commit-requires
commit-requires g c =
    let e = c.serve_each in
    record {
      peer_slots = turn_peer_slots g.B.Link.Link (guarded_answers g.T.Turns.answers c.args.terms.now.allow.now) g.O.Sink
          g.E.Sink c.args.terms.now.log
          c.now-now.result c.args.terms.now.bounds.idle
          (connection_count c.welcome.new.self.connections) c.welcome.new.self e.new.self c.args.server.now.server
          e.new.server.server
          c.args.out.now e.new.out c.args.faults.now e.new.faults e.ensures.in_turn
          (grown_peer_slots g.B.Link.Link c.notice.new.self c.welcome.new.self c.welcome.ensures.grows
          (grown_peer_slots g.B.Link.Link c.args.event_loop.now c.notice.new.self c.notice.ensures.stays.grows
          c.requires.peer_slots));
    }
