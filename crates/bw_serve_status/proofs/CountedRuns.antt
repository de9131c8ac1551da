-- What operators are shown of a run over a server that counts.
use Rattle.std.proofs.Common.{◌≡◌, ◌∙◌, ℕ, Option, List, [], ◌∷◌, refl, ap, subst}
use Rattle.std.specs.Prelude.{Result}
use Rattle.std.specs.declared.net.socket_addr.SocketAddr.{SocketAddr}
use Rattle.bw_model.specs.Book.{Book}
use Rattle.bw_model.specs.Wire.{Frame}
use Rattle.bw_model.specs.Replies.{Reply}
use Rattle.bw_stream.specs.declared.sink.Sink.{Ghosts as Writer}
use Rattle.bw_exchange.specs.AnsweredFrames.{Answered, AnswersAll}
use Rattle.bw_exchange.specs.declared.turns.NotKept.{NotKept}
use Rattle.bw_console.specs.declared.exit.Exit.{Exit}
use Rattle.bw_ports.specs.declared.link.Link.{Ghosts as LinkGhosts}
use Rattle.bw_ports.specs.declared.reactor.Reactor.{Ghosts as ReactorGhosts}
use Rattle.bw_operators.specs.AllowLists.{AllowRules}
use Rattle.bw_operators.specs.declared.port.StatusPort.{Ghosts as PortGhosts}
use Rattle.bw_serve.specs.Guards.{FromPeer, Guarded, guarded_answers}
use Rattle.bw_serve.specs.Observations.{ObservesRun, left_in_run}
use Rattle.bw_serve.specs.EventLoopRuns.{RunsEventLoop}
use Rattle.bw_serve.specs.declared.hosting.Hosting.{Hosting}
use Rattle.bw_serve.proofs.Guarding.{runs_are_runs}
use Rattle.bw_serve.proofs.WrappedLooks.{run_answers, run_seen}
use Rattle.bw_serve_status.specs.Looks.{Looks}
use Rattle.bw_serve_status.specs.ShownRounds.{BeginsToShow, HasCounted, ShowsEachRound}
use Rattle.bw_serve_status.specs.Tallies.{Tally, none_tallied, tallied, tallied_all}
use Rattle.bw_serve_status.specs.declared.observer.StatusObserver.{StatusObserver}
use Rattle.bw_serve_status.specs.declared.tallied.Tallied.{Tallied}

module _ {T : Type 0} (answers : T → Frame → List Reply → T → Type 0)
    (commits : T → Result (Unit {0}) NotKept → T → Type 0) where
  -- a server that counts answers as the one in it does, and counts that
  abbrev CountsTurn : Tallied T → Frame → List Reply → Tallied T → Type 0
  CountsTurn t frame replies t' =
      answers t.server frame replies t'.server × (t'.tallies ≡ tallied t.tallies frame replies)

  abbrev server_in : Tallied T → T
  server_in t = t.server

  abbrev turn_in : (rules : AllowRules) (peer : SocketAddr) (t : Tallied T) (frame : Frame) (replies : List Reply)
      (t' : Tallied T) → Guarded CountsTurn rules peer t frame replies t' →
      Guarded answers rules peer (server_in t) frame replies (server_in t')
  turn_in rules peer t frame replies t' h = record {
    passed = λ told. (h.passed told).0;
    refused = λ barred. let r = h.refused barred in (r.0, ap (λ (x : Tallied T). x.server) r.1);
  }

  abbrev CountsCommit : Tallied T → Result (Unit {0}) NotKept → Tallied T → Type 0
  CountsCommit t result t' = commits t.server result t'.server

  abbrev commit_in : (t : Tallied T) (result : Result (Unit {0}) NotKept) (t' : Tallied T) →
      CountsCommit t result t' → commits (server_in t) result (server_in t')
  commit_in t result t' h = h

  -- its counts are those of all that it answered
  counts_all : (t : Tallied T) (xs : List Answered) (t' : Tallied T) → AnswersAll CountsTurn t xs t' →
      t'.tallies ≡ tallied_all t.tallies xs
  counts_all t [] t' h = ap (λ (x : Tallied T). x.tallies) h
  counts_all t (a ∷ rest) t' h =
      counts_all h.0 rest t' h.2 ∙ ap (λ (tallies : Tally). tallied_all tallies rest) h.1.1

  counts_allowed : (rules : AllowRules) (t : Tallied T) → t.tallies ≡ none_tallied → (xs : List Answered)
      (x : Tallied T) → AnswersAll (FromPeer (Guarded CountsTurn rules)) t xs x → HasCounted rules (server_in x) xs x
  counts_allowed rules t none xs x h =
      let all = (runs_are_runs CountsTurn (λ y. Unit {0})).guarded rules t xs x h in
      record {
        server_is = refl;
        own = all.0;
        allowed = all.1;
        tallies_are = counts_all t all.0 x all.2 ∙ ap (λ (tallies : Tally). tallied_all tallies all.0) none;
      }

  module _ {B L O E P K : Type 0} (holds : T → (List ℕ → Option (List ℕ)) → Book → Type 0)
      (reactor : ReactorGhosts B L) (G : LinkGhosts L) (out : Writer O) (reported : Writer E) (port : PortGhosts P K)
      (link : LinkGhosts K) where
    -- a run of the server in one that counts, each round of which was shown
    abbrev RunsShown : Hosting → Exit → T → T → B → B → O → O → E → E → P → Option ℕ → Type 0
    RunsShown hosting exit s s' b b' o o' e e' opened takes =
        (run : RunsEventLoop reactor G (guarded_answers answers hosting.allow.now) commits out reported hosting.log hosting.bounds exit
        s s' b
        b' o o' e e')
        × ShowsEachRound answers holds hosting.allow.now port link opened takes s (left_in_run reactor G
        (guarded_answers answers hosting.allow.now) commits out reported
        hosting.log hosting.bounds exit s s' b b' o o' e e' run)

    runs_shown : (hosting : Hosting) (exit : Exit) (t t' : Tallied T) (b b' : B) (o o' : O) (e e' : E)
        (v v' : StatusObserver P K) (opened : P) (takes : Option ℕ) → t.tallies ≡ none_tallied →
        BeginsToShow opened takes hosting.allow.now v →
        RunsEventLoop reactor G (guarded_answers CountsTurn hosting.allow.now) CountsCommit out reported hosting.log hosting.bounds
        exit t t' b
        b' o o' e e' →
        ObservesRun reactor G (guarded_answers CountsTurn hosting.allow.now) CountsCommit out reported hosting.log (Looks holds port link)
        hosting.bounds exit
        t t' b b' o o' e e' v v' →
        RunsShown hosting exit (server_in t) (server_in t') b b' o o' e e' opened takes
    runs_shown hosting exit t t' b b' o o' e e' v v' opened takes none begins run seen =
        let both = run_seen server_in (guarded_answers CountsTurn hosting.allow.now) (guarded_answers answers hosting.allow.now)
        (turn_in hosting.allow.now) refl CountsCommit commits commit_in (HasCounted hosting.allow.now) reactor G out reported
        hosting.log (Looks holds port link) hosting.bounds exit t t' b b' o o' e e' v v'
        (counts_allowed hosting.allow.now t none) run seen in (
          both.0,
          record {
            answered_so = run_answers G (guarded_answers answers hosting.allow.now) out reported hosting.log reactor commits
                hosting.bounds exit
                (server_in t) (server_in t') b b' o o' e e' both.0;
            before = v;
            begins = begins;
            after = v';
            looked = both.1;
          },
        )

    -- the same of a server that has just been put into one that counts
    pub counted_shown : (server : T) (hosting : Hosting) (exit : Exit) (t t' : Tallied T) (b b' : B) (o o' : O)
        (e e' : E) (v v' : StatusObserver P K) (opened : P) (takes : Option ℕ) → t.server ≡ server →
        t.tallies ≡ none_tallied →
        BeginsToShow opened takes hosting.allow.now v →
        RunsEventLoop reactor G (guarded_answers CountsTurn hosting.allow.now) CountsCommit out reported hosting.log hosting.bounds
        exit t t' b
        b' o o' e e' →
        ObservesRun reactor G (guarded_answers CountsTurn hosting.allow.now) CountsCommit out reported hosting.log (Looks holds port link)
        hosting.bounds exit
        t t' b b' o o' e e' v v' →
        RunsShown hosting exit server t'.server b b' o o' e e' opened takes
    counted_shown server hosting exit t t' b b' o o' e e' v v' opened takes is none begins run seen =
        subst (λ (s : T). RunsShown hosting exit s t'.server b b' o o' e e' opened takes) is
        (runs_shown hosting exit t t' b b' o o' e e' v v' opened takes none begins run seen)
