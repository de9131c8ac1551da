-- A run, so far.
use Rattle.std.proofs.Common.{◌≡◌, ℕ, ◌+◌, ◌-◌, ◌^◌, ◌<◌, ◌≤◌, Bool, true, false, nat_lt}
use Rattle.std.proofs.Common.{if◌then◌else◌, ltb-false, List, [], ◌∷◌, ◌++◌, length, refl, sym, ap}
use Rattle.std.proofs.Common.{subst, ◌∙◌, arith}
use Rattle.std.proofs.Common.{append_assoc}
use Rattle.std.proofs.lemmas.List.{append-nil, length-append, map-append}
use Rattle.std.specs.Prelude.{Result, Ok, Err}
use Rattle.bw_stream.specs.Moves.{one_more}
use Rattle.bw_stream.specs.declared.sink.Sink.{Ghosts as Writer}
use Rattle.bw_exchange.specs.AnsweredFrames.{Answered, AnswersAll}
use Rattle.bw_exchange.proofs.Going.{answers_append}
use Rattle.bw_console.specs.declared.exit.Exit.{Exit}
use Rattle.bw_exchange.specs.declared.turns.NotKept.{NotKept}
use Rattle.bw_exchange.specs.declared.turns.NotKept.TheVariants as kept
use Rattle.bw_ports.specs.declared.link.Link.{Ghosts as LinkGhosts}
use Rattle.bw_connections.specs.declared.connections.Closed.{Closed}
use Rattle.bw_connections.specs.ConnectionTables.{KeepsConnections, Tagged, all_answered}
use Rattle.bw_connections.specs.Places.{begun_of}
use Rattle.bw_connections.specs.ConnectionBytes.{EachIsServed}
use Rattle.bw_exchange.specs.LinkCounts.{up_to_last}
use Rattle.bw_serve.specs.EventLoops.{Advances, CountsOwn, IsNew}
use Rattle.bw_serve.specs.Rounds.{GoOnAfterEach, GoOnUntilLast, ServesInRounds, ServesRound, IsShut, ended_of_run}
use Rattle.bw_serve.specs.Rounds.{frames_of_run, goes_on_after}
use Rattle.bw_serve.specs.Admissions.{HostsAll}
use Rattle.bw_ports.specs.Reactors.{Admission}
use Rattle.bw_serve.specs.Guards.{FromPeer, PeerAnswers}
use Rattle.bw_serve.specs.Lines.{LogsEnds, ReportsEnds}
use Rattle.bw_serve.specs.EventLoopRuns.{EndsAt, LacksSync}
use Rattle.bw_serve.specs.Observations.{HasObserved, LooksAtRound, LooksAtEach, states_of_run}
use Rattle.bw_serve.specs.declared.event_loop.EventLoop.{EventLoop}
use Rattle.bw_serve.specs.declared.observing.RoundReport.{RoundReport}
use Rattle.bw_ports.specs.declared.reactor.Reactor.{Ghosts as ReactorGhosts}
use Rattle.bw_serve.specs.declared.serving.Bounds.{Bounds}
use Rattle.bw_serve.proofs.Counting.{logs_still, logs_then, logs_unasked}
use Rattle.bw_serve.proofs.Admitting.{hosts_admitted_each, hosts_more, hosts_woken}
use Rattle.bw_serve.proofs.Growing.{advances_grown, ends_then, grows_still, grows_then}
use Rattle.bw_serve.proofs.Rounds.{no_rounds, round_advances, rounds_more}

-- one wait more counts one round more, as far as is counted
pub waited_more : (round waits : ℕ) → round < 2 ^ 64 - 1 → round ≤ waits → round + 1 ≤ one_more waits
waited_more round waits below le = go (nat_lt waits (2 ^ 64 - 1)) refl
  where
    go : (b : Bool) → nat_lt waits (2 ^ 64 - 1) ≡ b → round + 1 ≤ (if b then waits + 1 else waits)
    go true e = omega (arith, le)
    go false e = (let all = ltb-false waits (2 ^ 64 - 1) e in omega (arith, below, all))

-- as many have ended as were asked for
pub all_ended : {L : Type 0} (exchanges : ℕ) (c : EventLoop L) (over : List (Closed L)) →
    c.ended ≡ up_to_last (length over) → exchanges ≤ c.ended → exchanges ≤ length over
all_ended exchanges c over is all = omega (arith, is, all)

module _ {L S O E : Type 0} (G : LinkGhosts L) (answers : PeerAnswers S) (out : Writer O)
    (reported : Writer E) (log : Bool) where
  -- what a run has resulted in
  pub record SoFar (trace : List Tagged) (over : List (Closed L)) (links : List (Admission L)) (c : EventLoop L)
      (s s' : S) (o o' : O) (e e' : E) : Type 0 where
    pub by_server : AnswersAll (FromPeer answers.by_peer) s (all_answered trace) s'
    pub keeps : KeepsConnections G c.connections over trace
    pub counts : CountsOwn G c trace
    pub printed : ReportsEnds out 0 over o o'
    pub logged : LogsEnds G reported log trace over e e'
    pub ended : c.ended ≡ up_to_last (length over)
    pub hosts : HostsAll G c.connections over links

  pub none_so_far : (places : ℕ) (c : EventLoop L) (s : S) (o : O) (e : E) → IsNew G places c →
      SoFar [] [] [] c s s o o e e
  none_so_far places c s o e n = record {
    by_server = refl;
    keeps = n.keeps;
    counts = λ i d at.
        let below = (n.keeps.lives i d at).0 in
        let begun = n.begun in
        absurd (omega (arith, below, begun));
    printed = refl;
    logged = refl;
    ended = n.ended;
    hosts = (n.begun, n.refused);
  }

  pub more_so_far : (trace more : List Tagged) (over closed : List (Closed L)) (links received : List (Admission L))
      (c d : EventLoop L) (s t u : S) (o p q : O) (e f g : E) → SoFar trace over links c s t o p e f →
      Advances G answers out reported log more closed received c d t u p q f g →
      SoFar (trace ++ more) (over ++ closed) (links ++ received) d s u o q e g
  more_so_far trace more over closed links received c d s t u o p q e f g x y =
      let prints = y.prints.prints (length over) x.ended in
      let reports = y.reports over trace x.keeps x.counts in
      record {
        by_server = subst (λ (xs : List Answered). AnswersAll (FromPeer answers.by_peer) s xs u)
            (sym (map-append (λ (x : Tagged). x.1) trace more))
            (answers_append (FromPeer answers.by_peer) (all_answered trace) (all_answered more) s t u x.by_server y.by_server);
        keeps = y.adds over trace x.keeps;
        counts = reports.0;
        printed = ends_then out 0 (length over) over closed o p q (omega arith) x.printed prints.0;
        logged = logs_then G reported log over closed (trace ++ more) e f g
            (logs_still G reported log over trace more e f reports.2 x.logged) reports.1;
        ended = prints.1 ∙ ap up_to_last (sym (length-append over closed));
        hosts = y.hosts over trace links x.keeps x.hosts;
      }

-- looks at these, and then at those
looks_then : {L S V : Type 0} (looks : V → S → RoundReport → V → Type 0) (xs ys : List (EventLoop L × S)) (v w z : V) →
    LooksAtEach looks xs v w → LooksAtEach looks ys w z → LooksAtEach looks (xs ++ ys) v z
looks_then looks [] ys v w z same more = subst (λ a. LooksAtEach looks ys a z) same more
looks_then looks (x ∷ xs) ys v w z each more = (each.0, each.1, looks_then looks xs ys each.0 w z each.2 more)

-- where no server may go on, a sync failed
pub lacks_sync : {S : Type 0} (commits : S → Result (Unit {0}) NotKept → S → Type 0) (mid : S)
    (r : Result (Unit {0}) NotKept) (s : S) → commits mid r s → goes_on_after r ≡ false → LacksSync commits s
lacks_sync commits mid (Ok u) s h stops = absurd (cc)
lacks_sync commits mid (Err kept.WriteFault) s h stops = absurd (cc)
lacks_sync commits mid (Err kept.SyncFault) s h stops = (mid, h)

module _ {B L S O E V : Type 0} (reactor : ReactorGhosts B L) (G : LinkGhosts L)
    (answers : PeerAnswers S) (commits : S → Result (Unit {0}) NotKept → S → Type 0)
    (out : Writer O) (reported : Writer E) (log : Bool) (looks : V → S → RoundReport → V → Type 0) where
  -- what rounds have resulted in, one after another, and what the observer has
  pub record Runs (last : Result (Unit {0}) NotKept) (places idle exchanges : ℕ) (c : EventLoop L) (s s' : S)
      (b b' : B) (o o' : O) (e e' : E) (v v' : V) : Type 0 where
    pub rounds : ServesInRounds reactor G answers commits out reported log places idle exchanges c s s' b b' o o' e e'
    -- the last commit returned this
    pub went_on : GoOnUntilLast reactor G answers commits out reported log idle exchanges rounds.count rounds.empty
        c s s' b b' o o' e e' rounds.each
    pub goes_on : goes_on_after last ≡ true → GoOnAfterEach reactor G answers commits out reported log idle exchanges
        rounds.count rounds.empty c s s' b b' o o' e e' rounds.each
    pub links : List (Admission L)
    pub gave : (xs : List (Admission L)) → reactor.admitted b xs → reactor.admitted b' (xs ++ links)
    pub so_far : SoFar G answers out reported log
        (frames_of_run reactor G answers commits out reported log places idle exchanges c s s' b b' o o' e e' rounds)
        (ended_of_run reactor G answers commits out reported log places idle exchanges c s s' b b' o o' e e' rounds)
        links c s s' o o' e e'
    pub looked : LooksAtEach looks
        (states_of_run reactor G answers commits out reported log places idle exchanges c s s' b b' o o' e e' rounds)
        v v'

  -- no round yet
  pub runs_none : (places idle exchanges : ℕ) (c : EventLoop L) (s : S) (b : B) (o : O) (e : E) (v : V) →
      IsNew G places c → Runs (Ok tt) places idle exchanges c s s b b o o e e v v
  unfolding no_rounds
  runs_none places idle exchanges c s b o e v n = record {
    rounds = no_rounds reactor G answers commits out reported log places idle exchanges c s b o e n;
    went_on = tt;
    goes_on = λ goes. tt;
    links = [];
    gave = λ xs was. subst (reactor.admitted b) (sym (append-nil xs)) was;
    so_far = none_so_far G answers out reported log places c s o e n;
    looked = refl;
  }

  -- one round more
  pub runs_more : (last : Result (Unit {0}) NotKept) → goes_on_after last ≡ true → (places idle exchanges : ℕ)
      (a b : EventLoop L) (s t u : S) (x y z : B) (o p q : O) (e f g : E)
      (v w v' : V) → Runs last places idle exchanges a s t x y o p e f v w → a.ended < exchanges →
      (round : ServesRound reactor G answers commits out reported log idle exchanges a b t u y z p q f g) →
      LooksAtRound looks b u w v' → Runs round.outcome places idle exchanges b s u x z o q e g v v'
  unfolding rounds_more
  runs_more last goes places idle exchanges a b s t u x y z o p q e f g v w v' r few round look = record {
    rounds = rounds_more reactor G answers commits out reported log places idle exchanges a b s t u x y z o p q e f g
        r.rounds few round;
    went_on = r.goes_on goes;
    goes_on = λ more. (r.goes_on goes, more);
    links = r.links ++ round.welcomes.links;
    gave = λ xs was. subst (reactor.admitted z) (append_assoc xs r.links round.welcomes.links)
        (round.welcomes.gave (xs ++ r.links) (r.gave xs was));
    so_far = more_so_far G answers out reported log _ _ _ _ r.links round.welcomes.links a b s t u o p q e f g r.so_far
        (round_advances reactor G answers commits out reported log idle exchanges a b t u y z p q f g round);
    looked = looks_then looks
        (states_of_run reactor G answers commits out reported log places idle exchanges a s t x y o p e f r.rounds)
        ((b, u) ∷ []) v w v' r.looked (v', look, refl);
  }

  -- nothing else was done
  runs_still : (last : Result (Unit {0}) NotKept) (places idle exchanges : ℕ) (c : EventLoop L) (s t u : S) (b b' : B)
      (o p q : O) (e f g : E) (v v' : V) →
      Runs last places idle exchanges c s t b b' o p e f v v' → u ≡ t → q ≡ p → g ≡ f →
      Runs last places idle exchanges c s u b b' o q e g v v'
  runs_still last places idle n c s t u b b' o p q e f g v v' r server printed logged =
      subst (λ (a : S). Runs last places idle n c s a b b' o q e g v v') (sym server)
      (subst (λ (x : O). Runs last places idle n c s t b b' o x e g v v') (sym printed)
      (subst (λ (h : E). Runs last places idle n c s t b b' o p e h v v') (sym logged) r))

  -- it ends so
  pub runs_over : EachIsServed G → (last : Result (Unit {0}) NotKept) (bounds : Bounds) (exit : Exit)
      (c : EventLoop L) (s s' : S) (b b' : B) (o o' : O)
      (e e' : E) (v v' : V) (r : Runs last bounds.places bounds.idle bounds.exchanges c s s' b b' o o' e e' v v') →
      begun_of c.connections ≤ bounds.exchanges → ((over : List (Closed L)) → c.ended ≡ up_to_last (length over) →
      EndsAt reactor commits exit bounds.exchanges (length over) s' b b') →
      HasObserved reactor G answers commits out reported log looks bounds exit s s' b b' o o' e e' v v'
  runs_over law last bounds exit c s s' b b' o o' e e' v v' r most ends = record {
    run = record {
      following = c;
      reactor_after = b';
      in_rounds = r.rounds;
      went_on = r.went_on;
      trace = frames_of_run reactor G answers commits out reported log bounds.places bounds.idle bounds.exchanges c s
          s' b b' o o' e e' r.rounds;
      taken = refl;
      by_server = r.so_far.by_server;
      over = ended_of_run reactor G answers commits out reported log bounds.places bounds.idle bounds.exchanges c s s'
          b b' o o' e e' r.rounds;
      are_over = refl;
      event_loop = c;
      last = grows_still G c;
      links = r.links;
      gave = r.gave;
      hosts = r.so_far.hosts;
      each = law c.connections _ _ r.so_far.keeps;
      most = most;
      printed = r.so_far.printed;
      logged = r.so_far.logged;
      unasked = λ no. logs_unasked G reported log _ _ e e' no r.so_far.logged;
      ends = ends _ r.so_far.ended;
    };
    looked = r.looked;
  }

  -- a run that ends because no more are accepted
  pub runs_shut : EachIsServed G → (last : Result (Unit {0}) NotKept) (bounds : Bounds) (exit : Exit)
      (c d : EventLoop L) (s t u : S) (b x y : B) (o p q : O)
      (e f g : E) (v v' : V) → Runs last bounds.places bounds.idle bounds.exchanges c s t b x o p e f v v' →
      IsShut reactor G c d t u x y p q f g → begun_of d.connections ≤ bounds.exchanges →
      ((over : List (Closed L)) → EndsAt reactor commits exit bounds.exchanges (length over) u b y) →
      HasObserved reactor G answers commits out reported log looks bounds exit s u b y o q e g v v'
  runs_shut law last bounds exit c d s t u b x y o p q e f g v v' before shut most ends =
      let r = runs_still last bounds.places bounds.idle bounds.exchanges c s t u b x o p q e f g v v' before shut.server
      shut.printed shut.logged in
      let trace = frames_of_run reactor G answers commits out reported log bounds.places bounds.idle bounds.exchanges
      c s u b x o q e g r.rounds in
      let over = ended_of_run reactor G answers commits out reported log bounds.places bounds.idle bounds.exchanges c
      s u b x o q e g r.rounds in
      let received = shut.welcomes.links in
      let grows = grows_then G c shut.noticed d shut.notices.grows shut.grows in
      let now = more_so_far G answers out reported log trace [] over [] r.links received c d s u u o q q e g g r.so_far
      (advances_grown G answers out reported log received c d u q g grows (hosts_more G c.connections d.connections
      received (λ over links h.
      hosts_admitted_each G shut.now received shut.noticed d over links shut.welcomes.admits
      (hosts_woken G shut.reported c shut.noticed over links shut.notices.begun shut.notices.refused shut.wakes h)))) in
      record {
        run = record {
          following = c;
          reactor_after = x;
          in_rounds = r.rounds;
          went_on = r.went_on;
          trace = trace ++ [];
          taken = append-nil trace;
          by_server = now.by_server;
          over = over ++ [];
          are_over = append-nil over;
          event_loop = d;
          last = grows;
          links = r.links ++ received;
          gave = λ xs was. subst (reactor.admitted y) (append_assoc xs r.links received)
              (shut.welcomes.gave (xs ++ r.links) (r.gave xs was));
          hosts = now.hosts;
          each = law d.connections (over ++ []) (trace ++ []) now.keeps;
          most = most;
          printed = now.printed;
          logged = now.logged;
          unasked = λ no. logs_unasked G reported log (over ++ []) (trace ++ []) e g no now.logged;
          ends = ends (over ++ []);
        };
        looked = r.looked;
      }
