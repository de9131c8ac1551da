-- A run over a server that wraps another one is a run over the wrapped one, with the same frames and
-- connections.
use Rattle.std.proofs.Common.{◌≡◌, inl, inr, ◌∙◌, ℕ, zero, suc, Bool, Option, List, [], ◌∷◌, ◌++◌, fold, refl, ap, subst, sym}
use Rattle.std.specs.Prelude.{Result, Err, length}
use Rattle.std.specs.declared.net.socket_addr.SocketAddr.{SocketAddr}
use Rattle.bw_model.specs.Wire.{Frame}
use Rattle.bw_model.specs.Replies.{Reply}
use Rattle.bw_stream.specs.declared.sink.Sink.{Ghosts as Writer}
use Rattle.bw_console.specs.declared.exit.Exit.{Exit}
use Rattle.bw_console.specs.declared.exit.Exit.TheVariants.{Done, Refused, Usage, Device, Memory}
use Rattle.bw_exchange.specs.AnsweredFrames.{Answered, AnswersAll, answered_frames}
use Rattle.bw_exchange.specs.declared.turns.NotKept.{NotKept}
use Rattle.bw_exchange.specs.declared.turns.NotKept.TheVariants as kept
use Rattle.bw_ports.specs.declared.link.Link.{Ghosts as LinkGhosts}
use Rattle.bw_ports.specs.declared.reactor.Reactor.{Ghosts as ReactorGhosts}
use Rattle.bw_connections.specs.declared.connections.Closed.{Closed}
use Rattle.bw_connections.specs.declared.connections.Connections.{Connections}
use Rattle.bw_connections.specs.ConnectionTables.{Tagged, all_answered, tagged}
use Rattle.bw_connections.specs.Places.{connection_count}
use Rattle.bw_connections.specs.Quanta.{WorksAt}
use Rattle.bw_serve.specs.declared.event_loop.EventLoop.{EventLoop}
use Rattle.bw_serve.specs.declared.serving.Bounds.{Bounds}
use Rattle.bw_serve.specs.EventLoops.{InTurn, ServesPlace, ended_in_turn, frames_in_turn}
use Rattle.bw_serve.specs.Rounds.{GoOnAfterEach, GoOnUntilLast, ServesInRounds, ServesRound, ServesRounds, ended_in_rounds}
use Rattle.bw_serve.specs.Rounds.{frames_in_rounds}
use Rattle.bw_serve.specs.Guards.{FromPeer, PeerAnswers, turning_away}
use Rattle.bw_serve.specs.EventLoopRuns.{EndsAt, HasServed}

both : {X : Type 0} {xs xs' ys ys' : List X} → xs ≡ xs' → ys ≡ ys' → xs ++ ys ≡ xs' ++ ys'
both {X} {xs} {xs'} {ys} {ys'} e f = ap (λ zs. zs ++ ys) e ∙ ap (λ zs. xs' ++ zs) f

-- A quantum of one server is one of another that gave the same answers.
abbrev pub works_by : {L T S : Type 0} (G : LinkGhosts L) (outer : T → Frame → List Reply → T → Type 0)
    (answers : S → Frame → List Reply → S → Type 0) (place now : ℕ) (closed : Option (Closed L))
    (m m' : Connections L) (t t' : T) (s s' : S) (w : WorksAt G outer place now closed m m' t t') →
    AnswersAll answers s w.answered s' → WorksAt G answers place now closed m m' s s'
works_by G outer answers place now closed m m' t t' s s' w by_server = record {
  number = w.number;
  answered = w.answered;
  by_server = by_server;
  most = w.most;
  is_its = w.is_its;
  ends_its = w.ends_its;
  existed = w.existed;
  nobody = w.nobody;
  adds = w.adds;
  others = w.others;
  unended = w.unended;
  since = w.since;
  moved = w.moved;
  leaves = w.leaves;
  lets_go = w.lets_go;
  learns = w.learns;
  finished = w.finished;
  closes = w.closes;
}

pub all_inner : {T S : Type 0} (inner : T → S) (outer : T → Frame → List Reply → T → Type 0)
    (answers : S → Frame → List Reply → S → Type 0) → ((t : T) (frame : Frame) (replies : List Reply) (t' : T) →
    outer t frame replies t' → answers (inner t) frame replies (inner t')) → (t : T) (xs : List Answered) (t' : T) →
    AnswersAll outer t xs t' → AnswersAll answers (inner t) xs (inner t')
all_inner inner outer answers passes t [] t' h = ap inner h
all_inner inner outer answers passes t (a ∷ rest) t' h = (
  inner h.0,
  passes t a.frame a.replies h.0 h.1,
  all_inner inner outer answers passes h.0 rest t' h.2,
)

module _ {T S : Type 0} (inner : T → S) (outer : PeerAnswers T)
    (answers : PeerAnswers S)
    (passes : (peer : SocketAddr) (t : T) (frame : Frame) (replies : List Reply) (t' : T) →
    outer.by_peer peer t frame replies t' → answers.by_peer peer (inner t) frame replies (inner t'))
    (same : answers.turns_away ≡ outer.turns_away) (ends : T → Result (Unit {0}) NotKept → T → Type 0)
    (commits : S → Result (Unit {0}) NotKept → S → Type 0)
    (passes_commits : (t : T) (r : Result (Unit {0}) NotKept) (t' : T) → ends t r t' → commits (inner t) r (inner t')) where
  pub answers_inner : (t : T) (xs : List Answered) (t' : T) → AnswersAll (FromPeer outer.by_peer) t xs t' →
      AnswersAll (FromPeer answers.by_peer) (inner t) xs (inner t')
  answers_inner = all_inner inner (FromPeer outer.by_peer) (FromPeer answers.by_peer)
      (λ t frame replies t' h. record { peer = h.peer; answered = passes h.peer t frame replies t' h.answered })

  pub ends_inner : {B L : Type 0} (reactor : ReactorGhosts B L) (exit : Exit) (exchanges ended : ℕ) (t' : T) (b b' : B) →
      EndsAt reactor ends exit exchanges ended t' b b' → EndsAt reactor commits exit exchanges ended (inner t') b b'
  ends_inner reactor Done exchanges ended t' b b' h = h
  ends_inner reactor Device exchanges ended t' b b' (inl h) = inl h
  ends_inner reactor Device exchanges ended t' b b' (inr h) = inr (inner h.0, passes_commits h.0 (Err kept.SyncFault) t' h.1)
  ends_inner reactor Refused exchanges ended t' b b' h = absurd h
  ends_inner reactor Usage exchanges ended t' b b' h = absurd h
  ends_inner reactor Memory exchanges ended t' b b' h = absurd h

  module _ {L : Type 0} (G : LinkGhosts L) where
    abbrev works_inner : (peer : SocketAddr) (place now : ℕ) (closed : Option (Closed L)) (m m' : Connections L) (t t' : T) →
        WorksAt G (outer.by_peer peer) place now closed m m' t t' →
        WorksAt G (answers.by_peer peer) place now closed m m' (inner t) (inner t')
    works_inner peer place now closed m m' t t' w =
        works_by G (outer.by_peer peer) (answers.by_peer peer) place now closed m m' t t' (inner t) (inner t') w
        (all_inner inner (outer.by_peer peer) (answers.by_peer peer) (passes peer) t w.answered t' w.by_server)

    module _ {O E : Type 0} (out : Writer O) (reported : Writer E) (log : Bool) where
      abbrev place_inner : (now idle place : ℕ) (c c' : EventLoop L) (t t' : T) (o o' : O) (e e' : E) →
          ServesPlace G outer out reported log now idle place c c' t t' o o' e e' →
          ServesPlace G answers out reported log now idle place c c' (inner t) (inner t') o o' e e'
      place_inner now idle place c c' t t' o o' e e' p = record {
        first = p.first;
        between = p.between;
        peer_slot = p.peer_slot;
        was = p.was;
        works = works_inner p.peer_slot.address place now p.first c.connections p.between t t' p.works;
        turned_away = subst (λ away. c'.turned_away ≡ fold (turning_away (away p.peer_slot.address)) c.turned_away
            (answered_frames p.works.answered)) (sym same) p.turned_away;
        closed = p.closed;
        following = p.following;
        adds = p.adds;
        stays = p.stays;
        existed = p.existed;
        whose = p.whose;
        peer_slots_are = p.peer_slots_are;
        silent = p.silent;
        in_time = p.in_time;
        prints = p.prints;
        reports = p.reports;
      }

      abbrev turn_inner : (now idle n : ℕ) (c c' : EventLoop L) (t t' : T) (o o' : O) (e e' : E) →
          InTurn G outer out reported log now idle n c c' t t' o o' e e' →
          InTurn G answers out reported log now idle n c c' (inner t) (inner t') o o' e e'
      turn_inner now idle zero c c' t t' o o' e e' h = (h.0, ap inner h.1, h.2, h.3)
      turn_inner now idle (suc n) c c' t t' o o' e e' h = (
        h.0,
        inner h.1,
        h.2,
        h.3,
        turn_inner now idle n c h.0 t h.1 o h.2 e h.3 h.4,
        place_inner now idle n h.0 c' h.1 t' h.2 o' h.3 e' h.5,
      )

      pub frames_turn : (now idle n : ℕ) (c c' : EventLoop L) (t t' : T) (o o' : O) (e e' : E)
          (h : InTurn G outer out reported log now idle n c c' t t' o o' e e') →
          frames_in_turn G answers out reported log now idle n c c' (inner t) (inner t') o o' e e'
          (turn_inner now idle n c c' t t' o o' e e' h)
          ≡ frames_in_turn G outer out reported log now idle n c c' t t' o o' e e' h
      frames_turn now idle zero c c' t t' o o' e e' h = refl
      frames_turn now idle (suc n) c c' t t' o o' e e' h =
          ap (λ xs. xs ++ tagged h.5.works.number h.5.works.answered)
          (frames_turn now idle n c h.0 t h.1 o h.2 e h.3 h.4)

      ended_turn : (now idle n : ℕ) (c c' : EventLoop L) (t t' : T) (o o' : O) (e e' : E)
          (h : InTurn G outer out reported log now idle n c c' t t' o o' e e') →
          ended_in_turn G answers out reported log now idle n c c' (inner t) (inner t') o o' e e'
          (turn_inner now idle n c c' t t' o o' e e' h)
          ≡ ended_in_turn G outer out reported log now idle n c c' t t' o o' e e' h
      ended_turn now idle zero c c' t t' o o' e e' h = refl
      ended_turn now idle (suc n) c c' t t' o o' e e' h =
          ap (λ xs. xs ++ h.5.closed) (ended_turn now idle n c h.0 t h.1 o h.2 e h.3 h.4)

      module _ {B : Type 0} (reactor : ReactorGhosts B L) where
        abbrev round_inner : (idle exchanges : ℕ) (c c' : EventLoop L) (t t' : T) (b b' : B) (o o' : O) (e e' : E) →
            ServesRound reactor G outer ends out reported log idle exchanges c c' t t' b b' o o' e e' →
            ServesRound reactor G answers commits out reported log idle exchanges c c' (inner t) (inner t') b b' o o' e e'
        round_inner idle exchanges c c' t t' b b' o o' e e' r = record {
          waited = r.waited;
          patience = r.patience;
          noticed = r.noticed;
          notices = r.notices;
          links = r.links;
          were_reported = r.were_reported;
          all = r.all;
          wakes = r.wakes;
          between = r.between;
          grows = r.grows;
          lets_in = r.lets_in;
          welcomes = r.welcomes;
          asks = r.asks;
          served = r.served;
          mid = inner r.mid;
          printed = r.printed;
          logged = r.logged;
          in_turn = turn_inner (reactor.time b') idle (connection_count r.between.connections) r.between r.served t r.mid
              o r.printed e r.logged r.in_turn;
          kept = subst (λ (xs : List Tagged). AnswersAll (FromPeer answers.by_peer) (inner t) (all_answered xs) (inner t'))
              (sym (frames_turn (reactor.time b') idle (connection_count r.between.connections) r.between r.served t r.mid
              o r.printed e r.logged r.in_turn)) (answers_inner t _ t' r.kept);
          outcome = r.outcome;
          committed = passes_commits r.mid r.outcome t' r.committed;
          withholds = r.withholds;
        }

        abbrev pub rounds_inner : (idle exchanges n : ℕ) (c c' : EventLoop L) (t t' : T) (b b' : B) (o o' : O) (e e' : E) →
            ServesRounds reactor G outer ends out reported log idle exchanges n c c' t t' b b' o o' e e' →
            ServesRounds reactor G answers commits out reported log idle exchanges n c c' (inner t) (inner t') b b' o o' e e'
        rounds_inner idle exchanges zero c c' t t' b b' o o' e e' h = (h.0, ap inner h.1, h.2, h.3, h.4)
        rounds_inner idle exchanges (suc n) c c' t t' b b' o o' e e' h = (
          h.0,
          inner h.1,
          h.2,
          h.3,
          h.4,
          rounds_inner idle exchanges n c h.0 t h.1 b h.2 o h.3 e h.4 h.5,
          h.6,
          round_inner idle exchanges h.0 c' h.1 t' h.2 b' h.3 o' h.4 e' h.7,
        )

        after_inner : (idle exchanges n : ℕ) (c c' : EventLoop L) (t t' : T) (b b' : B) (o o' : O) (e e' : E)
            (h : ServesRounds reactor G outer ends out reported log idle exchanges n c c' t t' b b' o o' e e') →
            GoOnAfterEach reactor G outer ends out reported log idle exchanges n c c' t t' b b' o o' e e' h →
            GoOnAfterEach reactor G answers commits out reported log idle exchanges n c c' (inner t) (inner t') b b' o o'
            e e' (rounds_inner idle exchanges n c c' t t' b b' o o' e e' h)
        after_inner idle exchanges zero c c' t t' b b' o o' e e' h goes = tt
        after_inner idle exchanges (suc n) c c' t t' b b' o o' e e' h goes =
            (after_inner idle exchanges n c h.0 t h.1 b h.2 o h.3 e h.4 h.5 goes.0, goes.1)

        pub until_inner : (idle exchanges n : ℕ) (c c' : EventLoop L) (t t' : T) (b b' : B) (o o' : O) (e e' : E)
            (h : ServesRounds reactor G outer ends out reported log idle exchanges n c c' t t' b b' o o' e e') →
            GoOnUntilLast reactor G outer ends out reported log idle exchanges n c c' t t' b b' o o' e e' h →
            GoOnUntilLast reactor G answers commits out reported log idle exchanges n c c' (inner t) (inner t') b b' o o'
            e e' (rounds_inner idle exchanges n c c' t t' b b' o o' e e' h)
        until_inner idle exchanges zero c c' t t' b b' o o' e e' h goes = tt
        until_inner idle exchanges (suc n) c c' t t' b b' o o' e e' h goes =
            after_inner idle exchanges n c h.0 t h.1 b h.2 o h.3 e h.4 h.5 goes

        pub frames_rounds : (idle exchanges n : ℕ) (c c' : EventLoop L) (t t' : T) (b b' : B) (o o' : O) (e e' : E)
            (h : ServesRounds reactor G outer ends out reported log idle exchanges n c c' t t' b b' o o' e e') →
            frames_in_rounds reactor G answers commits out reported log idle exchanges n c c' (inner t) (inner t') b b' o o'
            e e' (rounds_inner idle exchanges n c c' t t' b b' o o' e e' h)
            ≡ frames_in_rounds reactor G outer ends out reported log idle exchanges n c c' t t' b b' o o' e e' h
        frames_rounds idle exchanges zero c c' t t' b b' o o' e e' h = refl
        frames_rounds idle exchanges (suc n) c c' t t' b b' o o' e e' h =
            both (frames_rounds idle exchanges n c h.0 t h.1 b h.2 o h.3 e h.4 h.5)
            (frames_turn (reactor.time b') idle (connection_count h.7.between.connections) h.7.between h.7.served h.1
            h.7.mid h.3 h.7.printed h.4 h.7.logged h.7.in_turn)

        pub ended_rounds : (idle exchanges n : ℕ) (c c' : EventLoop L) (t t' : T) (b b' : B) (o o' : O) (e e' : E)
            (h : ServesRounds reactor G outer ends out reported log idle exchanges n c c' t t' b b' o o' e e') →
            ended_in_rounds reactor G answers commits out reported log idle exchanges n c c' (inner t) (inner t') b b' o o'
            e e' (rounds_inner idle exchanges n c c' t t' b b' o o' e e' h)
            ≡ ended_in_rounds reactor G outer ends out reported log idle exchanges n c c' t t' b b' o o' e e' h
        ended_rounds idle exchanges zero c c' t t' b b' o o' e e' h = refl
        ended_rounds idle exchanges (suc n) c c' t t' b b' o o' e e' h =
            both (ended_rounds idle exchanges n c h.0 t h.1 b h.2 o h.3 e h.4 h.5)
            (ap (λ xs. xs ++ h.7.withholds.closed) (ended_turn (reactor.time b') idle
            (connection_count h.7.between.connections) h.7.between h.7.served h.1 h.7.mid h.3 h.7.printed h.4
            h.7.logged h.7.in_turn))

        abbrev run_inner : (places idle exchanges : ℕ) (c : EventLoop L) (t t' : T) (b b' : B) (o o' : O) (e e' : E) →
            ServesInRounds reactor G outer ends out reported log places idle exchanges c t t' b b' o o' e e' →
            ServesInRounds reactor G answers commits out reported log places idle exchanges c (inner t) (inner t') b b' o o'
            e e'
        run_inner places idle exchanges c t t' b b' o o' e e' r = record {
          empty = r.empty;
          new = r.new;
          count = r.count;
          each = rounds_inner idle exchanges r.count r.empty c t t' b b' o o' e e' r.each;
        }

        abbrev pub served_inner : (bounds : Bounds) (exit : Exit) (t t' : T) (b b' : B) (o o' : O) (e e' : E) →
            HasServed reactor G outer ends out reported log bounds exit t t' b b' o o' e e' →
            HasServed reactor G answers commits out reported log bounds exit (inner t) (inner t') b b' o o' e e'
        served_inner bounds exit t t' b b' o o' e e' r = record {
          following = r.following;
          reactor_after = r.reactor_after;
          in_rounds = run_inner bounds.places bounds.idle bounds.exchanges r.following t t' b r.reactor_after o o' e
              e' r.in_rounds;
          went_on = until_inner bounds.idle bounds.exchanges r.in_rounds.count r.in_rounds.empty r.following t t' b
              r.reactor_after o o' e e' r.in_rounds.each r.went_on;
          trace = r.trace;
          taken = r.taken ∙ sym (frames_rounds bounds.idle bounds.exchanges r.in_rounds.count r.in_rounds.empty
              r.following t t' b r.reactor_after o o' e e' r.in_rounds.each);
          by_server = answers_inner t _ t' r.by_server;
          over = r.over;
          are_over = r.are_over ∙ sym (ended_rounds bounds.idle bounds.exchanges r.in_rounds.count r.in_rounds.empty
              r.following t t' b r.reactor_after o o' e e' r.in_rounds.each);
          event_loop = r.event_loop;
          last = r.last;
          links = r.links;
          gave = r.gave;
          hosts = r.hosts;
          each = r.each;
          most = r.most;
          printed = r.printed;
          logged = r.logged;
          unasked = r.unasked;
          ends = ends_inner reactor exit bounds.exchanges (length r.over) t' b b' r.ends;
        }
