-- What an observer was shown of a run over a server that wraps another one: the rounds of the wrapped one.
use Rattle.std.proofs.Common.{◌≡◌, ◌∙◌, ℕ, zero, suc, Bool, List, [], ◌∷◌, ◌++◌, refl, sym, ap, subst}
use Rattle.std.proofs.lemmas.List.{map-append}
use Rattle.std.specs.List.{AllByRecursion}
use Rattle.std.specs.Prelude.{Result}
use Rattle.std.specs.declared.net.socket_addr.SocketAddr.{SocketAddr}
use Rattle.bw_model.specs.Wire.{Frame}
use Rattle.bw_model.specs.Replies.{Reply}
use Rattle.bw_stream.specs.declared.sink.Sink.{Ghosts as Writer}
use Rattle.bw_exchange.specs.AnsweredFrames.{Answered, AnswersAll}
use Rattle.bw_exchange.proofs.Going.{answers_append}
use Rattle.bw_console.specs.declared.exit.Exit.{Exit}
use Rattle.bw_console.specs.declared.exit.Exit.TheVariants.{Memory}
use Rattle.bw_exchange.specs.declared.turns.NotKept.{NotKept}
use Rattle.bw_ports.specs.declared.link.Link.{Ghosts as LinkGhosts}
use Rattle.bw_ports.specs.declared.reactor.Reactor.{Ghosts as ReactorGhosts}
use Rattle.bw_connections.specs.ConnectionTables.{Tagged, all_answered, tagged}
use Rattle.bw_serve.specs.EventLoops.{InTurn, frames_in_turn}
use Rattle.bw_serve.specs.Guards.{FromPeer, PeerAnswers}
use Rattle.bw_serve.specs.Observations.{LooksAfterEach, LooksAtEach, ObservesRun, RoundLeft}
use Rattle.bw_serve.specs.Observations.{left_in_rounds, left_in_run, states_in_rounds}
use Rattle.bw_serve.specs.Rounds.{ServesRounds, frames_in_round, frames_in_rounds}
use Rattle.bw_serve.specs.EventLoopRuns.{RunsEventLoop}
use Rattle.bw_serve.specs.declared.event_loop.EventLoop.{EventLoop}
use Rattle.bw_serve.specs.declared.observing.RoundReport.{RoundReport}
use Rattle.bw_serve.specs.declared.serving.Bounds.{Bounds}
use Rattle.bw_serve.proofs.Guarding.{from_peer}
use Rattle.bw_serve.proofs.WrappedRuns.{frames_rounds, rounds_inner, served_inner}

-- the frames of a connection, without its number
all_tagged : (number : ℕ) (xs : List Answered) → all_answered (tagged number xs) ≡ xs
all_tagged number [] = refl
all_tagged number (x ∷ xs) = ap (λ (ys : List Answered). x ∷ ys) (all_tagged number xs)

all_more : (trace more : List Tagged) → all_answered (trace ++ more) ≡ all_answered trace ++ all_answered more
all_more trace more = map-append (λ (x : Tagged). x.1) trace more

-- what holds of some, and of one more
all_then : {X : Type 0} (P : X → Type 0) (xs : List X) (x : X) → AllByRecursion P xs → P x →
    AllByRecursion P (xs ++ x ∷ [])
all_then P [] x all last = (last, tt)
all_then P (y ∷ ys) x all last = (all.0, all_then P ys x all.1 last)

module _ {L S O E : Type 0} (G : LinkGhosts L) (answers : PeerAnswers S) (out : Writer O)
    (reported : Writer E) (log : Bool) where
  -- a server has answered the frames of these quanta, one after another
  turn_answers : (now idle n : ℕ) (c c' : EventLoop L) (s s' : S) (o o' : O) (e e' : E)
      (h : InTurn G answers out reported log now idle n c c' s s' o o' e e') →
      AnswersAll (FromPeer answers.by_peer) s (all_answered (frames_in_turn G answers out reported log now idle n c c' s s' o o' e e' h))
      s'
  turn_answers now idle zero c c' s s' o o' e e' h = h.1
  turn_answers now idle (suc n) c c' s s' o o' e e' h =
      let before = frames_in_turn G answers out reported log now idle n c h.0 s h.1 o h.2 e h.3 h.4 in
      let works = h.5.works in
      subst (λ (xs : List Answered). AnswersAll (FromPeer answers.by_peer) s xs s')
      (sym (all_more before (tagged works.number works.answered)
      ∙ ap (λ (xs : List Answered). all_answered before ++ xs) (all_tagged works.number works.answered)))
      (answers_append (FromPeer answers.by_peer) (all_answered before) works.answered s h.1 s'
      (turn_answers now idle n c h.0 s h.1 o h.2 e h.3 h.4)
      (from_peer answers.by_peer h.5.peer_slot.address h.1 works.answered s' works.by_server))

  module _ {B : Type 0} (reactor : ReactorGhosts B L) (commits : S → Result (Unit {0}) NotKept → S → Type 0) where
    -- and those of these rounds
    rounds_answer : (idle exchanges n : ℕ) (c c' : EventLoop L) (s s' : S) (b b' : B) (o o' : O) (e e' : E)
        (h : ServesRounds reactor G answers commits out reported log idle exchanges n c c' s s' b b' o o' e e') →
        AnswersAll (FromPeer answers.by_peer) s
        (all_answered (frames_in_rounds reactor G answers commits out reported log idle exchanges n c c' s s' b b' o
        o' e e' h)) s'
    rounds_answer idle exchanges zero c c' s s' b b' o o' e e' h = h.1
    rounds_answer idle exchanges (suc n) c c' s s' b b' o o' e e' h =
        let before = frames_in_rounds reactor G answers commits out reported log idle exchanges n c h.0 s h.1 b h.2 o
        h.3 e h.4 h.5 in
        let more = frames_in_round reactor G answers commits out reported log idle exchanges h.0 c' h.1 s' h.2 b' h.3
        o' h.4 e' h.7 in
        subst (λ (xs : List Answered). AnswersAll (FromPeer answers.by_peer) s xs s') (sym (all_more before more))
        (answers_append (FromPeer answers.by_peer) (all_answered before) (all_answered more) s h.1 s'
        (rounds_answer idle exchanges n c h.0 s h.1 b h.2 o h.3 e h.4 h.5)
        h.7.kept)

    -- what each of these rounds left was answered so
    left_answers : (idle exchanges n : ℕ) (c c' : EventLoop L) (s s' : S) (b b' : B) (o o' : O) (e e' : E)
        (h : ServesRounds reactor G answers commits out reported log idle exchanges n c c' s s' b b' o o' e e') →
        AllByRecursion (λ (left : RoundLeft L S). AnswersAll (FromPeer answers.by_peer) s left.answered left.server)
        (left_in_rounds reactor G answers commits out reported log idle exchanges n c c' s s' b b' o o' e e' h)
    left_answers idle exchanges zero c c' s s' b b' o o' e e' h = tt
    left_answers idle exchanges (suc n) c c' s s' b b' o o' e e' h =
        all_then (λ (left : RoundLeft L S). AnswersAll (FromPeer answers.by_peer) s left.answered left.server)
        (left_in_rounds reactor G answers commits out reported log idle exchanges n c h.0 s h.1 b h.2 o h.3 e h.4 h.5)
        (record {
          event_loop = c';
          server = s';
          answered = all_answered (frames_in_rounds reactor G answers commits out reported log idle exchanges (suc n)
              c c' s s' b b' o o' e e' h);
        }) (left_answers idle exchanges n c h.0 s h.1 b h.2 o h.3 e h.4 h.5)
        (rounds_answer idle exchanges (suc n) c c' s s' b b' o o' e e' h)

    -- and so what each round of a run left
    pub run_answers : (bounds : Bounds) (exit : Exit) (s s' : S) (b b' : B) (o o' : O) (e e' : E)
        (run : RunsEventLoop reactor G answers commits out reported log bounds exit s s' b b' o o' e e') →
        AllByRecursion (λ (left : RoundLeft L S). AnswersAll (FromPeer answers.by_peer) s left.answered left.server)
        (left_in_run reactor G answers commits out reported log bounds exit s s' b b' o o' e e' run)
    run_answers bounds Memory s s' b b' o o' e e' run = tt
    run_answers bounds exit s s' b b' o o' e e' run =
        left_answers bounds.idle bounds.exchanges run.in_rounds.count run.in_rounds.empty run.following s s' b
        run.reactor_after o o' e e' run.in_rounds.each

-- looks at some, and then at others
looks_split : {L S V : Type 0} (looks : V → S → RoundReport → V → Type 0) (xs ys : List (EventLoop L × S)) (v z : V) →
    LooksAtEach looks (xs ++ ys) v z → (w : V) × LooksAtEach looks xs v w × LooksAtEach looks ys w z
looks_split looks [] ys v z h = (v, refl, h)
looks_split looks (x ∷ xs) ys v z h =
    let more = looks_split looks xs ys h.0 z h.2 in (more.0, (h.0, h.1, more.1), more.2)

after_then : {L S T V : Type 0} (looks : V → T → RoundReport → V → Type 0) (makes : S → List Answered → T → Type 0)
    (xs ys : List (RoundLeft L S)) (v w z : V) → LooksAfterEach looks makes xs v w → LooksAfterEach looks makes ys w z →
    LooksAfterEach looks makes (xs ++ ys) v z
after_then looks makes [] ys v w z h k = subst (λ x. LooksAfterEach looks makes ys x z) h k
after_then looks makes (x ∷ xs) ys v w z h k =
    (h.0, h.1, h.2, h.3, after_then looks makes xs ys h.1 w z h.4 k)

-- a server that wraps another one is made so of the wrapped one and of all that it answered
module _ {T S : Type 0} (inner : T → S) (outer : PeerAnswers T)
    (answers : PeerAnswers S)
    (passes : (peer : SocketAddr) (t : T) (frame : Frame) (replies : List Reply) (t' : T) →
    outer.by_peer peer t frame replies t' → answers.by_peer peer (inner t) frame replies (inner t'))
    (same : answers.turns_away ≡ outer.turns_away) (ends : T → Result (Unit {0}) NotKept → T → Type 0)
    (commits : S → Result (Unit {0}) NotKept → S → Type 0)
    (passes_commits : (t : T) (r : Result (Unit {0}) NotKept) (t' : T) → ends t r t' → commits (inner t) r (inner t'))
    (makes : S → List Answered → T → Type 0) where
  module _ {B L O E V : Type 0} (reactor : ReactorGhosts B L) (G : LinkGhosts L) (out : Writer O) (reported : Writer E)
      (log : Bool) (looks : V → T → RoundReport → V → Type 0) where
    -- the rounds of the wrapped server
    abbrev within : (idle exchanges n : ℕ) (c c' : EventLoop L) (t t' : T) (b b' : B) (o o' : O) (e e' : E) →
        ServesRounds reactor G outer ends out reported log idle exchanges n c c' t t' b b' o o' e e' →
        ServesRounds reactor G answers commits out reported log idle exchanges n c c' (inner t) (inner t') b b' o o' e e'
    within = rounds_inner inner outer answers passes same ends commits passes_commits G out reported log reactor

    looks_within : (idle exchanges n : ℕ) (c c' : EventLoop L) (t t' : T) (b b' : B) (o o' : O) (e e' : E) (v v' : V)
        (h : ServesRounds reactor G outer ends out reported log idle exchanges n c c' t t' b b' o o' e e') →
        ((xs : List Answered) (x : T) → AnswersAll (FromPeer outer.by_peer) t xs x → makes (inner x) xs x) →
        LooksAtEach looks (states_in_rounds reactor G outer ends out reported log idle exchanges n c c' t t' b b' o o' e
        e' h) v v' →
        LooksAfterEach looks makes (left_in_rounds reactor G answers commits out reported log idle exchanges n c c'
        (inner t) (inner t') b b' o o' e e' (within idle exchanges n c c' t t' b b' o o' e e' h)) v v'
    looks_within idle exchanges zero c c' t t' b b' o o' e e' v v' h made looked = looked
    looks_within idle exchanges (suc n) c c' t t' b b' o o' e e' v v' h made looked =
        let before = within idle exchanges n c h.0 t h.1 b h.2 o h.3 e h.4 h.5 in
        let frames = frames_in_rounds reactor G outer ends out reported log idle exchanges (suc n) c c' t t' b b' o o'
        e e' h in
        let split = looks_split looks (states_in_rounds reactor G outer ends out reported log idle exchanges n c h.0 t
        h.1 b h.2 o h.3 e h.4 h.5) ((c', t') ∷ []) v v' looked in
        after_then looks makes (left_in_rounds reactor G answers commits out reported log idle exchanges n c h.0
        (inner t) (inner h.1) b h.2 o h.3 e h.4 before) _ v split.0 v'
        (looks_within idle exchanges n c h.0 t h.1 b h.2 o h.3 e h.4 v split.0 h.5 made split.1) (
          t',
          split.2.0,
          subst (λ (xs : List Tagged). makes (inner t') (all_answered xs) t')
              (sym (frames_rounds inner outer answers passes same ends commits passes_commits G out reported log reactor idle
              exchanges (suc n) c c' t t' b b' o o' e e' h))
              (made (all_answered frames) t' (rounds_answer G outer out reported log reactor ends idle exchanges (suc n)
              c c' t t' b b' o o' e e' h)),
          split.2.1,
          split.2.2,
        )

    -- a run of the wrapped server, and the looks after each of its rounds
    abbrev pub RunsSeen : Bounds → Exit → S → S → B → B → O → O → E → E → V → V → Type 0
    RunsSeen bounds exit s s' b b' o o' e e' v v' =
        (run : RunsEventLoop reactor G answers commits out reported log bounds exit s s' b b' o o' e e')
        × LooksAfterEach looks makes (left_in_run reactor G answers commits out reported log bounds exit s s' b b' o o'
        e e' run) v v'

    pub run_seen : (bounds : Bounds) (exit : Exit) (t t' : T) (b b' : B) (o o' : O) (e e' : E) (v v' : V) →
        ((xs : List Answered) (x : T) → AnswersAll (FromPeer outer.by_peer) t xs x → makes (inner x) xs x) →
        RunsEventLoop reactor G outer ends out reported log bounds exit t t' b b' o o' e e' →
        ObservesRun reactor G outer ends out reported log looks bounds exit t t' b b' o o' e e' v v' →
        RunsSeen bounds exit (inner t) (inner t') b b' o o' e e' v v'
    run_seen bounds Memory t t' b b' o o' e e' v v' made run same =
        ((ap inner run.0, run.1, run.2, run.3), same)
    run_seen bounds exit t t' b b' o o' e e' v v' made run seen =
        let r = seen.run in (
          served_inner inner outer answers passes same ends commits passes_commits G out reported log reactor bounds exit t
              t' b b' o o' e e' r,
          looks_within bounds.idle bounds.exchanges r.in_rounds.count r.in_rounds.empty r.following t t' b
              r.reactor_after o o' e e' v v' r.in_rounds.each made seen.looked,
        )
