-- What an observer of an event loop is shown: the server, as each round left it.
use Rattle.std.specs.Prelude.{Result, ◌≡◌, ℕ, zero, suc, ◌-◌, Bool, List, [], ◌∷◌, ◌++◌}
use Rattle.bw_stream.specs.declared.sink.Sink.{Ghosts as Writer}
use Rattle.bw_exchange.specs.AnsweredFrames.{Answered}
use Rattle.bw_console.specs.declared.exit.Exit.{Exit}
use Rattle.bw_console.specs.declared.exit.Exit.TheVariants as exits
use Rattle.bw_exchange.specs.declared.turns.NotKept.{NotKept}
use Rattle.bw_ports.specs.declared.link.Link.{Ghosts as LinkGhosts}
use Rattle.bw_ports.specs.declared.reactor.Reactor.{Ghosts as ReactorGhosts}
use Rattle.bw_connections.specs.ConnectionTables.{all_answered}
use Rattle.bw_connections.specs.Places.{begun_of, connection_count}
use Rattle.bw_serve.specs.Guards.{PeerAnswers}
use Rattle.bw_serve.specs.declared.event_loop.EventLoop.{EventLoop}
use Rattle.bw_serve.specs.declared.observing.RoundReport.{RoundReport}
use Rattle.bw_serve.specs.declared.serving.Bounds.{Bounds}
use Rattle.bw_serve.specs.Rounds.{ServesInRounds, ServesRounds, frames_in_rounds}
use Rattle.bw_serve.specs.EventLoopRuns.{HasServed, RunsEventLoop}

-- It says how many places an event loop has, how many connections were begun and haven't ended,
-- how many have, by which causes, how many frames were turned away, and what is kept of the peer at
-- each place.
pub record IsRoundReportOf {L : Type 0} (c : EventLoop L) (round : RoundReport) : Type 0 where
  pub places : round.places ≡ connection_count c.connections
  pub connections : round.connections ≡ begun_of c.connections - c.ended
  pub ended : round.ended ≡ c.ended
  pub ended_by : round.ended_by ≡ c.ended_by
  pub turned_away : round.turned_away ≡ c.turned_away
  pub peers : round.peers.now ≡ c.peer_slots.items

module _ {L S V : Type 0} (looks : V → S → RoundReport → V → Type 0) where
  -- an observer looked at this server, and was reported this event loop
  pub record LooksAtRound (c : EventLoop L) (s : S) (v v' : V) : Type 0 where
    pub round : RoundReport
    pub reported : IsRoundReportOf c round
    pub looked : looks v s round v'

  -- it looked at each of these, one after another, and nothing else happened to it
  abbrev pub LooksAtEach : List (EventLoop L × S) → V → V → Type 0
  LooksAtEach [] v v' = v' ≡ v
  LooksAtEach (x ∷ xs) v v' = (w : V) × LooksAtRound x.0 x.1 v w × LooksAtEach xs w v'

-- what a round left: the event loop, the server, and what this had answered in the run until then
pub record RoundLeft (L S : Type 0) : Type 0 where
  pub event_loop : EventLoop L
  pub server : S
  pub answered : List Answered

-- It looked once after each of these rounds, in their order, at what was made so of the server that
-- the round left and of what that had answered; and nothing else happened to it.
abbrev pub LooksAfterEach : {L S T V : Type 0} → (V → T → RoundReport → V → Type 0) →
    (S → List Answered → T → Type 0) → List (RoundLeft L S) → V → V → Type 0
LooksAfterEach looks makes [] v v' = v' ≡ v
LooksAfterEach {L} {S} {T} {V} looks makes (left ∷ rest) v v' = (t : T) × (w : V)
    × makes left.server left.answered t × LooksAtRound looks left.event_loop t v w
    × LooksAfterEach looks makes rest w v'

module _ {B L S O E : Type 0} (reactor : ReactorGhosts B L) (G : LinkGhosts L)
    (answers : PeerAnswers S)
    (commits : S → Result (Unit {0}) NotKept → S → Type 0) (out : Writer O) (reported : Writer E)
    (log : Bool) where
  -- the event loop and the server, as each of these rounds left them
  abbrev pub states_in_rounds : (idle exchanges n : ℕ) (c c' : EventLoop L) (s s' : S) (b b' : B)
      (o o' : O) (e e' : E) →
      ServesRounds reactor G answers commits out reported log idle exchanges n c c' s s' b b' o o' e e' →
      List (EventLoop L × S)
  states_in_rounds idle exchanges zero c c' s s' b b' o o' e e' rounds = []
  states_in_rounds idle exchanges (suc n) c c' s s' b b' o o' e e' rounds =
      states_in_rounds idle exchanges n c rounds.0 s rounds.1 b rounds.2 o rounds.3 e rounds.4
      rounds.5
      ++ (c', s') ∷ []

  -- the same of the rounds of a run
  abbrev pub states_of_run : (places idle exchanges : ℕ) (c : EventLoop L) (s s' : S) (b b' : B)
      (o o' : O) (e e' : E) →
      ServesInRounds reactor G answers commits out reported log places idle exchanges c s s' b b' o o' e
      e' →
      List (EventLoop L × S)
  states_of_run places idle exchanges c s s' b b' o o' e e' run =
      states_in_rounds idle exchanges run.count run.empty c s s' b b' o o' e e' run.each

  -- The run ended so, and its observer looked at the server after each of its rounds, in their
  -- order; nothing else happened to the observer.
  pub record HasObserved {V : Type 0} (looks : V → S → RoundReport → V → Type 0) (bounds : Bounds)
      (exit : Exit) (s s' : S) (b b' : B) (o o' : O) (e e' : E) (v v' : V) : Type 0 where
    pub run : HasServed reactor G answers commits out reported log bounds exit s s' b b' o o' e e'
    pub looked : LooksAtEach looks (states_of_run bounds.places bounds.idle bounds.exchanges
        run.following s s' b run.reactor_after o o' e e' run.in_rounds) v v'

  -- so a run is observed; if memory was refused, there was no round
  abbrev pub ObservesRun : {V : Type 0} → (V → S → RoundReport → V → Type 0) → Bounds → Exit →
      S → S → B → B → O → O → E → E → V → V → Type 0
  ObservesRun looks bounds exits.Memory s s' b b' o o' e e' v v' = v' ≡ v
  ObservesRun looks bounds exit s s' b b' o o' e e' v v' =
      HasObserved looks bounds exit s s' b b' o o' e e' v v'

  -- what each of these rounds left, in their order
  abbrev pub left_in_rounds : (idle exchanges n : ℕ) (c c' : EventLoop L) (s s' : S) (b b' : B)
      (o o' : O) (e e' : E) →
      ServesRounds reactor G answers commits out reported log idle exchanges n c c' s s' b b' o o' e e' →
      List (RoundLeft L S)
  left_in_rounds idle exchanges zero c c' s s' b b' o o' e e' rounds = []
  left_in_rounds idle exchanges (suc n) c c' s s' b b' o o' e e' rounds =
      left_in_rounds idle exchanges n c rounds.0 s rounds.1 b rounds.2 o rounds.3 e rounds.4
      rounds.5
      ++ record {
        event_loop = c';
        server = s';
        answered = all_answered (frames_in_rounds reactor G answers commits out reported log idle exchanges
            (suc n) c c' s s' b b' o o' e e' rounds);
      } ∷ []

  -- what each round of a run left; there is none where memory was refused before the first
  abbrev pub left_in_run : (bounds : Bounds) (exit : Exit) (s s' : S) (b b' : B) (o o' : O) (e e' : E) →
      RunsEventLoop reactor G answers commits out reported log bounds exit s s' b b' o o' e e' →
      List (RoundLeft L S)
  left_in_run bounds exits.Memory s s' b b' o o' e e' run = []
  left_in_run bounds exit s s' b b' o o' e e' run =
      left_in_rounds bounds.idle bounds.exchanges run.in_rounds.count run.in_rounds.empty run.following
      s s' b run.reactor_after o o' e e' run.in_rounds.each
