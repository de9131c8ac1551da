-- The result of serving an event loop.
use Rattle.std.specs.Prelude.{Result, Err, ◌≡◌, ◌⊎◌, ℕ, ◌-◌, ◌^◌, ◌≤◌, Bool, false, List, [], ◌++◌, length}
use Rattle.bw_stream.specs.Moves.{one_more}
use Rattle.bw_stream.specs.declared.sink.Sink.{Ghosts as Writer}
use Rattle.bw_exchange.specs.AnsweredFrames.{Answered, AnswersAll}
use Rattle.bw_console.specs.declared.exit.Exit.{Exit}
use Rattle.bw_console.specs.declared.exit.Exit.TheVariants as exits
use Rattle.bw_exchange.specs.declared.turns.NotKept.{NotKept}
use Rattle.bw_exchange.specs.declared.turns.NotKept.TheVariants as kept
use Rattle.bw_ports.specs.declared.link.Link.{Ghosts as LinkGhosts}
use Rattle.bw_connections.specs.declared.connections.Closed.{Closed}
use Rattle.bw_connections.specs.ConnectionTables.{Tagged, all_answered}
use Rattle.bw_connections.specs.Places.{begun_of}
use Rattle.bw_connections.specs.ConnectionBytes.{ServesEachConnection}
use Rattle.bw_serve.specs.declared.event_loop.EventLoop.{EventLoop}
use Rattle.bw_serve.specs.declared.serving.Bounds.{Bounds}
use Rattle.bw_serve.specs.Admissions.{HostsAll}
use Rattle.bw_serve.specs.EventLoops.{Grows}
use Rattle.bw_ports.specs.Reactors.{Admission}
use Rattle.bw_serve.specs.Rounds.{GoOnUntilLast, ServesInRounds, ended_of_run, frames_of_run}
use Rattle.bw_serve.specs.Guards.{FromPeer, PeerAnswers}
use Rattle.bw_serve.specs.Lines.{LogsEnds, ReportsEnds}
use Rattle.bw_ports.specs.declared.reactor.Reactor.{Ghosts as ReactorGhosts}

-- the reactor failed once, or has waited as often as it counts
abbrev pub GoesNoFurther : {B L : Type 0} → ReactorGhosts B L → B → B → Type 0
GoesNoFurther reactor b b' =
    (reactor.failures b' ≡ one_more (reactor.failures b)) ⊎ (2 ^ 64 - 1 ≤ reactor.waits b')

-- a sync failed in the commit that left this server
abbrev pub LacksSync : {S : Type 0} → (S → Result (Unit {0}) NotKept → S → Type 0) → S → Type 0
LacksSync {S} commits s = (mid : S) × commits mid (Err kept.SyncFault) s

-- why the run ends so: as many connections have ended as were asked for, and the reactor never
-- failed; or it could continue no longer, or not after a sync that failed
abbrev pub EndsAt : {B L S : Type 0} → ReactorGhosts B L →
    (S → Result (Unit {0}) NotKept → S → Type 0) → Exit → ℕ → ℕ → S → B → B → Type 0
EndsAt reactor commits exits.Done exchanges ended s b b' =
    (exchanges ≤ ended) × (reactor.failures b' ≡ reactor.failures b)
EndsAt reactor commits exits.Device exchanges ended s b b' =
    GoesNoFurther reactor b b' ⊎ LacksSync commits s
EndsAt reactor commits _ exchanges ended s b b' = ⊥

module _ {B L S O E : Type 0} (reactor : ReactorGhosts B L) (G : LinkGhosts L)
    (answers : PeerAnswers S)
    (commits : S → Result (Unit {0}) NotKept → S → Type 0) (out : Writer O) (reported : Writer E)
    (log : Bool) where
  -- The server answered these frames, over connections of which these are over and others are at
  -- places: each one's own are those of its link, whatever came between them. The line of each that
  -- is over, and no other, was printed, in the order in which they ended; and in that order they
  -- were logged, if that was asked for.
  pub record HasServed (bounds : Bounds) (exit : Exit) (s s' : S) (b b' : B) (o o' : O) (e e' : E)
      : Type 0 where
    -- in rounds, after the last of which some were perhaps still accepted
    pub following : EventLoop L
    pub reactor_after : B
    pub in_rounds : ServesInRounds reactor G answers commits out reported log bounds.places bounds.idle
        bounds.exchanges following s s' b reactor_after o o' e e'
    -- none came after a commit in which a sync failed
    pub went_on : GoOnUntilLast reactor G answers commits out reported log bounds.idle bounds.exchanges
        in_rounds.count in_rounds.empty following s s' b reactor_after o o' e e' in_rounds.each
    -- what their quanta took from the connections, in their order, and the connections that they
    -- ended
    pub trace : List Tagged
    pub taken : trace ≡ frames_of_run reactor G answers commits out reported log bounds.places bounds.idle
        bounds.exchanges following s s' b reactor_after o o' e e' in_rounds
    pub by_server : AnswersAll (FromPeer answers.by_peer) s (all_answered trace) s'
    pub over : List (Closed L)
    pub are_over : over ≡ ended_of_run reactor G answers commits out reported log bounds.places bounds.idle
        bounds.exchanges following s s' b reactor_after o o' e e' in_rounds
    pub event_loop : EventLoop L
    pub last : Grows G following event_loop
    -- each link that the reactor gave is at its place, or over, or was refused
    pub links : List (Admission L)
    pub gave : (xs : List (Admission L)) → reactor.admitted b xs → reactor.admitted b' (xs ++ links)
    pub hosts : HostsAll G event_loop.connections over links
    pub each : ServesEachConnection G event_loop.connections over trace
    -- no more were accepted than were asked for
    pub most : begun_of event_loop.connections ≤ bounds.exchanges
    pub printed : ReportsEnds out 0 over o o'
    pub logged : LogsEnds G reported log trace over e e'
    pub unasked : log ≡ false → e' ≡ e
    pub ends : EndsAt reactor commits exit bounds.exchanges (length over) s' b b'

  -- so a run ends; if memory was refused, before the first was accepted
  abbrev pub RunsEventLoop : Bounds → Exit → S → S → B → B → O → O → E → E → Type 0
  RunsEventLoop bounds exits.Memory s s' b b' o o' e e' =
      (s' ≡ s) × (b' ≡ b) × (o' ≡ o) × (e' ≡ e)
  RunsEventLoop bounds exit s s' b b' o o' e e' = HasServed bounds exit s s' b b' o o' e e'

  -- what a server has answered in a run, over all its connections
  abbrev pub answered_in_loop : (bounds : Bounds) (exit : Exit) (s s' : S) (b b' : B) (o o' : O)
      (e e' : E) → RunsEventLoop bounds exit s s' b b' o o' e e' → List Answered
  answered_in_loop bounds exits.Memory s s' b b' o o' e e' run = []
  answered_in_loop bounds exit s s' b b' o o' e e' run = all_answered run.trace
