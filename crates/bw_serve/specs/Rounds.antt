-- Rounds of an event loop, one after another.
use Rattle.std.specs.Prelude.{Result, Ok, Err, ◌≡◌, ◌⊎◌, ℕ, zero, suc, ◌<◌, ◌==◌, Bool, true, false, ◌&&◌}
use Rattle.std.specs.Prelude.{List}
use Rattle.std.specs.Prelude.{◌≤◌, [], ◌++◌, None, length}
use Rattle.std.specs.List.{list_any}
use Rattle.bw_stream.specs.Moves.{one_more}
use Rattle.bw_stream.specs.declared.sink.Sink.{Ghosts as Writer}
use Rattle.bw_connections.specs.declared.connection.Connection.{Connection}
use Rattle.bw_exchange.specs.declared.turns.NotKept.{NotKept}
use Rattle.bw_exchange.specs.declared.turns.NotKept.TheVariants as kept
use Rattle.bw_ports.specs.declared.link.Link.{Ghosts as LinkGhosts}
use Rattle.bw_exchange.specs.AnsweredFrames.{AnswersAll}
use Rattle.bw_connections.specs.ConnectionTables.{HoldsConnectionAt, Tagged, all_answered}
use Rattle.bw_connections.specs.declared.connections.Closed.{Closed}
use Rattle.bw_connections.specs.Places.{begun_of, connection_count, first_free_place}
use Rattle.bw_connections.specs.Quanta.{Wakes}
use Rattle.bw_serve.specs.Admissions.{AdmitsEach}
use Rattle.bw_ports.specs.Reactors.{Admission}
use Rattle.bw_serve.specs.EventLoops.{Grows, WithholdsUnkept, InTurn, IsNew, LetsIn, KeepsEventLoop}
use Rattle.bw_serve.specs.EventLoops.{can_go_on_in}
use Rattle.bw_serve.specs.EventLoops.{ended_in_turn, frames_in_turn}
use Rattle.bw_serve.specs.Guards.{FromPeer, PeerAnswers}
use Rattle.bw_serve.specs.declared.event_loop.EventLoop.{EventLoop}
use Rattle.bw_ports.specs.declared.reactor.Reactor.{Ghosts as ReactorGhosts}
use Rattle.bw_ports.specs.declared.reactor.Ready.{Ready}

-- the longest wait in milliseconds: none if a connection can proceed
abbrev pub patience_of : Bool → ℕ
patience_of true = 0
patience_of false = 250

-- whether a server may go on after this commit
abbrev pub goes_on_after : Result (Unit {0}) NotKept → Bool
goes_on_after (Ok u) = true
goes_on_after (Err kept.WriteFault) = true
goes_on_after (Err kept.SyncFault) = false

-- whether one of these reports bytes at a place
abbrev pub reports_bytes : ℕ → List Ready → Bool
reports_bytes place reported = list_any (λ r. (r.place == place) && r.readable) reported

-- or of room
abbrev pub reports_room : ℕ → List Ready → Bool
reports_room place reported = list_any (λ r. (r.place == place) && r.writable) reported

-- each connection at a place is still there, and may have bytes, or room, if one of these reports
-- that of the place
abbrev pub WakesEach : {L : Type 0} → List Ready → EventLoop L → EventLoop L → Type 0
WakesEach {L} reported c c' = (i : ℕ) (d : Connection L) → HoldsConnectionAt c.connections i d →
    (d' : Connection L) × HoldsConnectionAt c'.connections i d'
    × Wakes (reports_bytes i reported) (reports_room i reported) d d'

-- the same for more links that a reactor has reported
pub record Notices {B K L : Type 0} (reactor : ReactorGhosts B K) (b b' : B) (c c' : EventLoop L)
    : Type 0 where
  pub reported : List Ready
  pub more : (rs : List Ready) → reactor.reported b rs → reactor.reported b' (rs ++ reported)
  pub each : WakesEach reported c c'

-- it has reported each link that was ready, or as many as one more than there are places
abbrev pub IsAll : {L : Type 0} → EventLoop L → List Ready → Type 0 → Type 0
IsAll c reported all_reported = all_reported ⊎ (length reported ≡ suc (connection_count c.connections))

-- and with no fewer than that
abbrev pub NoticesAll : {B K L : Type 0} → ReactorGhosts B K → B → B → EventLoop L → EventLoop L →
    Type 0
NoticesAll reactor b b' c c' =
    (n : Notices reactor b b' c c') × IsAll c n.reported (reactor.all_reported b')

-- as many were begun as may be, or no place is free, or nobody waits to be accepted, or it was
-- asked as often as there are places
abbrev pub AsksIn : {B K L : Type 0} → ReactorGhosts B K → ℕ → B → EventLoop L → Type 0
AsksIn reactor exchanges b c = (exchanges ≤ begun_of c.connections)
    ⊎ (first_free_place c.connections ≡ None)
    ⊎ reactor.nobody b ⊎ reactor.tried b (connection_count c.connections)

-- these links, and no others, the reactor gave; and each of them was accepted, or refused
pub record Welcomes {B L : Type 0} (reactor : ReactorGhosts B L) (now : ℕ) (b b' : B) (c c' : EventLoop L)
    : Type 0 where
  pub links : List (Admission L)
  pub gave : (xs : List (Admission L)) → reactor.admitted b xs → reactor.admitted b' (xs ++ links)
  pub admits : AdmitsEach now links c c'

-- some were perhaps accepted, after the reported links were noted, and nothing else was done
pub record IsShut {B L S O E : Type 0} (reactor : ReactorGhosts B L) (G : LinkGhosts L) (c c' : EventLoop L)
    (s s' : S) (b b' : B) (o o' : O) (e e' : E) : Type 0 where
  pub noticed : EventLoop L
  pub notices : KeepsEventLoop G c noticed
  pub reported : List Ready
  pub wakes : WakesEach reported c noticed
  pub grows : Grows G noticed c'
  pub now : ℕ
  pub welcomes : Welcomes reactor now b b' noticed c'
  pub server : s' ≡ s
  pub printed : o' ≡ o
  pub logged : e' ≡ e

module _ {B L S O E : Type 0} (reactor : ReactorGhosts B L) (G : LinkGhosts L)
    (answers : PeerAnswers S)
    (commits : S → Result (Unit {0}) NotKept → S → Type 0) (out : Writer O) (reported : Writer E)
    (log : Bool) where
  -- A round: the reactor waited, but not at all if a connection could proceed; the links that were
  -- ready after that were noted; some were perhaps accepted, at the time that the reactor reported;
  -- then each place had its quantum, and after the last one the server committed.
  pub record ServesRound (idle exchanges : ℕ) (c c' : EventLoop L) (s s' : S) (b b' : B) (o o' : O)
      (e e' : E) : Type 0 where
    pub waited : reactor.waits b' ≡ one_more (reactor.waits b)
    pub patience : reactor.patience b' ≡ patience_of (can_go_on_in c)
    pub noticed : EventLoop L
    pub notices : KeepsEventLoop G c noticed
    -- the reactor reported these links after the wait
    pub links : List Ready
    pub were_reported : reactor.reported b' links
    pub all : IsAll c links (reactor.all_reported b')
    pub wakes : WakesEach links c noticed
    pub between : EventLoop L
    pub grows : Grows G noticed between
    pub lets_in : LetsIn (reactor.time b') noticed between
    pub welcomes : Welcomes reactor (reactor.time b') b b' noticed between
    pub asks : AsksIn reactor exchanges b' between
    pub served : EventLoop L
    pub mid : S
    pub printed : O
    pub logged : E
    pub in_turn : InTurn G answers out reported log (reactor.time b') idle
        (connection_count between.connections) between served s mid o printed e logged
    -- then the server committed what these answered, and that is still how it answered; or replies
    -- that wait will not leave
    pub kept : AnswersAll (FromPeer answers.by_peer) s
        (all_answered (frames_in_turn G answers out reported log
        (reactor.time b') idle (connection_count between.connections) between served s mid o printed
        e logged in_turn)) s'
    pub outcome : Result (Unit {0}) NotKept
    pub committed : commits mid outcome s'
    pub withholds : WithholdsUnkept G out reported log outcome served c' printed o' logged e'

  -- whose commit returned this
  abbrev pub ServesRoundTo : Result (Unit {0}) NotKept → ℕ → ℕ → EventLoop L → EventLoop L →
      S → S → B → B → O → O → E → E → Type 0
  ServesRoundTo result idle exchanges c c' s s' b b' o o' e e' =
      (round : ServesRound idle exchanges c c' s s' b b' o o' e e') × (round.outcome ≡ result)

  -- what it took from the connections, and ended
  abbrev pub frames_in_round : (idle exchanges : ℕ) (c c' : EventLoop L) (s s' : S) (b b' : B)
      (o o' : O) (e e' : E) → ServesRound idle exchanges c c' s s' b b' o o' e e' → List Tagged
  frames_in_round idle exchanges c c' s s' b b' o o' e e' round =
      frames_in_turn G answers out reported log (reactor.time b') idle
      (connection_count round.between.connections) round.between round.served s round.mid o
      round.printed e round.logged round.in_turn

  abbrev pub ended_in_round : (idle exchanges : ℕ) (c c' : EventLoop L) (s s' : S) (b b' : B)
      (o o' : O) (e e' : E) → ServesRound idle exchanges c c' s s' b b' o o' e e' → List (Closed L)
  ended_in_round idle exchanges c c' s s' b b' o o' e e' round =
      ended_in_turn G answers out reported log (reactor.time b') idle
      (connection_count round.between.connections) round.between round.served s round.mid o
      round.printed e round.logged round.in_turn
      ++ round.withholds.closed

  -- this many rounds, one after another, each begun where fewer were over than are asked for
  abbrev pub ServesRounds : ℕ → ℕ → ℕ → EventLoop L → EventLoop L → S → S → B → B →
      O → O → E → E → Type 0
  ServesRounds idle exchanges zero c c' s s' b b' o o' e e' =
      (c' ≡ c) × (s' ≡ s) × (b' ≡ b) × (o' ≡ o) × (e' ≡ e)
  ServesRounds idle exchanges (suc n) c c' s s' b b' o o' e e' =
      (d : EventLoop L) × (t : S) × (x : B) × (p : O) × (f : E)
      × ServesRounds idle exchanges n c d s t b x o p e f × (d.ended < exchanges)
      × ServesRound idle exchanges d c' t s' x b' p o' f e'

  -- after each of these rounds the server may go on
  abbrev pub GoOnAfterEach : (idle exchanges n : ℕ) (c c' : EventLoop L) (s s' : S) (b b' : B)
      (o o' : O) (e e' : E) → ServesRounds idle exchanges n c c' s s' b b' o o' e e' → Type 0
  GoOnAfterEach idle exchanges zero c c' s s' b b' o o' e e' rounds = Unit {0}
  GoOnAfterEach idle exchanges (suc n) c c' s s' b b' o o' e e' rounds =
      GoOnAfterEach idle exchanges n c rounds.0 s rounds.1 b rounds.2 o rounds.3 e rounds.4 rounds.5
      × (goes_on_after rounds.7.outcome ≡ true)

  -- after each but the last
  abbrev pub GoOnUntilLast : (idle exchanges n : ℕ) (c c' : EventLoop L) (s s' : S) (b b' : B)
      (o o' : O) (e e' : E) → ServesRounds idle exchanges n c c' s s' b b' o o' e e' → Type 0
  GoOnUntilLast idle exchanges zero c c' s s' b b' o o' e e' rounds = Unit {0}
  GoOnUntilLast idle exchanges (suc n) c c' s s' b b' o o' e e' rounds =
      GoOnAfterEach idle exchanges n c rounds.0 s rounds.1 b rounds.2 o rounds.3 e rounds.4 rounds.5

  -- the frames that these rounds took from the connections, one round's after another's
  abbrev pub frames_in_rounds : (idle exchanges n : ℕ) (c c' : EventLoop L) (s s' : S) (b b' : B)
      (o o' : O) (e e' : E) → ServesRounds idle exchanges n c c' s s' b b' o o' e e' → List Tagged
  frames_in_rounds idle exchanges zero c c' s s' b b' o o' e e' rounds = []
  frames_in_rounds idle exchanges (suc n) c c' s s' b b' o o' e e' rounds =
      frames_in_rounds idle exchanges n c rounds.0 s rounds.1 b rounds.2 o rounds.3 e rounds.4
      rounds.5
      ++ frames_in_round idle exchanges rounds.0 c' rounds.1 s' rounds.2 b' rounds.3 o' rounds.4 e'
      rounds.7

  -- and the connections that they ended
  abbrev pub ended_in_rounds : (idle exchanges n : ℕ) (c c' : EventLoop L) (s s' : S) (b b' : B)
      (o o' : O) (e e' : E) → ServesRounds idle exchanges n c c' s s' b b' o o' e e' →
      List (Closed L)
  ended_in_rounds idle exchanges zero c c' s s' b b' o o' e e' rounds = []
  ended_in_rounds idle exchanges (suc n) c c' s s' b b' o o' e e' rounds =
      ended_in_rounds idle exchanges n c rounds.0 s rounds.1 b rounds.2 o rounds.3 e rounds.4
      rounds.5
      ++ ended_in_round idle exchanges rounds.0 c' rounds.1 s' rounds.2 b' rounds.3 o' rounds.4 e'
      rounds.7

  -- rounds from an empty event loop, in which a silent connection is ended after this many
  -- milliseconds
  pub record ServesInRounds (places idle exchanges : ℕ) (c : EventLoop L) (s s' : S) (b b' : B)
      (o o' : O) (e e' : E) : Type 0 where
    pub empty : EventLoop L
    pub new : IsNew G places empty
    pub count : ℕ
    pub each : ServesRounds idle exchanges count empty c s s' b b' o o' e e'

  -- their frames, and the connections that they ended
  abbrev pub frames_of_run : (places idle exchanges : ℕ) (c : EventLoop L) (s s' : S) (b b' : B)
      (o o' : O) (e e' : E) → ServesInRounds places idle exchanges c s s' b b' o o' e e' →
      List Tagged
  frames_of_run places idle exchanges c s s' b b' o o' e e' run =
      frames_in_rounds idle exchanges run.count run.empty c s s' b b' o o' e e' run.each

  abbrev pub ended_of_run : (places idle exchanges : ℕ) (c : EventLoop L) (s s' : S) (b b' : B)
      (o o' : O) (e e' : E) → ServesInRounds places idle exchanges c s s' b b' o o' e e' →
      List (Closed L)
  ended_of_run places idle exchanges c s s' b b' o o' e e' run =
      ended_in_rounds idle exchanges run.count run.empty c s s' b b' o o' e e' run.each
