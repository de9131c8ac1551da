-- The results of an event loop's calls.
use Rattle.std.specs.Prelude.{◌≡◌, ◌⊎◌, ℕ, zero, suc, ◌+◌, ◌-◌, ◌<◌, Bool, false, ◌||◌, IfSome}
use Rattle.std.specs.Prelude.{Option, Some, None, List, [], ◌∷◌, ◌++◌, fold, length, slice_get}
use Rattle.std.specs.Prelude.{vec_len, Result, Ok, Err}
use Rattle.std.specs.List.{AllByRecursion}
use Rattle.bw_stream.specs.declared.sink.Sink.{Ghosts as Writer}
use Rattle.bw_exchange.specs.AnsweredFrames.{AnswersAll, answered_frames}
use Rattle.bw_connections.specs.declared.connection.Connection.{Connection}
use Rattle.bw_connections.specs.declared.connection.ConnectionEnd.TheVariants as ends
use Rattle.bw_ports.specs.declared.link.Link.{Ghosts as LinkGhosts}
use Rattle.bw_connections.specs.declared.connections.Closed.{Closed}
use Rattle.bw_connections.specs.declared.connections.Connections.{Connections}
use Rattle.bw_connections.specs.ConnectionTables.{Adds, KeepsConnections, SetsPlace, HoldsConnectionAt}
use Rattle.bw_connections.specs.ConnectionTables.{Tagged}
use Rattle.bw_connections.specs.ConnectionTables.{all_answered, own, tagged, those}
use Rattle.bw_connections.specs.Lives.{BeginsConnection, expired_at}
use Rattle.bw_connections.specs.Places.{begun_of, can_go_on_at, connection_count, end_of_connection}
use Rattle.bw_connections.specs.Places.{expired_there}
use Rattle.bw_connections.specs.Quanta.{HoldsNoReplies, IsEmpty, StaysAt, ExistedAt, WorksAt, ExistedUnder}
use Rattle.bw_exchange.specs.declared.turns.NotKept.{NotKept}
use Rattle.bw_exchange.specs.declared.turns.NotKept.TheVariants as kept
use Rattle.bw_exchange.specs.LinkCounts.{up_to_last, counting_frame}
use Rattle.bw_connections.specs.Places.{refused_of}
use Rattle.bw_serve.specs.Admissions.{AreOf, HostsMore}
use Rattle.bw_ports.specs.Reactors.{Admission}
use Rattle.bw_serve.specs.CountedEnds.{end_counts, none_ended, with_ends}
use Rattle.bw_serve.specs.Guards.{FromPeer, PeerAnswers, turning_away}
use Rattle.bw_serve.specs.Lines.{LogsEnds, ReportsEnds, counted_of}
use Rattle.bw_serve.specs.declared.event_loop.EventLoop.{EventLoop}
use Rattle.bw_serve.specs.declared.peer_slot.PeerSlot.{PeerSlot}

-- no peer has come yet
pub record IsNew {L : Type 0} (G : LinkGhosts L) (places : ℕ) (c : EventLoop L) : Type 0 where
  pub keeps : KeepsConnections G c.connections [] []
  pub places_are : connection_count c.connections ≡ places
  pub peer_slots_are : vec_len c.peer_slots ≡ places
  pub begun : begun_of c.connections ≡ 0
  pub refused : refused_of c.connections ≡ 0
  pub ended : c.ended ≡ 0
  pub ended_by : c.ended_by ≡ none_ended
  pub turned_away : c.turned_away ≡ 0

-- whether a connection at one of the first places can proceed before its link has more bytes, or
-- room
abbrev pub can_go_on_below : {L : Type 0} → EventLoop L → ℕ → Bool
can_go_on_below c zero = false
can_go_on_below c (suc n) = can_go_on_below c n || can_go_on_at c.connections n

-- whether any can
abbrev pub can_go_on_in : {L : Type 0} → EventLoop L → Bool
can_go_on_in c = can_go_on_below c (connection_count c.connections)

-- there is a slot for each place
abbrev pub HasPeerSlots : {L : Type 0} → EventLoop L → Type 0
HasPeerSlots c = vec_len c.peer_slots ≡ connection_count c.connections

-- the slot at a place has the address of this connection, and the count of its part of these frames
pub record PeerSlotOf {L : Type 0} (G : LinkGhosts L) (c : EventLoop L) (trace : List Tagged) (i : ℕ)
    (d : Connection L) : Type 0 where
  pub peer_slot : PeerSlot
  pub there : slice_get c.peer_slots.items i ≡ Some peer_slot
  pub link_stats : peer_slot.link_stats ≡ counted_of d.number trace
  pub peer : G.calls_from d.link peer_slot.address

-- this holds for each connection that is there
abbrev pub CountsOwn : {L : Type 0} → LinkGhosts L → EventLoop L → List Tagged → Type 0
CountsOwn {L} G c trace =
    (i : ℕ) (d : Connection L) → HoldsConnectionAt c.connections i d → PeerSlotOf G c trace i d

-- none of these frames came over one of these connections
abbrev pub AreSilent : {L : Type 0} → List (Closed L) → List Tagged → Type 0
AreSilent over more = AllByRecursion (λ x. own x.number more ≡ []) over

-- nothing was answered, no connection ended, and there are as many places
pub record Grows {L : Type 0} (G : LinkGhosts L) (c c' : EventLoop L) : Type 0 where
  pub adds : Adds G c.connections [] [] c'.connections
  pub places_are : connection_count c'.connections ≡ connection_count c.connections
  pub peer_slots_are : vec_len c'.peer_slots ≡ vec_len c.peer_slots
  pub counts : (over : List (Closed L)) (trace : List Tagged) →
      KeepsConnections G c.connections over trace → CountsOwn G c trace → CountsOwn G c' trace
  pub ended : c'.ended ≡ c.ended
  pub ended_by : c'.ended_by ≡ c.ended_by
  pub turned_away : c'.turned_away ≡ c.turned_away

-- and no peer was accepted, or refused
pub record KeepsEventLoop {L : Type 0} (G : LinkGhosts L) (c c' : EventLoop L) : Type 0 where
  pub grows : Grows G c c'
  pub begun : begun_of c'.connections ≡ begun_of c.connections
  pub refused : refused_of c'.connections ≡ refused_of c.connections

-- A connection that begins at this time, over some link and under some number.
abbrev pub AcceptsPeer : {L : Type 0} → ℕ → Connection L → Type 0
AcceptsPeer {L} now d = (link : L) × (number : ℕ) × BeginsConnection link number now d

-- each connection that was at a place is still there, as it was, and each other one was accepted at
-- this time
pub record LetsIn {L : Type 0} (now : ℕ) (c c' : EventLoop L) : Type 0 where
  pub stands : (i : ℕ) (d : Connection L) → HoldsConnectionAt c.connections i d →
      HoldsConnectionAt c'.connections i d
  pub received : (i : ℕ) (d : Connection L) → HoldsConnectionAt c'.connections i d →
      HoldsConnectionAt c.connections i d ⊎ AcceptsPeer now d

-- What is done after the quantum at a place: nothing if its connection ended in it; else the
-- connection is ended if by then it was quiet, or drained, for too long.
abbrev pub LooksAfter : {L : Type 0} → ℕ → ℕ → ℕ → Option (Closed L) → Connections L →
    List (Closed L) → Connections L → Type 0
LooksAfter now idle place (Some x) m closed m' = (closed ≡ x ∷ []) × (m' ≡ m)
LooksAfter {L} now idle place None m closed m' = (last : Option (Closed L)) × (closed ≡ those last)
    × (end_of_connection last ≡ expired_there now idle m place) × StaysAt place m m'
    × ExistedAt place m m'
    × IfSome last (λ x. IsEmpty place m')

-- the line of each connection that ended was printed, and each was counted, also by its cause
pub record CountsEnds {L O : Type 0} (out : Writer O) (c c' : EventLoop L) (closed : List (Closed L))
    (o o' : O) : Type 0 where
  pub prints : (n : ℕ) → c.ended ≡ up_to_last n →
      ReportsEnds out n closed o o' × (c'.ended ≡ up_to_last (n + length closed))
  pub by_cause : end_counts c'.ended_by ≡ with_ends (end_counts c.ended_by) closed

-- Frames more were answered, none of them over a connection that was over, and connections more are
-- over: if the frames of each were counted they still are, and the ends are logged so.
abbrev pub ReportsRound : {L E : Type 0} → LinkGhosts L → Writer E → Bool → EventLoop L →
    List Tagged → List (Closed L) → EventLoop L → E → E → Type 0
ReportsRound {L} G reported log c more closed c' e e' = (over : List (Closed L)) (trace : List Tagged) →
    KeepsConnections G c.connections over trace → CountsOwn G c trace →
    CountsOwn G c' (trace ++ more) × LogsEnds G reported log (trace ++ more) closed e e'
    × AreSilent over more

module _ {L S : Type 0} (G : LinkGhosts L)
    (answers : PeerAnswers S) where
  -- a quantum of the connection at a place, whose frames are answered as those of the peer at its
  -- slot, and counted there
  pub record WorksCounted (place now : ℕ) (closed : Option (Closed L)) (c c' : EventLoop L) (s s' : S)
      : Type 0 where
    pub peer_slot : PeerSlot
    pub was : slice_get c.peer_slots.items place ≡ Some peer_slot
    pub works : WorksAt G (answers.by_peer peer_slot.address) place now closed c.connections
        c'.connections s s'
    pub peer_slot' : PeerSlot
    pub sets : SetsPlace c.peer_slots.items place peer_slot' c'.peer_slots.items
    pub address : peer_slot'.address ≡ peer_slot.address
    pub counted : peer_slot'.link_stats
        ≡ fold counting_frame peer_slot.link_stats (answered_frames works.answered)
    pub peer_slots_are : vec_len c'.peer_slots ≡ vec_len c.peer_slots
    pub ended : c'.ended ≡ c.ended
    pub ended_by : c'.ended_by ≡ c.ended_by
    pub turned_away : c'.turned_away ≡ fold (turning_away (answers.turns_away peer_slot.address))
        c.turned_away (answered_frames works.answered)

module _ {L S O E : Type 0} (G : LinkGhosts L) (answers : PeerAnswers S)
    (out : Writer O) (reported : Writer E) (log : Bool) where
  -- At this time the connection at a place had its quantum, and only after that its silence was
  -- checked. The line of one that is over is printed, and it is logged.
  pub record ServesPlace (now idle place : ℕ) (c c' : EventLoop L) (s s' : S) (o o' : O) (e e' : E)
      : Type 0 where
    pub first : Option (Closed L)
    pub between : Connections L
    -- its frames were answered as those of the peer at its slot
    pub peer_slot : PeerSlot
    pub was : slice_get c.peer_slots.items place ≡ Some peer_slot
    pub works : WorksAt G (answers.by_peer peer_slot.address) place now first c.connections between s s'
    -- and those of them that are turned away were counted
    pub turned_away : c'.turned_away ≡ fold (turning_away (answers.turns_away peer_slot.address))
        c.turned_away (answered_frames works.answered)
    pub closed : List (Closed L)
    pub following : LooksAfter now idle place first between closed c'.connections
    pub adds : Adds G c.connections (tagged works.number works.answered) closed c'.connections
    pub stays : StaysAt place c.connections c'.connections
    -- the connection there was there before, and so was the one that is over
    pub existed : ExistedUnder G place c.connections c'.connections
    pub whose : (d : Connection L) → HoldsConnectionAt c.connections place d → AreOf G d closed
    pub peer_slots_are : vec_len c'.peer_slots ≡ vec_len c.peer_slots
    -- it ended as silent only if no frame of it was answered, for longer than this many
    -- milliseconds
    pub silent : (d : Connection L) → HoldsConnectionAt c.connections place d → AllByRecursion
        (λ x. x.end ≡ ends.Idle → (works.answered ≡ []) × (idle < now - d.since)) closed
    -- and continues only if it was neither quiet nor drained for too long
    pub in_time : (d : Connection L) → HoldsConnectionAt c'.connections place d →
        expired_at now idle d ≡ None
    pub prints : CountsEnds out c c' closed o o'
    pub reports : ReportsRound G reported log c (tagged works.number works.answered) closed c' e e'

  -- the connections at the first places had a quantum each, one after another
  abbrev pub InTurn : ℕ → ℕ → ℕ → EventLoop L → EventLoop L → S → S → O → O → E →
      E → Type 0
  InTurn now idle zero c c' s s' o o' e e' = (c' ≡ c) × (s' ≡ s) × (o' ≡ o) × (e' ≡ e)
  InTurn now idle (suc place) c c' s s' o o' e e' = (d : EventLoop L) × (t : S) × (p : O) × (f : E)
      × InTurn now idle place c d s t o p e f
      × ServesPlace now idle place d c' t s' p o' f e'

  -- the frames that these quanta answered, after the numbers of their connections
  abbrev pub frames_in_turn : (now idle n : ℕ) (c c' : EventLoop L) (s s' : S) (o o' : O) (e e' : E) →
      InTurn now idle n c c' s s' o o' e e' → List Tagged
  frames_in_turn now idle zero c c' s s' o o' e e' turn = []
  frames_in_turn now idle (suc n) c c' s s' o o' e e' turn =
      frames_in_turn now idle n c turn.0 s turn.1 o turn.2 e turn.3 turn.4
      ++ tagged turn.5.works.number turn.5.works.answered

  -- and the connections that they ended
  abbrev pub ended_in_turn : (now idle n : ℕ) (c c' : EventLoop L) (s s' : S) (o o' : O) (e e' : E) →
      InTurn now idle n c c' s s' o o' e e' → List (Closed L)
  ended_in_turn now idle zero c c' s s' o o' e e' turn = []
  ended_in_turn now idle (suc n) c c' s s' o o' e e' turn =
      ended_in_turn now idle n c turn.0 s turn.1 o turn.2 e turn.3 turn.4 ++ turn.5.closed

  -- these frames more were answered, and the lines of these, which are over, printed, and reported;
  -- and these links more were accepted, or refused
  pub record Advances (more : List Tagged) (closed : List (Closed L)) (links : List (Admission L))
      (c c' : EventLoop L) (s s' : S) (o o' : O) (e e' : E) : Type 0 where
    pub by_server : AnswersAll (FromPeer answers.by_peer) s (all_answered more) s'
    pub adds : Adds G c.connections more closed c'.connections
    pub prints : CountsEnds out c c' closed o o'
    pub reports : ReportsRound G reported log c more closed c' e e'
    pub hosts : HostsMore G c.connections links closed c'.connections

-- at how many of these places no replies may wait after a commit that returned this
abbrev pub withheld_places : Result (Unit {0}) NotKept → ℕ → ℕ
withheld_places (Ok u) places = 0
withheld_places (Err kept.WriteFault) places = places
withheld_places (Err kept.SyncFault) places = 0

module _ {L O E : Type 0} (G : LinkGhosts L) (out : Writer O) (reported : Writer E) (log : Bool) where
  -- Nothing was answered; the connection at a place over which replies waited is over, and they will
  -- not leave. It is printed, and logged.
  pub record WithholdsAt (place : ℕ) (c c' : EventLoop L) (o o' : O) (e e' : E) : Type 0 where
    pub closed : List (Closed L)
    pub adds : Adds G c.connections [] closed c'.connections
    pub prints : CountsEnds out c c' closed o o'
    pub reports : ReportsRound G reported log c [] closed c' e e'
    pub hosts : HostsMore G c.connections [] closed c'.connections
    pub turned_away : c'.turned_away ≡ c.turned_away
    pub stays : StaysAt place c.connections c'.connections
    pub peer_slots_are : vec_len c'.peer_slots ≡ vec_len c.peer_slots
    pub none_wait : HoldsNoReplies place c'.connections

  -- the same of each of the first places
  pub record Withholds (count : ℕ) (c c' : EventLoop L) (o o' : O) (e e' : E) : Type 0 where
    pub closed : List (Closed L)
    pub adds : Adds G c.connections [] closed c'.connections
    pub prints : CountsEnds out c c' closed o o'
    pub reports : ReportsRound G reported log c [] closed c' e e'
    pub hosts : HostsMore G c.connections [] closed c'.connections
    pub turned_away : c'.turned_away ≡ c.turned_away
    pub places_are : connection_count c'.connections ≡ connection_count c.connections
    pub begun : begun_of c'.connections ≡ begun_of c.connections
    pub peer_slots_are : vec_len c'.peer_slots ≡ vec_len c.peer_slots
    pub none_wait : (i : ℕ) → i < count → HoldsNoReplies i c'.connections
    pub unchanged : count ≡ 0 → (c' ≡ c) × (o' ≡ o) × (e' ≡ e)

  -- after a commit that returned this, replies that a failed write didn't keep will not leave
  abbrev pub WithholdsUnkept : Result (Unit {0}) NotKept → EventLoop L → EventLoop L → O → O → E →
      E → Type 0
  WithholdsUnkept result c c' o o' e e' =
      Withholds (withheld_places result (connection_count c.connections)) c c' o o' e e'
