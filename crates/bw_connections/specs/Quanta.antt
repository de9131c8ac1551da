-- A quantum of the connection at a place.
use Rattle.std.specs.Prelude.{◌≡◌, ◌≢◌, ℕ, ◌+◌, ◌≤◌, Bool, ◌||◌, Option, None, IfSome}
use Rattle.std.specs.Prelude.{List, [], length, slice_get}
use Rattle.bw_model.specs.Wire.{Frame}
use Rattle.bw_model.specs.Replies.{Reply}
use Rattle.bw_exchange.specs.AnsweredFrames.{Answered, AnswersAll}
use Rattle.bw_stream.specs.Moves.{one_more}
use Rattle.bw_wire.specs.declared.fault.WireFault.{WireFault}
use Rattle.bw_connections.specs.declared.connection.Connection.{Connection}
use Rattle.bw_connections.specs.declared.connection.Phase.TheVariants as phases
use Rattle.bw_ports.specs.declared.link.Link.{Ghosts as LinkGhosts}
use Rattle.bw_connections.specs.declared.connections.Closed.{Closed}
use Rattle.bw_connections.specs.declared.connections.Connections.{Connections}
use Rattle.bw_connections.specs.ConnectionTables.{Adds, HoldsConnectionAt, tagged, those}
use Rattle.bw_connections.specs.Lives.{BeginsConnection, EndsDrained, EndsServed, IsNoSilence, IsOpen}
use Rattle.bw_connections.specs.Lives.{KeepsPeer, IsFinished, Learns, DropsSent, Moved, KeepsConnection}
use Rattle.bw_connections.specs.Lives.{LeavesOf, has_just_ended, is_heard, quantum, quiet_since}
use Rattle.bw_exchange.specs.Parts.{end_of, waiting_in}
use Rattle.bw_connections.specs.Places.{begun_of, connection_count, refused_of}

-- the other places are as they were
pub record LeavesOthers {L : Type 0} (place : ℕ) (m m' : Connections L) : Type 0 where
  pub others : (j : ℕ) → j ≢ place → slice_get m'.places.items j ≡ slice_get m.places.items j
  pub count : connection_count m' ≡ connection_count m

-- and no connection was begun, and no link refused
abbrev pub StaysAt : {L : Type 0} → ℕ → Connections L → Connections L → Type 0
StaysAt place m m' =
    LeavesOthers place m m' × (begun_of m' ≡ begun_of m) × (refused_of m' ≡ refused_of m)

-- the connection there now was there before, as it is
abbrev pub ExistedAt : {L : Type 0} → ℕ → Connections L → Connections L → Type 0
ExistedAt {L} place m m' = (c : Connection L) → HoldsConnectionAt m' place c → HoldsConnectionAt m place c

-- the connection there now was there before, under the same number and from the same address
abbrev pub ExistedUnder : {L : Type 0} → LinkGhosts L → ℕ → Connections L → Connections L → Type 0
ExistedUnder {L} G place m m' = (c' : Connection L) → HoldsConnectionAt m' place c' →
    (c : Connection L) × HoldsConnectionAt m place c × (c'.number ≡ c.number)
    × KeepsPeer G c.link c'.link

-- the connection that is over, if one is, has the number of the one that was there, and the same
-- peer
abbrev pub EndsIts : {L : Type 0} → LinkGhosts L → ℕ → Option (Closed L) → Connections L → Type 0
EndsIts {L} G place closed m = (c : Connection L) → HoldsConnectionAt m place c →
    IfSome closed (λ x. (x.number ≡ c.number) × KeepsPeer G c.link x.link)

-- no connection is at this place
abbrev pub IsEmpty : {L : Type 0} → ℕ → Connections L → Type 0
IsEmpty {L} place m = (c : Connection L) → HoldsConnectionAt m place c → ⊥

-- a new connection over this link is at this place, under the next number
pub record BeginsAt {L : Type 0} (place : ℕ) (link : L) (now : ℕ) (m m' : Connections L) : Type 0 where
  pub connection : Connection L
  pub there : HoldsConnectionAt m' place connection
  pub begins : BeginsConnection link m.next now connection
  pub next : m'.next ≡ m.next + 1
  pub refused : refused_of m' ≡ refused_of m

-- no connection could be begun over a link, which is counted; nothing else changed
pub record RefusesLink {L : Type 0} (m m' : Connections L) : Type 0 where
  pub places : m'.places ≡ m.places
  pub begun : begun_of m' ≡ begun_of m
  pub refused : refused_of m' ≡ one_more (refused_of m)

-- there may be bytes again, or room
pub record Wakes {L : Type 0} (bytes room : Bool) (c c' : Connection L) : Type 0 where
  pub readable : c'.readable ≡ c.readable || bytes
  pub writable : c'.writable ≡ c.writable || room
  pub link : c'.link ≡ c.link
  pub exchange : c'.exchange ≡ c.exchange
  pub stays : KeepsConnection c c'

-- no replies wait at a place over a connection that is served
abbrev pub HoldsNoReplies : {L : Type 0} → ℕ → Connections L → Type 0
HoldsNoReplies {L} place m = (c : Connection L) → HoldsConnectionAt m place c →
    c.phase ≡ phases.Serving →
    waiting_in c.exchange ≡ []

-- the connection at this place, if there is one, may have bytes again, or room
abbrev pub WakesAt : {L : Type 0} → ℕ → Bool → Bool → Connections L → Connections L → Type 0
WakesAt {L} place bytes room m m' = (c : Connection L) → HoldsConnectionAt m place c →
    (c' : Connection L) × HoldsConnectionAt m' place c' × Wakes bytes room c c'

-- The connection that is over, if one is, is no longer at this place. It wasn't ended as silent.
-- One that was served ended at a bad frame only if that was cut off, since after every other bad
-- frame it is drained first; and one that was drained ended once nothing more came.
pub record ClosesAt {L : Type 0} (G : LinkGhosts L) (place : ℕ) (closed : Option (Closed L))
    (m m' : Connections L) : Type 0 where
  pub left : IfSome closed (λ x. IsEmpty place m')
  pub no_silence : IfSome closed (λ x. IsNoSilence x.end)
  pub served : (c : Connection L) → HoldsConnectionAt m place c → c.phase ≡ phases.Serving →
      IfSome closed (λ x. EndsServed x.end)
  pub heard : (c : Connection L) (fault : WireFault) → HoldsConnectionAt m place c →
      c.phase ≡ phases.Draining fault → IfSome closed (λ x. EndsDrained G fault x.link x.end)
  -- what left over its link had waited before the quantum
  pub leaves : (c : Connection L) → HoldsConnectionAt m place c →
      IfSome closed (λ x. LeavesOf G (waiting_in c.exchange) c.link x.link)

-- At this time the server answered this many frames of the connection at this place, which may be
-- over after them. It is over, or drained, once its stream has ended and all replies are sent.
pub record WorksAt {L S : Type 0} (G : LinkGhosts L) (answers : S → Frame → List Reply → S → Type 0)
    (place now : ℕ) (closed : Option (Closed L)) (m m' : Connections L) (s s' : S) : Type 0 where
  pub number : ℕ
  pub answered : List Answered
  pub by_server : AnswersAll answers s answered s'
  pub most : length answered ≤ quantum
  pub is_its : (c : Connection L) → HoldsConnectionAt m place c → c.number ≡ number
  pub ends_its : EndsIts G place closed m
  pub existed : ExistedUnder G place m m'
  -- at a free place nothing is answered, and no connection is over
  pub nobody : IsEmpty place m → (answered ≡ []) × (closed ≡ None)
  pub adds : Adds G m (tagged number answered) (those closed) m'
  pub others : StaysAt place m m'
  pub unended : (c : Connection L) → HoldsConnectionAt m' place c → IsOpen c
  -- it is quiet since this quantum if frames were answered, or its stream ended
  pub since : (c c' : Connection L) → HoldsConnectionAt m place c → HoldsConnectionAt m' place c' →
      c'.since ≡ quiet_since now c.since c.phase c'.phase
      (is_heard answered (has_just_ended (end_of c.exchange) (end_of c'.exchange)))
  -- one that continues was read from and sent to where that was possible, and fewer frames than a
  -- quantum were answered only if its exchange had to wait
  pub moved : (c c' : Connection L) → HoldsConnectionAt m place c → HoldsConnectionAt m' place c' →
      c.phase ≡ phases.Serving → Moved G c answered c'
  -- what left had waited before it
  pub leaves : (c c' : Connection L) → HoldsConnectionAt m place c → HoldsConnectionAt m' place c' →
      LeavesOf G (waiting_in c.exchange) c.link c'.link
  pub lets_go : (c c' : Connection L) (fault : WireFault) → HoldsConnectionAt m place c →
      HoldsConnectionAt m' place c' → c.phase ≡ phases.Draining fault → DropsSent G c c'
  -- that there are no bytes, or no room, is known from its link alone
  pub learns : (c c' : Connection L) → HoldsConnectionAt m place c → HoldsConnectionAt m' place c' →
      Learns G c c'
  -- and where it is drained after it, the peer was informed that no more will be sent
  pub finished : (c c' : Connection L) → HoldsConnectionAt m place c → HoldsConnectionAt m' place c' →
      IsFinished G c → IsFinished G c'
  pub closes : ClosesAt G place closed m m'
