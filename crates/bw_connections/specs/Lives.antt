-- What a connection has done so far, what a call adds to it, and what is left of one that is over.
use Rattle.std.specs.Prelude.{◌≡◌, ◌⊎◌, ℕ, ◌+◌, ◌-◌, ◌≤◌, ◌<◌, true, false, Bool, not, ◌||◌, ◌&&◌}
use Rattle.std.specs.Prelude.{Option, Some, None}
use Rattle.std.specs.Prelude.{Result, Ok, Err, IfErr, IfSome, IsTrue, OnOk, List, [], ◌∷◌, ◌++◌, length}
use Rattle.std.specs.Prelude.{nat_lt}
use Rattle.std.specs.Prelude.{if◌then◌else◌, is_some}
use Rattle.std.specs.declared.net.socket_addr.SocketAddr.{SocketAddr}
use Rattle.bw_model.specs.Wire.{Cut, Frame, are_bytes}
use Rattle.bw_model.specs.Replies.{Reply}
use Rattle.bw_wire.specs.Framings.{is_decided}
use Rattle.bw_wire.specs.Held.{longest_message_piece, longest_stream}
use Rattle.bw_wire.specs.Reasons.{reason_meaning}
use Rattle.bw_wire.specs.declared.fault.WireFault.{WireFault}
use Rattle.bw_exchange.specs.declared.exchange.Exchange.{Exchange}
use Rattle.bw_exchange.specs.declared.serving.ExchangeEnd.TheVariants as ends
use Rattle.bw_exchange.specs.declared.step.StreamEnd.{StreamEnd}
use Rattle.bw_exchange.specs.declared.step.StreamEnd.TheVariants as streams
use Rattle.bw_exchange.specs.AnsweredFrames.{Answered, AnswersAll}
use Rattle.bw_exchange.specs.Done.{DoesMore, HasDone, IsIdle, MustWait}
use Rattle.bw_exchange.specs.Ends.{IsFinal, end_so_far, end_meaning}
use Rattle.bw_exchange.specs.Parts.{wants_piece, end_of, waiting_in, pending_of}
use Rattle.bw_exchange.specs.WholeExchanges.{ended_by}
use Rattle.bw_connections.specs.declared.connection.Connection.{Connection}
use Rattle.bw_connections.specs.declared.connection.ConnectionEnd.{ConnectionEnd}
use Rattle.bw_connections.specs.declared.connection.ConnectionEnd.TheVariants.{Over, Idle}
use Rattle.bw_connections.specs.declared.connection.Phase.{Phase}
use Rattle.bw_connections.specs.declared.connection.Phase.TheVariants as phases
use Rattle.bw_ports.specs.declared.link.Link.{Ghosts as LinkGhosts}
use Rattle.bw_connections.specs.ConnectionFeeds.{fault_to_drain}

-- at most this many frames are answered in a quantum
abbrev pub quantum : ℕ
quantum = 64

-- after a bad frame a connection is drained for this many milliseconds
abbrev pub longest_drain : ℕ
longest_drain = 2000

-- Bytes that the link gave and the exchange was not fed: none while it is served; after a bad
-- frame, what still comes.
abbrev pub IsInPhase : Phase → Exchange → List ℕ → Type 0
IsInPhase phases.Serving e unread = unread ≡ []
IsInPhase (phases.Draining fault) e unread =
    (end_of e ≡ Some (streams.BadFrame fault)) × IsFinal (end_meaning (streams.BadFrame fault))
    × (waiting_in e ≡ [])

-- the exchange has ended with its stream, and all replies are sent
abbrev pub HasEnded : StreamEnd → Exchange → List ℕ → Type 0
HasEnded end e unread =
    (end_of e ≡ Some end) × (waiting_in e ≡ []) × ((unread ≡ []) ⊎ IsFinal (end_meaning end))

-- all whole frames are answered, and all replies are sent
abbrev pub IsUpToDate : Exchange → Type 0
IsUpToDate e = (wants_piece e ≡ true) × (waiting_in e ≡ [])

-- there are no bytes now, as its link reported
abbrev pub IsDry : {L : Type 0} → LinkGhosts L → Connection L → Type 0
IsDry G c = (c.readable ≡ false) × G.dry c.link

-- there is no room now, as its link reported
abbrev pub IsFull : {L : Type 0} → LinkGhosts L → Connection L → Type 0
IsFull G c = (c.writable ≡ false) × G.full c.link

-- whether there may be bytes, and room, is as before, unless the link reported that there are none,
-- or no room
pub record Learns {L : Type 0} (G : LinkGhosts L) (c c' : Connection L) : Type 0 where
  pub bytes : (c'.readable ≡ c.readable) ⊎ IsDry G c'
  pub room : (c'.writable ≡ c.writable) ⊎ IsFull G c'

-- what a link reported of bytes and room still holds
pub record StillReported {L : Type 0} (G : LinkGhosts L) (l l' : L) : Type 0 where
  pub dry : G.dry l → G.dry l'
  pub full : G.full l → G.full l'

-- the result of sending: some of the bytes that wait were taken, where there might be room, or the
-- link reported that there is none now
pub record SendsWaiting {L : Type 0} (G : LinkGhosts L) (c c' : Connection L) : Type 0 where
  pub bytes : List ℕ
  pub does : DoesMore c.exchange [] [] bytes c'.exchange
  -- just these are gone, from the prefix of those that waited
  pub left : waiting_in c.exchange ≡ bytes ++ waiting_in c'.exchange
  pub some : c.writable ≡ true → 1 ≤ length (waiting_in c.exchange) →
      (1 ≤ length bytes) ⊎ IsFull G c'
  pub wants_read : wants_piece c'.exchange ≡ wants_piece c.exchange
  pub ended : end_of c'.exchange ≡ end_of c.exchange
  pub room : (c'.writable ≡ c.writable) ⊎ IsFull G c'
  pub readable : c'.readable ≡ c.readable
  pub dry : G.dry c.link → G.dry c'.link

-- the result of reading: a piece was fed, where one is wanted and there might be bytes, or no more
-- will come, or the link reported that there are none now
pub record ReadsLink {L : Type 0} (G : LinkGhosts L) (c c' : Connection L) : Type 0 where
  pub piece : List ℕ
  pub most : length piece ≤ longest_message_piece
  pub does : DoesMore c.exchange piece [] [] c'.exchange
  pub some : c.readable ≡ true → IsUpToDate c.exchange →
      (1 ≤ length piece) ⊎ (is_some (end_of c'.exchange) ≡ true) ⊎ IsDry G c'
  pub reported : (c'.readable ≡ c.readable) ⊎ IsDry G c'
  -- while replies wait nothing is fed, and the exchange stays as it is
  pub held : 1 ≤ length (waiting_in c.exchange) → (piece ≡ []) × (c'.exchange ≡ c.exchange)
  pub writable : c'.writable ≡ c.writable
  pub full : G.full c.link → G.full c'.link

-- What left over a link: bytes from the start of these, which waited, and no others.
pub record LeavesOf {L : Type 0} (G : LinkGhosts L) (waiting : List ℕ) (l l' : L) : Type 0 where
  pub bytes : List ℕ
  pub left : List ℕ
  pub waited : waiting ≡ bytes ++ left
  pub taken : (ys : List ℕ) → G.taken l ys → G.taken l' (ys ++ bytes)

-- nothing left over a link
abbrev pub LeavesNone : {L : Type 0} → LinkGhosts L → L → L → Type 0
LeavesNone G l l' = (ys : List ℕ) → G.taken l ys → G.taken l' ys

-- What a quantum of one that is served moved: it sent, then these frames were answered, then it read.
pub record Moved {L : Type 0} (G : LinkGhosts L) (c : Connection L) (answered : List Answered)
    (c' : Connection L) : Type 0 where
  pub piece : List ℕ
  pub bytes : List ℕ
  pub left : List ℕ
  -- the bytes that went had waited before it: none of them is of a reply to these frames
  pub waited : waiting_in c.exchange ≡ bytes ++ left
  pub most : length piece ≤ longest_message_piece
  pub does : DoesMore c.exchange piece answered bytes c'.exchange
  pub reads : c.readable ≡ true → wants_piece c.exchange ≡ true → left ≡ [] →
      (1 ≤ length piece) ⊎ (is_some (end_of c'.exchange) ≡ true) ⊎ IsDry G c'
  -- while replies wait nothing is read
  pub held : 1 ≤ length left → piece ≡ []
  -- Fewer frames than a quantum were answered only if the exchange had to wait then, before that
  -- piece was fed.
  pub between : Exchange
  pub answers : DoesMore c.exchange [] answered bytes between
  pub feeds : DoesMore between piece [] [] c'.exchange
  pub waits : length answered < quantum → MustWait between
  -- some went where replies waited, if there might be room, or there is none now
  pub sends : c.writable ≡ true → 1 ≤ length (waiting_in c.exchange) → (1 ≤ length bytes)
      ⊎ IsFull G c'

-- the state of a connection's exchange if it ended so, and what it was not fed of what the link
-- gave
abbrev pub EndsAs : ConnectionEnd → Exchange → List ℕ → Type 0
EndsAs (Over ends.Bye) e unread = HasEnded streams.Bye e unread
EndsAs (Over ends.EndOfInput) e unread = HasEnded streams.EndOfInput e unread
EndsAs (Over (ends.BadFrame fault)) e unread = HasEnded (streams.BadFrame fault) e unread
EndsAs (Over ends.ReadFault) e unread = IsUpToDate e × (unread ≡ [])
EndsAs (Over ends.WriteFault) e unread = (1 ≤ length (waiting_in e)) × (unread ≡ [])
EndsAs (Over (ends.NotKept cause)) e unread = (1 ≤ length (waiting_in e)) × (unread ≡ [])
EndsAs (Over ends.TurnLimit) e unread = IsUpToDate e × IsTrue (are_bytes unread)
    × (longest_stream < (pending_of e).fed + length unread)
EndsAs (Over ends.Memory) e unread = IsUpToDate e × IsTrue (are_bytes unread)
    × (1 ≤ length unread) × (length unread ≤ longest_message_piece)
EndsAs Idle e unread = unread ≡ []

-- a connection that is served, and of which replies wait
pub record HoldsReplies {L : Type 0} (c : Connection L) : Type 0 where
  pub serving : c.phase ≡ phases.Serving
  pub some : 1 ≤ length (waiting_in c.exchange)

-- it holds of a connection that is drained
abbrev pub WhereDrained : Phase → Type 0 → Type 0
WhereDrained phases.Serving holds = Unit {0}
WhereDrained (phases.Draining fault) holds = holds

-- if it is drained its peer was informed that no more bytes will be sent
abbrev pub IsFinished : {L : Type 0} → LinkGhosts L → Connection L → Type 0
IsFinished G c = WhereDrained c.phase (G.finished c.link)

-- and at a bad frame that was more than cut off
abbrev pub ReportsFinish : ConnectionEnd → Type 0 → Type 0
ReportsFinish (Over (ends.BadFrame fault)) finished = (reason_meaning fault.reason ≡ Cut) ⊎ finished
ReportsFinish _ finished = Unit {0}

-- a fault is reported only of a link that failed
abbrev pub EndsWithFault : ConnectionEnd → Type 0 → Type 0
EndsWithFault (Over ends.ReadFault) broken = broken
EndsWithFault (Over ends.WriteFault) broken = broken
EndsWithFault _ broken = Unit {0}

-- the connection wasn't ended as silent
abbrev pub IsNoSilence : ConnectionEnd → Type 0
IsNoSilence Idle = ⊥
IsNoSilence (Over end) = Unit {0}

-- How a quantum ends a connection that is served: not as silent, and at a bad frame only if that
-- was cut off, since after every other bad frame the connection is drained first.
abbrev pub EndsServed : ConnectionEnd → Type 0
EndsServed (Over (ends.BadFrame fault)) = reason_meaning fault.reason ≡ Cut
EndsServed end = IsNoSilence end

-- what no call but `work` changes
pub record KeepsConnection {L : Type 0} (c c' : Connection L) : Type 0 where
  pub number : c'.number ≡ c.number
  pub phase : c'.phase ≡ c.phase
  pub since : c'.since ≡ c.since

-- the possible peer of a link stays the same
abbrev pub KeepsPeer : {L : Type 0} → LinkGhosts L → L → L → Type 0
KeepsPeer G l l' = (p : SocketAddr) → G.calls_from l p → G.calls_from l' p

-- whether a connection can proceed before its link has more bytes, or room
abbrev pub can_go_on : {L : Type 0} → Connection L → Bool
can_go_on c = goes c.phase (waiting_in c.exchange)
  where
    goes : Phase → List ℕ → Bool
    goes (phases.Draining fault) waiting = c.readable
    goes phases.Serving [] = c.readable || not (wants_piece c.exchange)
    goes phases.Serving (b ∷ bs) = c.writable

-- whether nothing can be done in this phase, by the bytes that wait, whether a piece is wanted, and
-- whether its link may have bytes
abbrev pub rests_by : Phase → List ℕ → Bool → Bool → Bool
rests_by (phases.Draining fault) waiting wants bytes = false
rests_by phases.Serving [] wants bytes = wants && not bytes
rests_by phases.Serving (b ∷ bs) wants bytes = false

-- whether it is served and nothing can be done now: nothing waits or is held, and its link has no
-- bytes
abbrev pub rests_now : {L : Type 0} → Connection L → Bool
rests_now c = rests_by c.phase (waiting_in c.exchange) (wants_piece c.exchange) c.readable

-- how long it is quiet, by its phase, the bytes that wait, whether it holds a whole frame, and how
-- long nothing was answered: not at all if the next quantum answers that frame
abbrev pub silence_by : Phase → List ℕ → Bool → ℕ → ℕ
silence_by phases.Serving [] true quiet = 0
silence_by phases.Serving [] false quiet = quiet
silence_by phases.Serving (b ∷ bs) whole quiet = quiet
silence_by (phases.Draining fault) waiting whole quiet = quiet

-- how long it is quiet at a time
abbrev pub silence_of : {L : Type 0} → ℕ → Connection L → ℕ
silence_of now c = silence_by c.phase (waiting_in c.exchange)
    (is_decided (pending_of c.exchange).bytes) (now - c.since)

-- how a connection that is quiet for so long ends, by its phase: where that is longer than this
-- many milliseconds, or it was drained for long enough
abbrev pub expired_by : Phase → ℕ → ℕ → Option ConnectionEnd
expired_by phases.Serving idle quiet = if nat_lt idle quiet then Some Idle else None
expired_by (phases.Draining fault) idle quiet =
    if nat_lt longest_drain quiet then Some (Over (ends.BadFrame fault)) else None

-- how it ends at a time
abbrev pub expired_at : {L : Type 0} → ℕ → ℕ → Connection L → Option ConnectionEnd
expired_at now idle c = expired_by c.phase idle (silence_of now c)

-- whether a stream that hadn't ended has ended
abbrev pub has_just_ended : Option StreamEnd → Option StreamEnd → Bool
has_just_ended was end = not (is_some was) && is_some end

-- whether frames were answered, or the stream ended
abbrev pub is_heard : List Answered → Bool → Bool
is_heard [] ended = ended
is_heard (a ∷ answered) ended = true

-- the time since which a connection is quiet: that of the quantum where it was heard in it, or its
-- draining began
abbrev pub quiet_since : ℕ → ℕ → Phase → Phase → Bool → ℕ
quiet_since now since phase phases.Serving false = since
quiet_since now since phase phases.Serving true = now
quiet_since now since phases.Serving (phases.Draining fault) heard = now
quiet_since now since (phases.Draining was) (phases.Draining fault) heard = since

-- it is served only until its stream has ended and all replies are sent
abbrev pub IsOpen : {L : Type 0} → Connection L → Type 0
IsOpen c = c.phase ≡ phases.Serving → waiting_in c.exchange ≡ [] → end_of c.exchange ≡ None

-- the stream's end is checked: if it has come and all replies are sent, the connection is over if
-- nothing may follow, or else drained; if it came while the stream was open the time is noted
abbrev pub Settles : {L : Type 0} → ℕ → Bool → Result (Unit {0}) ConnectionEnd → Connection L →
    Connection L → Type 0
Settles now was_open (Ok x) c c' = (c'.number ≡ c.number) × (c'.exchange ≡ c.exchange)
    × (c'.since ≡ quiet_since now c.since c.phase c'.phase (was_open && is_some (end_of c.exchange)))
    × IsOpen c'
    × (c'.readable ≡ c.readable) × (c'.writable ≡ c.writable)
Settles now was_open (Err end) c c' = (c'.number ≡ c.number)
    × ((x : StreamEnd) × (end_of c.exchange ≡ Some x) × (fault_to_drain x ≡ None)
    × (end ≡ Over (ended_by x)))

module _ {L : Type 0} (G : LinkGhosts L) where
  -- so far these frames of a connection were answered
  pub record Lives (c : Connection L) (answered : List Answered) : Type 0 where
    -- the bytes that its exchange was fed, those that were taken from it, and those that came and
    -- were discarded
    pub fed : List ℕ
    pub gone : List ℕ
    pub unread : List ℕ
    pub given : G.given c.link (fed ++ unread)
    pub taken : G.taken c.link gone
    pub done : HasDone fed answered gone c.exchange
    -- an end that more bytes could change is reported only if there are no more
    pub at_end : IfSome (end_so_far (end_of c.exchange)) (λ x. IsFinal x ⊎ G.ended c.link)
    pub by_phase : IsInPhase c.phase c.exchange unread
    pub finished : IsFinished G c

  -- a connection over this link ended so, and these are all of its frames that were answered
  pub record IsConnectionOver (end : ConnectionEnd) (link : L) (answered : List Answered) : Type 0 where
    pub exchange : Exchange
    pub fed : List ℕ
    pub gone : List ℕ
    pub unread : List ℕ
    pub given : G.given link (fed ++ unread)
    pub taken : G.taken link gone
    pub done : HasDone fed answered gone exchange
    pub at_end : IfSome (end_so_far (end_of exchange)) (λ x. IsFinal x ⊎ G.ended link)
    pub by_end : EndsAs end exchange unread
    pub fault : EndsWithFault end (G.broken link)
    pub finished : ReportsFinish end (G.finished link)

  -- how a quantum ends a connection that is drained: at its fault, once nothing more comes
  abbrev pub EndsDrained : WireFault → L → ConnectionEnd → Type 0
  EndsDrained fault link end = (end ≡ Over (ends.BadFrame fault)) × (G.ended link ⊎ G.broken link)

  -- a connection that is drained discarded some of what came, where there might be bytes, or the
  -- link reported that there are none now
  abbrev pub DropsSent : Connection L → Connection L → Type 0
  DropsSent c c' = c.readable ≡ true → ((piece : List ℕ) × (1 ≤ length piece)
      × ((xs : List ℕ) → G.given c.link xs → G.given c'.link (xs ++ piece)))
      ⊎ IsDry G c'

  -- frames more were answered, and it continues
  abbrev pub Steps : Connection L → List Answered → Connection L → Type 0
  Steps c answered c' = (before : List Answered) → Lives c before → Lives c' (before ++ answered)

  -- frames more were answered, and it continues, or is over
  abbrev pub Proceeds : Result (Unit {0}) ConnectionEnd → Connection L → List Answered →
      Connection L → Type 0
  Proceeds (Ok x) c answered c' = Steps c answered c'
  Proceeds (Err end) c answered c' =
      (before : List Answered) → Lives c before → IsConnectionOver end c'.link (before ++ answered)

  -- The server answered this many frames of a connection at this time, and fewer than a quantum
  -- only if the exchange must wait.
  pub record AnswersHeld {S : Type 0} (answers : S → Frame → List Reply → S → Type 0) (now : ℕ)
      (c c' : Connection L) (s s' : S) : Type 0 where
    pub answered : List Answered
    pub by_server : AnswersAll answers s answered s'
    pub most : length answered ≤ quantum
    pub steps : Steps c answered c'
    pub does : DoesMore c.exchange [] answered [] c'.exchange
    -- if nothing can be answered the exchange stays as it is
    pub idle : IsIdle c.exchange → c'.exchange ≡ c.exchange
    pub grows : length (waiting_in c.exchange) ≤ length (waiting_in c'.exchange)
    pub waits : length answered < quantum → MustWait c'.exchange
    pub link : c'.link ≡ c.link
    pub readable : c'.readable ≡ c.readable
    pub writable : c'.writable ≡ c.writable
    pub number : c'.number ≡ c.number
    pub phase : c'.phase ≡ c.phase
    pub since : c'.since ≡ quiet_since now c.since c.phase c.phase (is_heard answered false)

  -- A quantum of a connection, at this time: the server answered this many frames of it.
  pub record Works {S : Type 0} (answers : S → Frame → List Reply → S → Type 0) (now : ℕ)
      (result : Result (Unit {0}) ConnectionEnd) (c c' : Connection L) (s s' : S) : Type 0 where
    pub answered : List Answered
    pub by_server : AnswersAll answers s answered s'
    pub most : length answered ≤ quantum
    pub goes : Proceeds result c answered c'
    pub peer : KeepsPeer G c.link c'.link
    -- what left had waited before it
    pub leaves : LeavesOf G (waiting_in c.exchange) c.link c'.link
    pub number : c'.number ≡ c.number
    pub since : OnOk result (c'.since ≡ quiet_since now c.since c.phase c'.phase
        (is_heard answered (has_just_ended (end_of c.exchange) (end_of c'.exchange))))
    pub unended : OnOk result (IsOpen c')
    pub moved : c.phase ≡ phases.Serving → OnOk result (Moved G c answered c')
    pub lets_go : (fault : WireFault) → c.phase ≡ phases.Draining fault →
        OnOk result (DropsSent c c')
    pub learns : OnOk result (Learns G c c')
    -- if it is drained after it the peer was informed so, now or before
    pub finished : IsFinished G c → OnOk result (IsFinished G c')
    -- if it is over, it ends so
    pub no_silence : IfErr result IsNoSilence
    pub served : c.phase ≡ phases.Serving → IfErr result EndsServed
    pub heard : (fault : WireFault) → c.phase ≡ phases.Draining fault →
        IfErr result (EndsDrained fault c'.link)

-- a new connection
pub record BeginsConnection {L : Type 0} (link : L) (number now : ℕ) (c : Connection L) : Type 0 where
  pub over : c.link ≡ link
  pub under : c.number ≡ number
  pub fresh : HasDone [] [] [] c.exchange
  pub unended : end_of c.exchange ≡ None
  pub serving : c.phase ≡ phases.Serving
  pub goes : can_go_on c ≡ true
  pub since : c.since ≡ now
  -- there may be bytes, and room
  pub bytes : c.readable ≡ true
  pub room : c.writable ≡ true
