-- What many connections amount to in bytes: those that each link gave and took.
use Rattle.std.specs.Prelude.{◌≡◌, ◌≢◌, ◌⊎◌, ℕ, ◌<◌, ◌≤◌, Option, Some, None, IfSome, IsTrue}
use Rattle.std.specs.Prelude.{List, [], ◌++◌, length}
use Rattle.std.specs.List.{AllByRecursion, list_all}
use Rattle.bw_model.specs.Wire.{Second}
use Rattle.bw_model.specs.Replies.{is_reply}
use Rattle.bw_model.specs.Stream.{End, EndOfInput, SaidBye, BadFrame, stream_of}
use Rattle.bw_model.specs.Exchange.{replies_bytes}
use Rattle.bw_wire.specs.Held.{longest_stream}
use Rattle.bw_wire.specs.Reasons.{reason_meaning}
use Rattle.bw_exchange.specs.declared.serving.ExchangeEnd.TheVariants as ends
use Rattle.bw_exchange.specs.AnsweredFrames.{Answered, answered_frames, replies_of}
use Rattle.bw_exchange.specs.Done.{AreFirstOf, last_of}
use Rattle.bw_exchange.specs.Ends.{IsFinal}
use Rattle.bw_exchange.specs.WholeExchanges.{LacksMemory}
use Rattle.bw_connections.specs.declared.connection.Connection.{Connection}
use Rattle.bw_connections.specs.declared.connection.ConnectionEnd.{ConnectionEnd}
use Rattle.bw_connections.specs.declared.connection.ConnectionEnd.TheVariants.{Over, Idle}
use Rattle.bw_ports.specs.declared.link.Link.{Ghosts as LinkGhosts}
use Rattle.bw_connections.specs.declared.connections.Closed.{Closed}
use Rattle.bw_connections.specs.declared.connections.Connections.{Connections}
use Rattle.bw_exchange.specs.Parts.{waiting_in}
use Rattle.bw_connections.specs.Lives.{EndsWithFault, LeavesOf, Lives, ReportsFinish}
use Rattle.bw_connections.specs.ConnectionTables.{Tagged, AreApart, IsAmong, KeepsConnections}
use Rattle.bw_connections.specs.ConnectionTables.{HoldsConnection, HoldsConnectionAt, own}

-- all whole frames that came are answered and their replies sent, and the stream has not ended
pub record IsUpTo (stream_end : Option End) (answered : List Answered) (input unsent : List ℕ)
    : Type 0 where
  pub all_sent : unsent ≡ []
  pub going : stream_end ≡ None
  pub frames : (stream_of Second input).0 ≡ answered_frames answered
  pub unended : IsFinal (stream_of Second input).1 → ⊥

module _ {L : Type 0} (G : LinkGhosts L) where
  -- A link gave these bytes and took those: the answered frames are the first of what it gave, and
  -- what it took, with what is still unsent, is exactly their replies.
  pub record Exchanged (link : L) (stream_end : Option End) (answered : List Answered)
      (input output unsent : List ℕ) : Type 0 where
    pub given : G.given link input
    pub taken : G.taken link output
    pub prefix : AreFirstOf (answered_frames answered) input
    -- they are all of them where the stream has ended
    pub whole : IfSome stream_end (λ x. stream_of Second input ≡ (answered_frames answered, x))
    pub replies : output ++ unsent ≡ replies_bytes (replies_of answered ++ last_of stream_end)
    pub spelled : IsTrue (list_all is_reply (replies_of answered ++ last_of stream_end))

  -- the stream has ended so, which no more bytes can change, or there are no more; all is sent
  abbrev pub ConnectionReachesEnd : L → Option End → List ℕ → End → Type 0
  ConnectionReachesEnd link stream_end unsent end =
      (stream_end ≡ Some end) × (unsent ≡ []) × (IsFinal end ⊎ G.ended link)

  -- what an end of a connection reports
  abbrev pub ConnectionReportsEnd : ConnectionEnd → L → Option End → List Answered → List ℕ →
      List ℕ → Type 0
  ConnectionReportsEnd (Over ends.Bye) link stream_end answered input unsent =
      ConnectionReachesEnd link stream_end unsent SaidBye
  ConnectionReportsEnd (Over ends.EndOfInput) link stream_end answered input unsent =
      ConnectionReachesEnd link stream_end unsent EndOfInput
  ConnectionReportsEnd (Over (ends.BadFrame fault)) link stream_end answered input unsent =
      ConnectionReachesEnd link stream_end unsent (BadFrame (reason_meaning fault.reason) fault.offset)
  ConnectionReportsEnd (Over ends.ReadFault) link stream_end answered input unsent =
      IsUpTo stream_end answered input unsent
  ConnectionReportsEnd (Over ends.WriteFault) link stream_end answered input unsent = 1 ≤ length unsent
  ConnectionReportsEnd (Over (ends.NotKept cause)) link stream_end answered input unsent = 1 ≤ length unsent
  ConnectionReportsEnd (Over ends.TurnLimit) link stream_end answered input unsent =
      (stream_end ≡ None) × (unsent ≡ []) × (longest_stream < length input)
  ConnectionReportsEnd (Over ends.Memory) link stream_end answered input unsent =
      (stream_end ≡ None) × (unsent ≡ []) × LacksMemory answered input
  ConnectionReportsEnd Idle link stream_end answered input unsent = Unit {0}

  -- a connection over this link, so far
  pub record ServesConnection (link : L) (answered : List Answered) : Type 0 where
    pub stream_end : Option End
    pub input : List ℕ
    pub output : List ℕ
    pub unsent : List ℕ
    pub exchanged : Exchanged link stream_end answered input output unsent

  -- a connection over this link, which ended so
  pub record EndsLink (end : ConnectionEnd) (link : L) (answered : List Answered) : Type 0 where
    pub serves : ServesConnection link answered
    pub reports : ConnectionReportsEnd end link serves.stream_end answered serves.input serves.unsent
    pub fault : EndsWithFault end (G.broken link)
    -- at a bad frame that was more than cut off the peer was informed that no more will be sent
    pub finished : ReportsFinish end (G.finished link)

  -- Whatever came between them, the frames of each connection are those of its own link, and what
  -- that took is exactly their replies.
  pub record ServesEachConnection (m : Connections L) (over : List (Closed L)) (trace : List Tagged)
      : Type 0 where
    pub each : (n : ℕ) → n < m.next → HoldsConnection m n ⊎ IsAmong n over
    pub stands : (i : ℕ) (c : Connection L) → HoldsConnectionAt m i c →
        ServesConnection c.link (own c.number trace)
    pub ended : AllByRecursion (λ x. EndsLink x.end x.link (own x.number trace)) over
    -- each that is over was begun, is reported once, and is no longer there
    pub begun : AllByRecursion (λ x. x.number < m.next) over
    pub once : AreApart over
    pub away : AllByRecursion
        (λ x. (i : ℕ) (c : Connection L) → HoldsConnectionAt m i c → c.number ≢ x.number) over
    pub none : (n : ℕ) → m.next ≤ n → own n trace ≡ []

  abbrev pub EachIsServed : Type 0
  EachIsServed = (m : Connections L) (over : List (Closed L)) (trace : List Tagged) →
      KeepsConnections G m over trace → ServesEachConnection m over trace

  -- What left over a link is a prefix of the replies to committed frames, and of the one to a bad
  -- frame after all of them, which is of no frame that a server answered.
  pub record LeavesCommitted (link : L) (committed : List Answered) : Type 0 where
    pub stream_end : Option End
    pub output : List ℕ
    pub taken : G.taken link output
    pub unsent : List ℕ
    pub replies : output ++ unsent ≡ replies_bytes (replies_of committed ++ last_of stream_end)

  -- If all frames of a connection that were answered before a quantum are committed, then only
  -- replies to committed frames leave in it, however it ends.
  abbrev pub QuantaLeaveCommitted : Type 0
  QuantaLeaveCommitted = (c : Connection L) (committed : List Answered) (link : L) →
      Lives G c committed → LeavesOf G (waiting_in c.exchange) c.link link →
      LeavesCommitted link committed
