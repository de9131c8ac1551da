-- The result of serving exchanges one after another.
use Rattle.std.specs.Prelude.{◌≡◌, ℕ, Bool, suc, Option, Some, None, Ok, Err, List, [], ◌∷◌, length}
use Rattle.std.specs.Prelude.{◌≤◌, ◌++◌, Result, true, false, if◌then◌else◌}
use Rattle.std.specs.declared.net.socket_addr.SocketAddr.{SocketAddr}
use Rattle.bw_model.specs.Wire.{Frame}
use Rattle.bw_model.specs.Replies.{Reply}
use Rattle.bw_stream.specs.Moves.{one_more}
use Rattle.bw_stream.specs.declared.sink.Sink.{Ghosts as Writer}
use Rattle.bw_stream.specs.declared.source.Source.{Ghosts as Reader}
use Rattle.bw_exchange.specs.AnsweredFrames.{Answered, answered_frames}
use Rattle.bw_exchange.specs.declared.serving.ExchangeEnd.{ExchangeEnd}
use Rattle.bw_exchange.specs.declared.serving.ExchangeEnd.TheVariants as ends
use Rattle.bw_exchange.specs.declared.turns.NotKept.{NotKept}
use Rattle.bw_exchange.specs.declared.turns.NotKept.TheVariants as kept
use Rattle.bw_exchange.specs.LinkCounts.{message_count}
use Rattle.bw_console.specs.declared.exit.Exit.{Exit}
use Rattle.bw_console.specs.declared.exit.Exit.TheVariants.{Done, Device, Memory}
use Rattle.bw_serve.specs.ServedOne.{ServesTo}
use Rattle.bw_serve.specs.LinkLines.{Logs, link_line}
use Rattle.bw_ports.specs.declared.peers.AcceptFault.{AcceptFault}
use Rattle.bw_ports.specs.declared.peers.AcceptFault.TheVariants as accepting
use Rattle.bw_ports.specs.declared.peers.Peer.{Peer}
use Rattle.bw_ports.specs.declared.peers.Peers.{Ghosts as PeerGhosts}

-- what happened to the next peer: its exchange was served and ended so, it went away, or no more
-- are accepted
pub data ServedOutcome : Type 0 where
  Served : ExchangeEnd → Exit → ServedOutcome
  Gone : ServedOutcome
  Closed : ServedOutcome

-- whether a sync failed in the commit at which an exchange ended so
abbrev pub lacks_sync : ExchangeEnd → Bool
lacks_sync (ends.NotKept kept.SyncFault) = true
lacks_sync end = false

-- how the run ends after a call that ends so, where it ends there
abbrev pub exit_after_call : Exit → Option Exit
exit_after_call Memory = Some Memory
exit_after_call exit = None

-- how the run ends after a peer, where it ends there
abbrev pub exit_now : ServedOutcome → Option Exit
exit_now (Served end exit) = if lacks_sync end then Some Device else exit_after_call exit
exit_now Gone = None
exit_now Closed = Some Device

module _ {T R W O E : Type 0} (answers : SocketAddr → T → Frame → List Reply → T → Type 0)
    (commits : T → Result (Unit {0}) NotKept → T → Type 0) (reader : Reader R) (writer : Writer W)
    (out : Writer O) (reported : Writer E) (log : Bool) where
  -- one exchange was served over a peer's link, and logged if that is asked for
  pub record ServesPeer (index : ℕ) (end : ExchangeEnd) (exit : Exit) (peer : Peer R W) (t t' : T)
      (o o' : O)
      (e e' : E) : Type 0 where
    pub r' : R
    pub w' : W
    pub served : ServesTo (answers peer.address) commits reader writer out index end exit t t'
        peer.link.reader r'
        peer.link.writer w' o o'
    pub logs : Logs reported log
        (link_line peer.address end (message_count (answered_frames served.serves.answered))) e e'

module _ {T P R W O E : Type 0} (answers : SocketAddr → T → Frame → List Reply → T → Type 0)
    (commits : T → Result (Unit {0}) NotKept → T → Type 0)
    (peers : PeerGhosts P R W) (reader : Reader R) (writer : Writer W) (out : Writer O)
    (reported : Writer E) (log : Bool) where
  -- a peer was accepted, and its exchange served, with this number
  pub record ServesLink (index : ℕ) (end : ExchangeEnd) (exit : Exit) (t t' : T) (p p' : P) (o o' : O)
      (e e' : E)
      : Type 0 where
    pub peer : Peer R W
    pub accepted : peers.accepts p (Ok peer) p'
    pub counted : peers.failures p' ≡ peers.failures p
    pub served : ServesPeer answers commits reader writer out reported log index end exit peer t t' o o' e e'

  -- no peer was accepted, for this reason: the server and what is written are as they were
  pub record ServesNone (fault : AcceptFault) (t t' : T) (p p' : P) (o o' : O) (e e' : E)
      : Type 0 where
    pub refused : peers.accepts p (Err fault) p'
    pub counted : peers.failures p' ≡ one_more (peers.failures p)
    pub server : t' ≡ t
    pub printed : o' ≡ o
    pub logged : e' ≡ e

  -- the next peer, by its result
  abbrev pub ServesNext : ℕ → ServedOutcome → T → T → P → P → O → O → E → E → Type 0
  ServesNext index (Served end exit) t t' p p' o o' e e' = ServesLink index end exit t t' p p' o o' e e'
  ServesNext index Gone t t' p p' o o' e e' = ServesNone accepting.Gone t t' p p' o o' e e'
  ServesNext index Closed t t' p p' o o' e e' = ServesNone accepting.Closed t t' p p' o o' e e'

  -- one peer after another, the first with this number, and none but the last ends the run
  abbrev pub ServesEach : ℕ → List ServedOutcome → T → T → P → P → O → O → E → E →
      Type 0
  ServesEach index [] t t' p p' o o' e e' = (t' ≡ t) × (p' ≡ p) × (o' ≡ o) × (e' ≡ e)
  ServesEach index (x ∷ xs) t t' p p' o o' e e' = (m : T) × (q : P) × (n : O) × (f : E)
      × ServesNext index x t m p q o n e f × (exit_now x ≡ None)
      × ServesEach (suc index) xs m t' q p' n o' f e'

  -- A run ended at one of its exchanges, as the last of these peers says; those before it ended
  -- nothing.
  pub record EndsEarly (exchanges : ℕ) (exit : Exit) (t t' : T) (p p' : P) (o o' : O) (e e' : E)
      : Type 0 where
    pub before : List ServedOutcome
    pub few : suc (length before) ≤ exchanges
    pub m : T
    pub q : P
    pub n : O
    pub f : E
    pub each : ServesEach 0 before t m p q o n e f
    pub last : ServedOutcome
    pub next : ServesNext (length before) last m t' q p' n o' f e'
    pub ends : exit_now last ≡ Some exit

  -- this many peers came, and none of them ended the run
  pub record ServesAll (exchanges : ℕ) (t t' : T) (p p' : P) (o o' : O) (e e' : E) : Type 0 where
    pub outcomes : List ServedOutcome
    pub all : length outcomes ≡ exchanges
    pub each : ServesEach 0 outcomes t t' p p' o o' e e'

  -- a run of this many exchanges: Done if none of them ended it
  abbrev pub ServesRun : ℕ → Exit → T → T → P → P → O → O → E → E → Type 0
  ServesRun exchanges Done t t' p p' o o' e e' = ServesAll exchanges t t' p p' o o' e e'
  ServesRun exchanges exit t t' p p' o o' e e' = EndsEarly exchanges exit t t' p p' o o' e e'

  -- what was answered of the next peer's frames
  abbrev pub answered_next : (index : ℕ) (x : ServedOutcome) (t t' : T) (p p' : P) (o o' : O) (e e' : E) →
      ServesNext index x t t' p p' o o' e e' → List Answered
  answered_next index (Served end exit) t t' p p' o o' e e' next = next.served.served.serves.answered
  answered_next index Gone t t' p p' o o' e e' next = []
  answered_next index Closed t t' p p' o o' e e' next = []

  -- of the frames of these peers, one after another
  abbrev pub answered_each : (index : ℕ) (xs : List ServedOutcome) (t t' : T) (p p' : P) (o o' : O)
      (e e' : E) → ServesEach index xs t t' p p' o o' e e' → List Answered
  answered_each index [] t t' p p' o o' e e' each = []
  answered_each index (x ∷ xs) t t' p p' o o' e e' each =
      answered_next index x t each.0 p each.1 o each.2 e each.3 each.4
      ++ answered_each (suc index) xs each.0 t' each.1 p' each.2 o' each.3 e' each.6

  -- if one of them ended the run
  abbrev pub answered_early : (exchanges : ℕ) (exit : Exit) (t t' : T) (p p' : P) (o o' : O)
      (e e' : E) → EndsEarly exchanges exit t t' p p' o o' e e' → List Answered
  answered_early exchanges exit t t' p p' o o' e e' run =
      answered_each 0 run.before t run.m p run.q o run.n e run.f run.each
      ++ answered_next (length run.before) run.last run.m t' run.q p' run.n o' run.f e' run.next

  -- in a whole run
  abbrev pub answered_in_run : (exchanges : ℕ) (exit : Exit) (t t' : T) (p p' : P) (o o' : O)
      (e e' : E) → ServesRun exchanges exit t t' p p' o o' e e' → List Answered
  answered_in_run exchanges Done t t' p p' o o' e e' run =
      answered_each 0 run.outcomes t t' p p' o o' e e' run.each
  answered_in_run exchanges exit t t' p p' o o' e e' run =
      answered_early exchanges exit t t' p p' o o' e e' run
