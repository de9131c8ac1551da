-- The server's ends of its links, while it serves one after another.
use Rattle.std.specs.Prelude.{◌≡◌, Result, ℕ, Bool, suc, Some, List, [], ◌∷◌, ◌++◌, flat_map, length}
use Rattle.std.specs.List.{Contains}
use Rattle.std.specs.declared.net.socket_addr.SocketAddr.{SocketAddr}
use Rattle.bw_model.specs.Wire.{Frame}
use Rattle.bw_model.specs.Replies.{Reply}
use Rattle.bw_stream.specs.declared.sink.Sink.{Ghosts as Writer}
use Rattle.bw_stream.specs.declared.source.Source.{Ghosts as Reader}
use Rattle.bw_exchange.specs.AnsweredFrames.{Answered, AnswersAll}
use Rattle.bw_exchange.specs.declared.turns.NotKept.{NotKept}
use Rattle.bw_connections.specs.ConnectionTables.{Tagged, tagged, all_answered, own}
use Rattle.bw_console.specs.declared.exit.Exit.{Exit}
use Rattle.bw_console.specs.declared.exit.Exit.TheVariants.{Done}
use Rattle.bw_ports.specs.declared.peers.Peers.{Ghosts as PeerGhosts}
use Rattle.bw_serve.specs.Guards.{FromPeer}
use Rattle.bw_serve.specs.ServedAll.{ServedOutcome, Served, Gone, Closed, ServesNext, ServesEach}
use Rattle.bw_serve.specs.ServedAll.{EndsEarly, ServesRun}
use Rattle.bw_delivery.specs.Statement.{LinkBytes}
use Rattle.bw_end_to_end.specs.ServedLinks.{AnswersOver}
use Rattle.bw_end_to_end.specs.UsedLinks.{UsedLink}

-- An exchange of a run: its number, what was answered in it, and the link of its peer.
pub record ServedExchange (R W : Type 0) : Type 0 where
  pub number : ℕ
  pub answered : List Answered
  pub link : UsedLink R W

-- the frames of these exchanges, each with the number of its own
abbrev pub trace_of : {R W : Type 0} → List (ServedExchange R W) → List Tagged
trace_of exchanges = flat_map (λ x. tagged x.number x.answered) exchanges

-- The server's end of a link: it had these bytes to give; nothing was written to it before, and then
-- these bytes were.
pub record IsPeerEnd {R W : Type 0} (reader : Reader R) (writer : Writer W) (u : UsedLink R W)
    (l : LinkBytes) : Type 0 where
  pub unused : writer.written u.writer ≡ Some []
  pub received : reader.left u.reader ≡ Some l.received
  pub answered : writer.written u.writer_after ≡ Some l.answered

module _ {T P R W O E : Type 0} (answers : SocketAddr → T → Frame → List Reply → T → Type 0)
    (commits : T → Result (Unit {0}) NotKept → T → Type 0) (peers : PeerGhosts P R W)
    (reader : Reader R) (writer : Writer W) (out : Writer O) (reported : Writer E) (log : Bool) where
  -- the exchange of the next peer, if one came
  abbrev pub exchange_next : (index : ℕ) (x : ServedOutcome) (t t' : T) (p p' : P) (o o' : O)
      (e e' : E) →
      ServesNext answers commits peers reader writer out reported log index x t t' p p' o o' e e' →
      List (ServedExchange R W)
  exchange_next index (Served end exit) t t' p p' o o' e e' next = record {
    number = index;
    answered = next.served.served.serves.answered;
    link = record {
      reader = next.peer.link.reader;
      writer = next.peer.link.writer;
      writer_after = next.served.w';
    };
  } ∷ []
  exchange_next index Gone t t' p p' o o' e e' next = []
  exchange_next index Closed t t' p p' o o' e e' next = []

  -- those of these peers, one after another
  abbrev pub exchanges_each : (index : ℕ) (xs : List ServedOutcome) (t t' : T) (p p' : P) (o o' : O)
      (e e' : E) →
      ServesEach answers commits peers reader writer out reported log index xs t t' p p' o o' e e' →
      List (ServedExchange R W)
  exchanges_each index [] t t' p p' o o' e e' each = []
  exchanges_each index (x ∷ xs) t t' p p' o o' e e' each =
      exchange_next index x t each.0 p each.1 o each.2 e each.3 each.4
      ++ exchanges_each (suc index) xs each.0 t' each.1 p' each.2 o' each.3 e' each.6

  -- if one of them ended the run
  abbrev pub exchanges_early : (exchanges : ℕ) (exit : Exit) (t t' : T) (p p' : P) (o o' : O)
      (e e' : E) →
      EndsEarly answers commits peers reader writer out reported log exchanges exit t t' p p' o o' e e' →
      List (ServedExchange R W)
  exchanges_early exchanges exit t t' p p' o o' e e' run =
      exchanges_each 0 run.before t run.m p run.q o run.n e run.f run.each
      ++ exchange_next (length run.before) run.last run.m t' run.q p' run.n o' run.f e' run.next

  -- in a whole run
  abbrev pub exchanges_in_run : (exchanges : ℕ) (exit : Exit) (t t' : T) (p p' : P) (o o' : O)
      (e e' : E) →
      ServesRun answers commits peers reader writer out reported log exchanges exit t t' p p' o o' e e' →
      List (ServedExchange R W)
  exchanges_in_run exchanges Done t t' p p' o o' e e' run =
      exchanges_each 0 run.outcomes t t' p p' o o' e e' run.each
  exchanges_in_run exchanges exit t t' p p' o o' e e' run =
      exchanges_early exchanges exit t t' p p' o o' e e' run

  -- The server answered the frames of these exchanges, each as its peer's, and over its own link.
  pub record AnswersInTurn (exchanges : List (ServedExchange R W)) (t t' : T) : Type 0 where
    pub by_server : AnswersAll (FromPeer answers) t (all_answered (trace_of exchanges)) t'
    pub each : (x : ServedExchange R W) (l : LinkBytes) → Contains exchanges x →
        IsPeerEnd reader writer x.link l →
        AnswersOver (own x.number (trace_of exchanges)) l.received l.answered

  abbrev pub RunsAnswerInTurn : Type 0
  RunsAnswerInTurn = (exchanges : ℕ) (exit : Exit) (t t' : T) (p p' : P) (o o' : O) (e e' : E)
      (run : ServesRun answers commits peers reader writer out reported log exchanges exit t t' p p' o o'
      e e') →
      AnswersInTurn (exchanges_in_run exchanges exit t t' p p' o o' e e' run) t t'
