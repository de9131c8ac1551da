-- What a run of exchanges has answered, one frame after another.
use Rattle.std.proofs.Common.{ℕ, suc, Bool, List, [], ◌∷◌, length}
use Rattle.std.specs.Prelude.{Result}
use Rattle.std.specs.declared.net.socket_addr.SocketAddr.{SocketAddr}
use Rattle.bw_model.specs.Wire.{Frame}
use Rattle.bw_model.specs.Replies.{Reply}
use Rattle.bw_stream.specs.declared.sink.Sink.{Ghosts as Writer}
use Rattle.bw_stream.specs.declared.source.Source.{Ghosts as Reader}
use Rattle.bw_exchange.specs.declared.turns.NotKept.{NotKept}
use Rattle.bw_exchange.specs.AnsweredFrames.{AnswersAll}
use Rattle.bw_console.specs.declared.exit.Exit.{Exit}
use Rattle.bw_console.specs.declared.exit.Exit.TheVariants.{Done, Refused, Usage, Device, Memory}
use Rattle.bw_exchange.proofs.Going.{answers_append}
use Rattle.bw_serve.specs.ServedAll.{ServedOutcome, Served, Gone, Closed, ServesNext, ServesEach, EndsEarly, ServesRun}
use Rattle.bw_serve.specs.ServedAll.{answered_next, answered_each, answered_early, answered_in_run}
use Rattle.bw_ports.specs.declared.link.Link.{Ghosts as LinkGhosts}
use Rattle.bw_ports.specs.declared.peers.Peers.{Ghosts as PeerGhosts}
use Rattle.bw_ports.specs.declared.reactor.Reactor.{Ghosts as ReactorGhosts}
use Rattle.bw_serve.specs.EventLoopRuns.{RunsEventLoop, answered_in_loop}
use Rattle.bw_serve.specs.Guards.{FromPeer, PeerAnswers}
use Rattle.bw_serve.specs.declared.serving.Bounds.{Bounds}
use Rattle.bw_serve.proofs.Guarding.{from_peer}

module _ {T P R W O E : Type 0} (answers : SocketAddr → T → Frame → List Reply → T → Type 0)
    (commits : T → Result (Unit {0}) NotKept → T → Type 0) (peers : PeerGhosts P R W)
    (reader : Reader R) (writer : Writer W) (out : Writer O) (reported : Writer E) (log : Bool) where
  by_next : (index : ℕ) (x : ServedOutcome) (t t' : T) (p p' : P) (o o' : O) (e e' : E)
      (next : ServesNext answers commits peers reader writer out reported log index x t t' p p' o o' e e') →
      AnswersAll (FromPeer answers) t
      (answered_next answers commits peers reader writer out reported log index x t t' p p' o o' e e' next) t'
  by_next index (Served end exit) t t' p p' o o' e e' next =
      from_peer answers next.peer.address t next.served.served.serves.answered t' next.served.served.serves.by_server
  by_next index Gone t t' p p' o o' e e' next = next.server
  by_next index Closed t t' p p' o o' e e' next = next.server

  by_each : (index : ℕ) (xs : List ServedOutcome) (t t' : T) (p p' : P) (o o' : O) (e e' : E)
      (each : ServesEach answers commits peers reader writer out reported log index xs t t' p p' o o' e e') →
      AnswersAll (FromPeer answers) t
      (answered_each answers commits peers reader writer out reported log index xs t t' p p' o o' e e' each) t'
  by_each index [] t t' p p' o o' e e' each = each.0
  by_each index (x ∷ xs) t t' p p' o o' e e' each =
      answers_append (FromPeer answers)
      (answered_next answers commits peers reader writer out reported log index x t each.0 p each.1 o each.2 e each.3 each.4)
      (answered_each answers commits peers reader writer out reported log (suc index) xs each.0 t' each.1 p' each.2 o' each.3 e'
      each.6) t each.0 t' (by_next index x t each.0 p each.1 o each.2 e each.3 each.4)
      (by_each (suc index) xs each.0 t' each.1 p' each.2 o' each.3 e' each.6)

  by_early : (exchanges : ℕ) (exit : Exit) (t t' : T) (p p' : P) (o o' : O) (e e' : E)
      (run : EndsEarly answers commits peers reader writer out reported log exchanges exit t t' p p' o o' e e') →
      AnswersAll (FromPeer answers) t
      (answered_early answers commits peers reader writer out reported log exchanges exit t t' p p' o o' e e' run) t'
  by_early exchanges exit t t' p p' o o' e e' run =
      answers_append (FromPeer answers)
      (answered_each answers commits peers reader writer out reported log 0 run.before t run.m p run.q o run.n e run.f run.each)
      (answered_next answers commits peers reader writer out reported log (length run.before) run.last run.m t' run.q p' run.n o'
      run.f e' run.next) t run.m t' (by_each 0 run.before t run.m p run.q o run.n e run.f run.each)
      (by_next (length run.before) run.last run.m t' run.q p' run.n o' run.f e' run.next)

  -- the server has answered them so
  pub by_run : (exchanges : ℕ) (exit : Exit) (t t' : T) (p p' : P) (o o' : O) (e e' : E)
      (run : ServesRun answers commits peers reader writer out reported log exchanges exit t t' p p' o o' e e') →
      AnswersAll (FromPeer answers) t
      (answered_in_run answers commits peers reader writer out reported log exchanges exit t t' p p' o o' e e' run) t'
  by_run exchanges Done t t' p p' o o' e e' run = by_each 0 run.outcomes t t' p p' o o' e e' run.each
  by_run exchanges Refused t t' p p' o o' e e' run = by_early exchanges Refused t t' p p' o o' e e' run
  by_run exchanges Usage t t' p p' o o' e e' run = by_early exchanges Usage t t' p p' o o' e e' run
  by_run exchanges Device t t' p p' o o' e e' run = by_early exchanges Device t t' p p' o o' e e' run
  by_run exchanges Memory t t' p p' o o' e e' run = by_early exchanges Memory t t' p p' o o' e e' run

module _ {T B L O E : Type 0} (answers : PeerAnswers T)
    (commits : T → Result (Unit {0}) NotKept → T → Type 0) (reactor : ReactorGhosts B L)
    (link : LinkGhosts L) (out : Writer O) (reported : Writer E) (log : Bool) where
  -- the server has answered them so
  pub by_loop : (bounds : Bounds) (exit : Exit) (t t' : T) (b b' : B) (o o' : O) (e e' : E)
      (run : RunsEventLoop reactor link answers commits out reported log bounds exit t t' b b' o o' e e') →
      AnswersAll (FromPeer answers.by_peer) t
      (answered_in_loop reactor link answers commits out reported log bounds exit t t' b b' o o' e e' run) t'
  by_loop bounds Done t t' b b' o o' e e' run = run.by_server
  by_loop bounds Refused t t' b b' o o' e e' run = run.by_server
  by_loop bounds Usage t t' b b' o o' e e' run = run.by_server
  by_loop bounds Device t t' b b' o o' e e' run = run.by_server
  by_loop bounds Memory t t' b b' o o' e e' run = run.0
