-- What a server does that was opened, by how it serves.
use Rattle.std.specs.Prelude.{◌≡◌, ◌⊎◌, Result, ℕ, List}
use Rattle.bw_model.specs.Wire.{Frame}
use Rattle.bw_model.specs.Replies.{Reply}
use Rattle.bw_stream.specs.declared.sink.Sink.{Ghosts as Writer}
use Rattle.bw_stream.specs.declared.source.Source.{Ghosts as Reader}
use Rattle.bw_exchange.specs.AnsweredFrames.{Answered, AnswersAll}
use Rattle.bw_exchange.specs.declared.turns.NotKept.{NotKept}
use Rattle.bw_console.specs.Prints.{HasPrinted}
use Rattle.bw_console.specs.declared.exit.Exit.{Exit}
use Rattle.bw_ports.specs.declared.link.Link.{Ghosts as LinkGhosts}
use Rattle.bw_ports.specs.declared.listener_setup.ListenerSetup.{Ghosts as ListenerSetupGhosts}
use Rattle.bw_ports.specs.declared.network.Network.{Ghosts as NetworkGhosts}
use Rattle.bw_ports.specs.declared.peers.Peers.{Ghosts as PeerGhosts}
use Rattle.bw_ports.specs.declared.reactor.Reactor.{Ghosts as ReactorGhosts}
use Rattle.bw_serve.specs.Beginnings.{AsksOutside, IsUnprinted, ReportsUnbound, peer_calls, reactor_calls}
use Rattle.bw_serve.specs.EventLoopRuns.{RunsEventLoop, answered_in_loop}
use Rattle.bw_serve.specs.Guards.{FromPeer, Guarded, GuardedOverCommits, guarded_answers}
use Rattle.bw_serve.specs.Openings.{opening_lines}
use Rattle.bw_serve.specs.ServedAll.{ServesRun, answered_in_run}
use Rattle.bw_serve.specs.ServerReports.{ReportsExit}
use Rattle.bw_serve.specs.declared.hosting.Hosting.{Hosting}
use Rattle.bw_serve.specs.declared.hosting_in_turn.Serving.{Serving}
use Rattle.bw_serve.specs.declared.opening.OpenedServer.{OpenedServer}

-- A way to serve: what a run is that ends so, of a server over what recorders come by, and what the
-- server answered in it.
pub record WayToServe (T R O E : Type 0) : Type 1 where
  pub runs : Exit → T → T → R → R → O → O → E → E → Type 0
  pub answered : (ended : Exit) (t t' : T) (r r' : R) (o o' : O) (e e' : E) →
      runs ended t t' r r' o o' e e' → List Answered

module _ {T R O E : Type 0} (way : WayToServe T R O E) (answers : T → Frame → List Reply → T → Type 0)
    (out : Writer O) (reported : Writer E) where
  -- After these lines the server ran until the run ended so, which is reported; it answered the
  -- frames of the run, one after another.
  pub record HasServedTo (lines : List ℕ) (exit : Exit) (t : T) (r r' : R) (o o' : O)
      (e e' : E) : Type 0 where
    pub following : T
    pub between : O
    pub opens : HasPrinted out lines o between
    pub ended : Exit
    pub logged : E
    pub run : way.runs ended t following r r' between o' e logged
    pub answers_all : AnswersAll answers t (way.answered ended t following r r' between o' e logged run)
        following
    pub reports : ReportsExit reported ended exit logged e'

  -- it did, or the lines aren't printed, and nobody is served
  abbrev pub ServesInWay : List ℕ → Exit → T → R → O → O → E → E → Type 0
  ServesInWay lines exit t r o o' e e' = ((r' : R) × HasServedTo lines exit t r r' o o' e e')
      ⊎ IsUnprinted out reported lines exit o o' e e'

module _ {T P R W O E : Type 0} (answers : T → Frame → List Reply → T → Type 0)
    (committed : T → Type 0) (commits : T → Result (Unit {0}) NotKept → T → Type 0)
    (peers : PeerGhosts P R W) (reader : Reader R) (writer : Writer W) (out : Writer O)
    (reported : Writer E) where
  -- one recorder after another, whose frames are guarded by the list
  abbrev pub in_turn : Serving → WayToServe T P O E
  in_turn serving = record {
    runs = λ ended t t' p p' o o' e e'. ServesRun
        (GuardedOverCommits answers committed serving.allow.now) commits peers reader writer out
        reported serving.log serving.exchanges ended t t' p p' o o' e e';
    answered = answered_in_run (GuardedOverCommits answers committed serving.allow.now) commits peers
        reader writer out reported serving.log serving.exchanges;
  }

  -- the peers are asked for, and served so by the server that was opened
  abbrev pub ServesInTurn : {N X D A B : Type 0} → NetworkGhosts N X P D R W A B → Serving →
      OpenedServer T → Exit → N → N → O → O → E → E → Type 0
  ServesInTurn network serving opened exit n n' o o' e e' =
      AsksOutside (peer_calls network serving) (ReportsUnbound reported serving.address)
      (λ p between. (n' ≡ between) × ServesInWay (in_turn serving)
      (FromPeer (GuardedOverCommits answers committed serving.allow.now)) out reported
      (opening_lines opened.takes serving.address) exit opened.server p o o' e e') exit n n' o o' e e'

module _ {T B L O E : Type 0} (answers : T → Frame → List Reply → T → Type 0)
    (commits : T → Result (Unit {0}) NotKept → T → Type 0)
    (reactor : ReactorGhosts B L) (link : LinkGhosts L) (out : Writer O) (reported : Writer E) where
  -- many recorders at once, whose frames are guarded by the list
  abbrev pub at_once : Hosting → WayToServe T B O E
  at_once hosting = record {
    runs = λ ended t t' b b' o o' e e'. RunsEventLoop reactor link
        (guarded_answers answers hosting.allow.now) commits out reported hosting.log hosting.bounds ended t t'
        b b' o o' e e';
    answered = answered_in_loop reactor link (guarded_answers answers hosting.allow.now) commits out reported
        hosting.log hosting.bounds;
  }

  -- the reactor is asked for, and those who come are served so by the server that was opened
  abbrev pub ServesAtOnce : {N : Type 0} → ListenerSetupGhosts N B L → Hosting → OpenedServer T →
      Exit → N → N → O → O → E → E → Type 0
  ServesAtOnce setup hosting opened exit n n' o o' e e' =
      AsksOutside (reactor_calls setup hosting) (ReportsUnbound reported hosting.address)
      (λ b between. (n' ≡ between) × ServesInWay (at_once hosting)
      (FromPeer (Guarded answers hosting.allow.now)) out reported
      (opening_lines opened.takes hosting.address) exit opened.server b o o' e e') exit n n' o o' e e'
