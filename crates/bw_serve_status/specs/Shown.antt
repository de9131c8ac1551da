-- What the command `serve --status` does for many recorders at once.
use Rattle.std.specs.Prelude.{◌≡◌, Result, List, ℕ, Option}
use Rattle.std.specs.declared.io.Error.{Error as IoError}
use Rattle.bw_model.specs.Book.{Book}
use Rattle.bw_model.specs.Wire.{Frame}
use Rattle.bw_model.specs.Replies.{Reply}
use Rattle.bw_stream.specs.declared.sink.Sink.{Ghosts as Writer}
use Rattle.bw_exchange.specs.declared.turns.NotKept.{NotKept}
use Rattle.bw_console.specs.declared.exit.Exit.{Exit}
use Rattle.bw_ports.specs.declared.link.Link.{Ghosts as LinkGhosts}
use Rattle.bw_ports.specs.declared.listener_setup.ListenerSetup.{Ghosts as ListenerSetupGhosts}
use Rattle.bw_ports.specs.declared.reactor.Reactor.{Ghosts as ReactorGhosts}
use Rattle.bw_operators.specs.declared.port.StatusPort.{Ghosts as PortGhosts}
use Rattle.bw_operators.specs.declared.port.StatusSetup.{Ghosts as StatusGhosts}
use Rattle.bw_serve.specs.Beginnings.{AsksOutside, Calls, ReportsUnbound, counted_calls, reactor_calls}
use Rattle.bw_serve.specs.EventLoopRuns.{RunsEventLoop, answered_in_loop}
use Rattle.bw_serve.specs.Guards.{FromPeer, Guarded, guarded_answers}
use Rattle.bw_serve.specs.Hostings.{ServesInWay, WayToServe}
use Rattle.bw_serve.specs.Observations.{left_in_run}
use Rattle.bw_serve.specs.Openings.{opening_lines}
use Rattle.bw_serve.specs.declared.hosting.Hosting.{Hosting}
use Rattle.bw_serve.specs.declared.opening.OpenedServer.{OpenedServer}
use Rattle.bw_serve_status.specs.ShownRounds.{ShowsEachRound}
use Rattle.bw_serve_status.specs.declared.hosting.Showing.{Showing}

-- what a setup of ports for operators, these ports and their links say of themselves
pub record StatusSide (N B P K : Type 0) : Type 1 where
  pub setup : StatusGhosts N B P K
  pub port : PortGhosts P K
  pub link : LinkGhosts K

abbrev pub status_side : {N B P K : Type 0} → StatusGhosts N B P K → PortGhosts P K → LinkGhosts K →
    StatusSide N B P K
status_side setup port link = record { setup = setup; port = port; link = link }

-- the calls for a port for operators, beside this reactor
abbrev pub port_calls : {N B P K : Type 0} → StatusGhosts N B P K → Showing → B → Calls N P IoError
port_calls setup showing b =
    counted_calls setup.failures (λ n. setup.shows n b showing.status showing.hosting.folder.now)

module _ {T N B L O E P K : Type 0} (answers : T → Frame → List Reply → T → Type 0)
    (commits : T → Result (Unit {0}) NotKept → T → Type 0)
    (holds : T → (List ℕ → Option (List ℕ)) → Book → Type 0)
    (reactor : ReactorGhosts B L) (link : LinkGhosts L) (out : Writer O) (reported : Writer E)
    (side : StatusSide N B P K) where
  -- many recorders at once, while operators at this port are shown each round
  abbrev pub way_shown : Hosting → Option ℕ → P → WayToServe T B O E
  way_shown hosting takes opened_port = record {
    runs = λ ended t t' b b' o o' e e'. (run : RunsEventLoop reactor link
        (guarded_answers answers hosting.allow.now) commits out reported hosting.log hosting.bounds ended
        t t' b b' o
        o' e e')
        × ShowsEachRound answers holds hosting.allow.now side.port side.link opened_port takes t
        (left_in_run reactor link (guarded_answers answers hosting.allow.now) commits out reported hosting.log
        hosting.bounds ended t t' b b' o o' e e' run);
    answered = λ ended t t' b b' o o' e e' ran. answered_in_loop reactor link
        (guarded_answers answers hosting.allow.now) commits out reported hosting.log hosting.bounds ended
        t t' b b' o
        o' e e' ran.0;
  }

  -- the reactor is asked for, and a port for operators beside it, and then it is served so
  abbrev pub ServesShown : ListenerSetupGhosts N B L → Showing → OpenedServer T → Exit → N → N →
      O → O → E → E → Type 0
  ServesShown setup showing opened exit n n' o o' e e' =
      AsksOutside (reactor_calls setup showing.hosting) (ReportsUnbound reported showing.hosting.address)
      (λ b between. AsksOutside (port_calls side.setup showing b) (ReportsUnbound reported showing.status)
      (λ p after. (n' ≡ after) × ServesInWay (way_shown showing.hosting opened.takes p)
      (FromPeer (Guarded answers showing.hosting.allow.now)) out reported
      (opening_lines opened.takes showing.hosting.address) exit opened.server b o o' e e')
      exit between n' o o' e e') exit n n' o o' e e'
