-- Connections that hold a whole frame, and what their next quantum makes of it.
use Rattle.std.specs.Prelude.{◌≡◌, ◌⊎◌, ℕ, ◌≤◌, true, Some, List, [], length}
use Rattle.bw_wire.specs.Framings.{is_decided}
use Rattle.bw_exchange.specs.declared.exchange.Exchange.{Exchange}
use Rattle.bw_exchange.specs.declared.step.StreamEnd.{StreamEnd}
use Rattle.bw_exchange.specs.AnsweredFrames.{Answered}
use Rattle.bw_exchange.specs.Ends.{IsFinal, end_meaning}
use Rattle.bw_exchange.specs.Parts.{end_of, pending_of, waiting_in}
use Rattle.bw_connections.specs.declared.connection.Connection.{Connection}
use Rattle.bw_connections.specs.declared.connection.Phase.TheVariants as phases
use Rattle.bw_ports.specs.declared.link.Link.{Ghosts as LinkGhosts}
use Rattle.bw_connections.specs.Lives.{Lives, Moved, has_just_ended, is_heard, quiet_since, silence_of}

-- it is served, no reply waits, and it holds a whole frame, or a length that no frame has
pub record HoldsFrame {L : Type 0} (c : Connection L) : Type 0 where
  pub serving : c.phase ≡ phases.Serving
  pub sent : waiting_in c.exchange ≡ []
  pub whole : is_decided (pending_of c.exchange).bytes ≡ true

-- frames of it were answered at this time, so it isn't quiet then
pub record IsHeard {L : Type 0} (now : ℕ) (answered : List Answered) (c : Connection L)
    : Type 0 where
  pub some : 1 ≤ length answered
  pub silence : silence_of now c ≡ 0

-- its stream has ended, whatever would follow: at BYE, or a bad frame
pub record HasFinalEnd (e : Exchange) : Type 0 where
  pub end : StreamEnd
  pub is : end_of e ≡ Some end
  pub final : IsFinal (end_meaning end)

-- While a connection holds a frame it isn't quiet; and in its next quantum, at some time, it is
-- heard, or its stream ends before it reads.
abbrev pub HeldFramesAreHeard : {L : Type 0} → LinkGhosts L → Type 0
HeldFramesAreHeard {L} G = (now : ℕ) (c c' : Connection L) (before answered : List Answered) →
    Lives G c before → HoldsFrame c → (moved : Moved G c answered c') →
    c'.since ≡ quiet_since now c.since c.phase c'.phase
    (is_heard answered (has_just_ended (end_of c.exchange) (end_of c'.exchange))) →
    ((time : ℕ) → silence_of time c ≡ 0) × (IsHeard now answered c' ⊎ HasFinalEnd moved.between)
