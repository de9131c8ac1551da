-- The result of feeding a piece to a connection's exchange, and how its stream's end is handled.
use Rattle.std.specs.Prelude.{◌≡◌, ◌⊎◌, ℕ, ◌+◌, ◌<◌, Option, Some, None, Result, Ok, Err, List, IsTrue}
use Rattle.std.specs.Prelude.{[], length}
use Rattle.bw_model.specs.Wire.{Reason, Cut, are_bytes}
use Rattle.bw_wire.specs.Held.{longest_stream}
use Rattle.bw_wire.specs.Reasons.{reason_meaning}
use Rattle.bw_wire.specs.declared.fault.WireFault.{WireFault}
use Rattle.bw_exchange.specs.declared.exchange.Exchange.{Exchange}
use Rattle.bw_exchange.specs.declared.serving.ExchangeEnd.TheVariants as ends
use Rattle.bw_exchange.specs.declared.step.StreamEnd.{StreamEnd}
use Rattle.bw_exchange.specs.declared.step.StreamEnd.TheVariants as streams
use Rattle.bw_exchange.specs.Done.{DoesMore}
use Rattle.bw_exchange.specs.Parts.{end_of, pending_of}
use Rattle.bw_connections.specs.declared.connection.ConnectionEnd.{ConnectionEnd}
use Rattle.bw_connections.specs.declared.connection.ConnectionEnd.TheVariants.{Over}

-- it is fed, or the connection ends: memory was refused, or the stream would be longer than any
abbrev pub Feeds : List ℕ → Result (Unit {0}) ConnectionEnd → Exchange → Exchange → Type 0
Feeds piece (Ok x) e e' = DoesMore e piece [] [] e' × (end_of e' ≡ end_of e)
Feeds piece (Err end) e e' = (e' ≡ e) × IsTrue (are_bytes piece)
    × ((end ≡ Over ends.Memory)
    ⊎ ((end ≡ Over ends.TurnLimit) × (longest_stream < (pending_of e).fed + length piece)))

-- a fault, unless the frame was only cut off
abbrev pub unless_cut : WireFault → Reason → Option WireFault
unless_cut fault Cut = None
unless_cut fault reason = Some fault

-- the fault after which more may come: no frame, whatever follows
abbrev pub fault_to_drain : StreamEnd → Option WireFault
fault_to_drain streams.Bye = None
fault_to_drain streams.EndOfInput = None
fault_to_drain (streams.BadFrame fault) = unless_cut fault (reason_meaning fault.reason)
