-- The lines of connections that ended.
use Rattle.std.specs.Prelude.{◌≡◌, ℕ, suc, Bool, List, [], ◌∷◌, codes}
use Rattle.std.specs.declared.net.socket_addr.SocketAddr.{SocketAddr}
use Rattle.bw_stream.specs.declared.sink.Sink.{Ghosts as Writer}
use Rattle.bw_exchange.specs.EndNames.{name_of_end}
use Rattle.bw_exchange.specs.AnsweredFrames.{answered_frames}
use Rattle.bw_console.specs.Prints.{Print, IsOf, IsPrint}
use Rattle.bw_connections.specs.declared.connection.ConnectionEnd.{ConnectionEnd}
use Rattle.bw_connections.specs.declared.connection.ConnectionEnd.TheVariants.{Over, Idle}
use Rattle.bw_ports.specs.declared.link.Link.{Ghosts as LinkGhosts}
use Rattle.bw_connections.specs.declared.connections.Closed.{Closed}
use Rattle.bw_connections.specs.ConnectionTables.{Tagged, own}
use Rattle.bw_exchange.specs.LinkCounts.{Counted, message_count, up_to_last}
use Rattle.bw_serve.specs.LinkLines.{Logs, peer_line}
use Rattle.bw_serve.specs.ServedOne.{ended_line}

-- what an end is called
abbrev pub name_of_connection_end : ConnectionEnd → List ℕ
name_of_connection_end (Over end) = name_of_end end
name_of_connection_end Idle = codes "Idle"

-- the line of the connection that ended as the one with this number
abbrev pub connection_line : ℕ → ConnectionEnd → List ℕ
connection_line index end = ended_line index (name_of_connection_end end)

-- the line of each of these was printed, one after another, the first with this number
abbrev pub ReportsEnds : {L O : Type 0} → Writer O → ℕ → List (Closed L) → O → O → Type 0
ReportsEnds out index [] o o' = o' ≡ o
ReportsEnds {L} {O} out index (x ∷ xs) o o' = (mid : O) × (print : Print)
    × IsOf (connection_line (up_to_last index) x.end) print × IsPrint out print o mid
    × ReportsEnds out (suc index) xs mid o'

-- what is counted of one connection's own part of these frames
abbrev pub counted_of : ℕ → List Tagged → Counted
counted_of number trace = message_count (answered_frames (own number trace))

-- If a log is asked for, the line of each of these connections was written, one after another, with
-- the address from which its link was called, its end and what is counted of its own frames, or
-- left out if memory was refused for it.
abbrev pub LogsEnds : {L E : Type 0} → LinkGhosts L → Writer E → Bool → List Tagged →
    List (Closed L) → E → E → Type 0
LogsEnds G reported log trace [] e e' = e' ≡ e
LogsEnds {L} {E} G reported log trace (x ∷ xs) e e' = (mid : E) × (peer : SocketAddr)
    × G.calls_from x.link peer
    × Logs reported log
    (peer_line peer (name_of_connection_end x.end) (counted_of x.number trace)) e mid
    × LogsEnds G reported log trace xs mid e'
