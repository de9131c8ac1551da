-- The log line of a link.
use Rattle.std.specs.Prelude.{◌≡◌, ◌⊎◌, ℕ, Bool, true, false, List, ◌++◌, flat_map, codes, decimal}
use Rattle.std.specs.Net.Text.{socket_text}
use Rattle.std.specs.declared.net.socket_addr.SocketAddr.{SocketAddr}
use Rattle.bw_stream.specs.declared.sink.Sink.{Ghosts as Writer}
use Rattle.bw_exchange.specs.declared.serving.ExchangeEnd.{ExchangeEnd}
use Rattle.bw_console.specs.Prints.{Print, IsOf, IsPrint}
use Rattle.bw_console.specs.Text.{as_line}
use Rattle.bw_exchange.specs.EndNames.{name_of_end}
use Rattle.bw_exchange.specs.LinkCounts.{Counted}

-- a name after a blank
abbrev pub name_after : List ℕ → List ℕ
name_after name = codes " " ++ name

-- the peer's address, and its names
abbrev pub peer_text : SocketAddr → List (List ℕ) → List ℕ
peer_text peer names = codes "peer " ++ socket_text peer ++ codes " names" ++ flat_map name_after names

-- what the end is called, how many messages came, and their bytes, to the end of the line
abbrev pub counts_text : List ℕ → ℕ → ℕ → List ℕ
counts_text end messages bytes = as_line
    (codes " end " ++ end ++ codes " messages " ++ decimal messages ++ codes " bytes "
    ++ decimal bytes)

-- the line of a link to this peer, whose end is called so
abbrev pub peer_line : SocketAddr → List ℕ → Counted → List ℕ
peer_line peer end c = peer_text peer c.names ++ counts_text end c.messages c.bytes

-- the line of a link to this peer, whose exchange ended so
abbrev pub link_line : SocketAddr → ExchangeEnd → Counted → List ℕ
link_line peer end c = peer_line peer (name_of_end end) c

-- this line is logged if a log is asked for, unless memory is refused for it
abbrev pub Logs : {E : Type 0} → Writer E → Bool → List ℕ → E → E → Type 0
Logs reported false line e e' = e' ≡ e
Logs reported true line e e' = (e' ≡ e)
    ⊎ ((print : Print) × IsOf line print × IsPrint reported print e e')
