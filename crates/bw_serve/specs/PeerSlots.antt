-- What is kept of the peers at places.
use Rattle.std.specs.Prelude.{◌≡◌, ℕ, Bool, Some, List, slice_get}
use Rattle.std.specs.declared.net.socket_addr.SocketAddr.{SocketAddr}
use Rattle.bw_stream.specs.declared.sink.Sink.{Ghosts as Writer}
use Rattle.bw_connections.specs.declared.connection.ConnectionEnd.{ConnectionEnd}
use Rattle.bw_connections.specs.ConnectionTables.{SetsPlace}
use Rattle.bw_exchange.specs.declared.link_stats.Metered.{Metered}
use Rattle.bw_exchange.specs.MeteredServers.{metered_server, metered_counts}
use Rattle.bw_serve.specs.LinkLines.{Logs, peer_line}
use Rattle.bw_serve.specs.Lines.{name_of_connection_end}
use Rattle.bw_serve.specs.declared.peer_slot.PeerSlot.{PeerSlot}

-- the peer at a place has this address
pub record HasAddressAt (place : ℕ) (peer_slots : List PeerSlot) (address : SocketAddr) : Type 0 where
  pub peer_slot : PeerSlot
  pub stands : slice_get peer_slots place ≡ Some peer_slot
  pub address_is : address ≡ peer_slot.address

-- the counts of the one at a place and of the server are in each other's place
pub record SwapsAt {T : Type 0} (place : ℕ) (xs ys : List PeerSlot) (t t' : Metered T) : Type 0 where
  pub peer_slot : PeerSlot
  pub was : slice_get xs place ≡ Some peer_slot
  pub peer_slot' : PeerSlot
  pub sets : SetsPlace xs place peer_slot' ys
  pub address : peer_slot'.address ≡ peer_slot.address
  pub link_stats : peer_slot'.link_stats ≡ metered_counts t
  pub given : metered_counts t' ≡ peer_slot.link_stats
  pub server : metered_server t' ≡ metered_server t

-- the peer at a place, whose exchange ended so, is logged if a log is asked for
pub record LogsAt {E : Type 0} (reported : Writer E) (log : Bool) (place : ℕ) (end : ConnectionEnd)
    (peer_slots : List PeerSlot) (e e' : E) : Type 0 where
  pub peer_slot : PeerSlot
  pub stands : slice_get peer_slots place ≡ Some peer_slot
  pub logs : Logs reported log
      (peer_line peer_slot.address (name_of_connection_end end) peer_slot.link_stats) e e'
