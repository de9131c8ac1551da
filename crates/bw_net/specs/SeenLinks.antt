-- What is seen of links over TCP.
use Rattle.std.specs.Prelude.{ℕ, ℤ, ◌++◌, Bool, false, List, Option, Some, None, String, codes}
use Rattle.std.specs.Prelude.{decimal, string_bytes, pos, ◌||◌}
use Rattle.std.specs.Ordering.{int_eq}
use Rattle.std.specs.declared.alloc.Global.{Global}
use Rattle.std.specs.declared.net.socket_addr.SocketAddr.{SocketAddr}
use Rattle.std.specs.declared.time.Duration.{Duration}
use Rattle.mio.specs.Events.{capacity}
use Rattle.bw_stream.specs.Shown.{std_flushed}
use Rattle.bw_net.specs.declared.line_sink.LineSink.{LineSink}
use Rattle.bw_net.specs.declared.reactor.TcpReactor.{TcpReactor}
use Rattle.bw_net.specs.declared.status.TcpStatusPort.{TcpStatusPort}
use Rattle.bw_net.specs.declared.tcp.TcpDial.{TcpDial}
use Rattle.bw_net.specs.declared.tcp.TcpPeers.{TcpPeers}

-- the address that a reactor listens at
abbrev pub reactor_address : TcpReactor → SocketAddr
reactor_address r = r.address

-- the folder without which nobody is accepted
abbrev pub reactor_folder : TcpReactor → String Global
reactor_folder r = r.folder

-- how many events it has room for
abbrev pub reactor_room : TcpReactor → ℕ
reactor_room r = capacity r.events

-- how many calls failed
abbrev pub reactor_failures : TcpReactor → ℕ
reactor_failures r = r.failures

-- how often it waited
abbrev pub reactor_waits : TcpReactor → ℕ
reactor_waits r = r.waits

-- the time that it reported last, in milliseconds
abbrev pub reactor_time : TcpReactor → ℕ
reactor_time r = r.now

-- for how long it was to wait at most, when it last waited
abbrev pub reactor_patience : TcpReactor → ℕ
reactor_patience r = r.patience

-- the address that a port for operators listens at
abbrev pub port_address : TcpStatusPort → SocketAddr
port_address p = p.address

-- the folder without which nobody is accepted
abbrev pub port_folder : TcpStatusPort → List ℕ
port_folder p = string_bytes p.folder

-- the time that it reported last
abbrev pub port_time : TcpStatusPort → ℕ
port_time p = p.now

-- when it was started
abbrev pub port_since : TcpStatusPort → ℕ
port_since p = p.since

-- the line that says how many lines were left out
abbrev pub left_out_text : ℕ → List ℕ
left_out_text count = codes "left out " ++ decimal count ++ codes " lines\n"

-- a call failed since the process, or the system, had no handle left
abbrev pub is_short_of_handles : Option ℤ → Bool
is_short_of_handles None = false
is_short_of_handles (Some code) = int_eq code (pos 24) || int_eq code (pos 23)

-- the address to which links are opened
abbrev pub dial_address : TcpDial → SocketAddr
dial_address d = d.address

-- after how long silence a call over one of them fails, if a time is given
abbrev pub dial_timeout : TcpDial → Option Duration
dial_timeout d = d.timeout

-- how many bytes a second go over one at most, if a rate is given
abbrev pub dial_rate : TcpDial → Option ℕ
dial_rate d = d.rate

-- how many calls failed
abbrev pub dial_failures : TcpDial → ℕ
dial_failures d = d.failures

module _ {W : Type 0} where
  -- how many calls failed, as a writer of lines counted them
  abbrev pub lines_failures : LineSink W → ℕ
  lines_failures s = s.failures

  -- whether it holds nothing back
  abbrev pub lines_flushed : LineSink W → Bool
  lines_flushed s = std_flushed s.inner

module _ {R L : Type 0} where
  -- the address that peers are accepted at
  abbrev pub peers_address : TcpPeers R L → SocketAddr
  peers_address p = p.address

  -- the folder without which nobody is accepted
  abbrev pub peers_folder : TcpPeers R L → String Global
  peers_folder p = p.folder

  -- after how long silence a call over a link fails, if a time is given
  abbrev pub peers_timeout : TcpPeers R L → Option Duration
  peers_timeout p = p.timeout

  -- how many calls failed
  abbrev pub peers_failures : TcpPeers R L → ℕ
  peers_failures p = p.failures
