-- Addresses in words of the command line.
use Rattle.std.specs.Prelude.{◌≡◌, ℕ, ◌<◌, ◌++◌, Bool, false, codes, decimal}
use Rattle.clap.specs.Walk.{Text}
use Rattle.std.specs.declared.net.socket_addr.SocketAddr.{SocketAddr}
use Rattle.std.specs.Net.Grammar.{IsSocketText}
use Rattle.std.specs.Net.Socket.{socket_port}

-- the address of a port of this machine that no other one reaches, in its own spelling
abbrev pub local : ℕ → Text
local port = codes "127.0.0.1:" ++ decimal port

-- the text spells this address, which has a port; a local one, unless the network is allowed
pub record IsAddress (network : Bool) (text : Text) (address : SocketAddr) : Type 0 where
  pub spelled : IsSocketText text address
  pub port : 0 < socket_port address
  pub near : network ≡ false → text ≡ local (socket_port address)
