-- What is seen of this machine's network and of its terminal.
use Rattle.std.specs.Prelude.{ℕ, Bool, Option, is_some}
use Rattle.bw_net.specs.declared.lock.FolderLock.{FolderLock}
use Rattle.bw_machine.specs.declared.network.TcpNetwork.{TcpNetwork}
use Rattle.bw_machine.specs.declared.terminal.Terminal.{Terminal}

-- how many calls of the system failed, as the network counted them
abbrev pub network_failures : TcpNetwork → ℕ
network_failures n = n.failures

-- the lock of the folder over which it opened its latest server with journals
abbrev pub lock_kept : TcpNetwork → Option FolderLock
lock_kept n = n.lock

-- whether what is shown is seen
abbrev pub terminal_is_seen : Terminal → Bool
terminal_is_seen s = is_some s.screen
