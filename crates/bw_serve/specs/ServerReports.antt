-- What a server says of where it listens, of a fault and of its end.
use Rattle.std.specs.Prelude.{◌≡◌, ◌⊎◌, ℕ, ◌++◌, List, codes}
use Rattle.std.specs.Net.Text.{socket_text}
use Rattle.std.specs.declared.io.ErrorKind.{ErrorKind}
use Rattle.std.specs.declared.net.socket_addr.SocketAddr.{SocketAddr}
use Rattle.bw_stream.specs.declared.sink.Sink.{Ghosts as Writer}
use Rattle.bw_console.specs.Outcomes.{Outcome, IsOutOfMemory}
use Rattle.bw_console.specs.Faults.{exit_on, input_fault_text}
use Rattle.bw_console.specs.FailedOpenings.{IsUnopened}
use Rattle.bw_console.specs.Prints.{IsOf, IsPrint, Print}
use Rattle.bw_console.specs.Text.{as_line}
use Rattle.bw_console.specs.declared.exit.Exit.{Exit}
use Rattle.bw_console.specs.declared.exit.Exit.TheVariants as exits
use Rattle.bw_console.specs.declared.fault.Fault.{Fault}
use Rattle.bw_console.specs.declared.fault.Fault.TheVariants as faults

-- this fault's line is reported, and the command ends so
pub record GivesUp {E : Type 0} (reported : Writer E) (fault : Fault) (exit : Exit) (e e' : E)
    : Type 0 where
  pub exit_is : exit ≡ exit_on fault
  pub print : Print
  pub line : IsOf (as_line (input_fault_text fault)) print
  pub reports : IsPrint reported print e e'

-- it is reported that what has this name can't be opened, for an error of this kind, and the
-- command ends so
pub record ReportsUnopened {E : Type 0} (reported : Writer E) (what : List ℕ) (kind : ErrorKind)
    (exit : Exit) (e e' : E) : Type 0 where
  pub did : Outcome
  pub ends : did.exit ≡ exit
  pub is : IsUnopened what kind did ⊎ IsOutOfMemory did
  pub reports : IsPrint reported did.faults e e'

-- the first line, after which peers may come
abbrev pub listening_line : SocketAddr → List ℕ
listening_line address = as_line (codes "listening " ++ socket_text address)

-- what is reported where no more peers are accepted
abbrev pub gone_line : List ℕ
gone_line = as_line (codes
    "the server can't go on: a sync failed, its folder is gone, or nothing can be waited for")

-- it is reported that no more peers are accepted
pub record ReportsGone {E : Type 0} (reported : Writer E) (exit : Exit) (e e' : E) : Type 0 where
  pub exit_is : exit ≡ exits.Device
  pub print : Print
  pub line : IsOf gone_line print
  pub reports : IsPrint reported print e e'

-- what is reported of a run that ended so, and how the command ends
abbrev pub ReportsExit : {E : Type 0} → Writer E → Exit → Exit → E → E → Type 0
ReportsExit reported exits.Done exit e e' = (exit ≡ exits.Done) × (e' ≡ e)
ReportsExit reported exits.Memory exit e e' = GivesUp reported faults.Memory exit e e'
ReportsExit reported _ exit e e' = ReportsGone reported exit e e'
