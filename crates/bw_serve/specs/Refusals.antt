-- What is reported of a server that isn't started.
use Rattle.std.specs.Prelude.{◌≡◌, ℕ, List, codes}
use Rattle.std.specs.IoError.{error_kind}
use Rattle.bw_stream.specs.declared.sink.Sink.{Ghosts as Writer}
use Rattle.bw_console.specs.Prints.{IsOf, IsPrint, Print}
use Rattle.bw_console.specs.Text.{as_line}
use Rattle.bw_console.specs.declared.exit.Exit.{Exit}
use Rattle.bw_console.specs.declared.exit.Exit.TheVariants as exits
use Rattle.bw_console.specs.declared.fault.Fault.TheVariants as faults
use Rattle.bw_ports.specs.declared.starts.StartRefusal.{StartRefusal}
use Rattle.bw_ports.specs.declared.starts.StartRefusal.TheVariants as refusals
use Rattle.bw_serve.specs.ServerReports.{GivesUp, ReportsUnopened}

-- what is reported where another server runs over the folder
abbrev pub running_line : List ℕ
running_line = as_line (codes "another server runs here")

-- what is reported where a file of the folder can't be read or written
abbrev pub broken_line : List ℕ
broken_line = as_line (codes "the server can't start: its folder can't be read or written")

-- this text is reported
pub record ReportsText {E : Type 0} (reported : Writer E) (text : List ℕ) (e e' : E) : Type 0 where
  pub print : Print
  pub line : IsOf text print
  pub reports : IsPrint reported print e e'

-- it is reported why no server was started over the folder, and the command ends so
abbrev pub ReportsRefusal : {E : Type 0} → Writer E → List ℕ → StartRefusal → Exit → E → E →
    Type 0
ReportsRefusal reported folder (refusals.Unfit lines) exit e e' =
    (exit ≡ exits.Refused) × ReportsText reported lines.items e e'
ReportsRefusal reported folder refusals.Running exit e e' =
    (exit ≡ exits.Device) × ReportsText reported running_line e e'
ReportsRefusal reported folder (refusals.Unusable error) exit e e' =
    ReportsUnopened reported folder (error_kind error) exit e e'
ReportsRefusal reported folder refusals.Device exit e e' =
    (exit ≡ exits.Device) × ReportsText reported broken_line e e'
ReportsRefusal reported folder refusals.Memory exit e e' = GivesUp reported faults.Memory exit e e'
