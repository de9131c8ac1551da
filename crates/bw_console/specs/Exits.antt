-- The statuses of the program.
use Rattle.std.specs.Prelude.{ℕ}
use Rattle.bw_console.specs.declared.exit.Exit.{Exit}
use Rattle.bw_console.specs.declared.exit.Exit.TheVariants.{Done, Refused, Usage, Device, Memory}

-- the program's status at an exit
abbrev pub status_of : Exit → ℕ
status_of Done = 0
status_of Refused = 1
status_of Usage = 2
status_of Device = 3
status_of Memory = 4
