-- What answers of the system mean.
use Rattle.std.specs.Prelude.{ℕ, ◌==◌, ◌||◌, Bool, if◌then◌else◌, Result, Ok, Err}
use Rattle.std.specs.IoError.{error_kind}
use Rattle.std.specs.declared.io.Error.{Error as IoError}
use Rattle.std.specs.declared.io.ErrorKind.{ErrorKind}
use Rattle.std.specs.declared.io.ErrorKind.TheVariants as kinds
use Rattle.bw_ports.specs.declared.link.Received.{Received}
use Rattle.bw_ports.specs.declared.link.Received.TheVariants.{Bytes, Ended, Nothing, Failed}

-- what an error of this kind says of a link that never waits
abbrev pub received_at : ErrorKind → Received
received_at kinds.Interrupted = Nothing
received_at kinds.WouldBlock = Nothing
received_at _ = Failed

-- what a read of one says, for which there was room
abbrev pub received_by : Result ℕ IoError → Received
received_by (Ok count) = if count == 0 then Ended else Bytes count
received_by (Err error) = received_at (error_kind error)

-- whether something has ended, by what was known before and what was found
abbrev pub end_found : Bool → Result Bool IoError → Result Bool IoError
end_found before (Ok found) = Ok (before || found)
end_found before (Err error) = Err error
