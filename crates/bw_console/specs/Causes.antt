-- Why links fail, by the kinds of the system's errors.
use Rattle.std.specs.declared.io.ErrorKind.{ErrorKind}
use Rattle.std.specs.declared.io.ErrorKind.TheVariants as kinds
use Rattle.bw_console.specs.declared.cause.LinkCause.{LinkCause}
use Rattle.bw_console.specs.declared.cause.LinkCause.TheVariants.{Refused, TimedOut, Unreachable}
use Rattle.bw_console.specs.declared.cause.LinkCause.TheVariants.{Closed, Other}

-- why a call failed, by the kind of its error
abbrev pub cause_by : ErrorKind → LinkCause
cause_by kinds.ConnectionRefused = Refused
cause_by kinds.TimedOut = TimedOut
cause_by kinds.WouldBlock = TimedOut
cause_by kinds.HostUnreachable = Unreachable
cause_by kinds.NetworkUnreachable = Unreachable
cause_by kinds.NetworkDown = Unreachable
cause_by kinds.ConnectionReset = Closed
cause_by kinds.ConnectionAborted = Closed
cause_by kinds.BrokenPipe = Closed
cause_by _ = Other
