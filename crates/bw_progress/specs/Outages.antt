-- Why nothing of an upload goes.
use Rattle.std.specs.Prelude.{ℕ, List, Option, Some, None, codes}
use Rattle.bw_console.specs.declared.cause.LinkCause.{LinkCause}
use Rattle.bw_console.specs.declared.cause.LinkCause.TheVariants as causes
use Rattle.bw_sender.specs.declared.send_fault.SendFault.TheVariants as faults
use Rattle.bw_sender.specs.declared.stop.Stop.{Stop}
use Rattle.bw_sender.specs.declared.stop.Stop.TheVariants as stops
use Rattle.bw_upload.specs.declared.observer.LinkEnd.{LinkEnd}
use Rattle.bw_upload.specs.declared.observer.LinkEnd.TheVariants as ends
use Rattle.bw_upload.specs.declared.observer.LinkEvent.{LinkEvent}
use Rattle.bw_upload.specs.declared.observer.LinkEvent.TheVariants.{Waits, Missed, Made, Left}
use Rattle.bw_progress.specs.declared.outage.Outage.{Outage}
use Rattle.bw_progress.specs.declared.outage.Outage.TheVariants.{Refused, Silent, Unreachable, NoLink}
use Rattle.bw_progress.specs.declared.outage.Outage.TheVariants.{Closed, Broken, BadReply, StoreFails}
use Rattle.bw_progress.specs.declared.outage.Outage.TheVariants.{TableFull, NoRoom, BadFrame}

-- the number of an outage
abbrev pub outage_number : Outage → ℕ
outage_number Refused = 1
outage_number Silent = 2
outage_number Unreachable = 3
outage_number NoLink = 4
outage_number Closed = 5
outage_number Broken = 6
outage_number BadReply = 7
outage_number StoreFails = 8
outage_number TableFull = 9
outage_number NoRoom = 10
outage_number BadFrame = 11

-- the line that reports it
abbrev pub outage_line : Outage → List ℕ
outage_line Refused = codes "send: connection refused\n"
outage_line Silent = codes "send: timed out: the server doesn't answer\n"
outage_line Unreachable = codes "send: the server can't be reached\n"
outage_line NoLink = codes "send: no connection can be made\n"
outage_line Closed = codes "send: the server closed the connection\n"
outage_line Broken = codes "send: the connection broke off\n"
outage_line BadReply = codes "send: what the server sent is no reply (BadReply)\n"
outage_line StoreFails = codes "send: the server's store fails (DelayedStore)\n"
outage_line TableFull = codes "send: the server's table of names is full (TableFull)\n"
outage_line NoRoom = codes "send: the server has no memory (NoRoom)\n"
outage_line BadFrame = codes "send: the server found bytes that are no frame (BadFrame)\n"

-- why no link could be made, by why the system's call failed
abbrev pub missed_by : Option LinkCause → Outage
missed_by (Some causes.Refused) = Refused
missed_by (Some causes.TimedOut) = Silent
missed_by (Some causes.Unreachable) = Unreachable
missed_by (Some causes.Closed) = Closed
missed_by (Some causes.Other) = NoLink
missed_by None = NoLink

-- .. why a link broke off
abbrev pub broken_by : Option LinkCause → Outage
broken_by (Some causes.Refused) = Broken
broken_by (Some causes.TimedOut) = Silent
broken_by (Some causes.Unreachable) = Unreachable
broken_by (Some causes.Closed) = Closed
broken_by (Some causes.Other) = Broken
broken_by None = Broken

-- a reply after which a link isn't used; one that ends the upload is no outage
abbrev pub outage_of_stop : Stop → Option Outage
outage_of_stop (stops.Conflict number) = None
outage_of_stop (stops.TooFar number) = None
outage_of_stop stops.TableFull = Some TableFull
outage_of_stop stops.NoRoom = Some NoRoom
outage_of_stop stops.DelayedStore = Some StoreFails
outage_of_stop stops.BadFrame = Some BadFrame

-- the end of a link
abbrev pub outage_of_end : LinkEnd → Option LinkCause → Option Outage
outage_of_end ends.Ended cause = Some Closed
outage_of_end (ends.Broken faults.Read) cause = Some (broken_by cause)
outage_of_end (ends.Broken faults.Write) cause = Some (broken_by cause)
outage_of_end (ends.Broken faults.BadReply) cause = Some BadReply
outage_of_end (ends.Broken faults.Memory) cause = None
outage_of_end (ends.Broken faults.TurnLimit) cause = None
outage_of_end (ends.Stopped stop) cause = outage_of_stop stop
outage_of_end ends.Refused cause = None
outage_of_end ends.Done cause = None

-- a change of the link
abbrev pub outage_after : LinkEvent → Option LinkCause → Option Outage
outage_after (Waits milliseconds) cause = None
outage_after Missed cause = Some (missed_by cause)
outage_after Made cause = None
outage_after (Left end) cause = outage_of_end end cause
