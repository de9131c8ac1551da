-- The recordings that are to be sent, or why there are none, as it is reported.
use Rattle.std.specs.Prelude.{◌≡◌, ◌⊎◌, ℕ, true, false, List, Option, None, Some, Result, Ok, Err}
use Rattle.std.specs.Prelude.{string_bytes}
use Rattle.bw_stream.specs.declared.sink.Sink.{Ghosts as Writer}
use Rattle.bw_console.specs.Faults.{input_fault_text}
use Rattle.bw_console.specs.Prints.{IsOf, IsPrint, Print}
use Rattle.bw_console.specs.Text.{as_line}
use Rattle.bw_console.specs.declared.exit.Exit.{Exit}
use Rattle.bw_console.specs.declared.exit.Exit.TheVariants as exits
use Rattle.bw_console.specs.declared.fault.Fault.TheVariants as faults
use Rattle.bw_disk.specs.DiskSteps.{StaysWhole}
use Rattle.bw_disk.specs.declared.disk.Disk.{Ghosts as DiskGhosts}
use Rattle.bw_ports.specs.Kinds.{IsKindReport, is_odd_kind}
use Rattle.bw_ports.specs.declared.file_kind.FileKind.{FileKind}
use Rattle.bw_ports.specs.declared.file_kind.FileKinds.{Ghosts as KindGhosts}
use Rattle.bw_queue.specs.QueueFaults.{FaultSays}
use Rattle.bw_queue.specs.QueueSides.{CountsUnreadPaths, QueueSide, disk_reads, queue_side}
use Rattle.bw_queue.specs.Queues.{IsMissing, IsQueue, SaysRefused, SaysUnread, given_path}
use Rattle.bw_queue.specs.declared.fault.QueueFault.{QueueFault}
use Rattle.bw_queue.specs.declared.fault.QueueFault.TheVariants.{Refused, Unread, Memory}
use Rattle.bw_queue.specs.declared.request.Queue.{Queue}
use Rattle.bw_queue.specs.declared.request.QueueRequest.{QueueRequest}

-- the disk, and the process's writer of faults, before or after recordings are looked for
pub record OpeningWorld (D E : Type 0) : Type 0 where
  pub disk : D
  pub faults : E

abbrev pub opening_world : {D E : Type 0} → D → E → OpeningWorld D E
opening_world disk faults = record { disk = disk; faults = faults }

-- exactly this line is reported
abbrev pub ReportsLine : {E : Type 0} → Writer E → List ℕ → E → E → Type 0
ReportsLine reported line e e' = (print : Print) × IsOf line print × IsPrint reported print e e'

-- a fault ends the command so, and its line is reported
abbrev pub ReportsQueueFault : {E : Type 0} → Writer E → QueueFault → Exit → E → E → Type 0
ReportsQueueFault reported (Refused line) exit e e' =
    (exit ≡ exits.Refused) × ReportsLine reported (string_bytes line) e e'
ReportsQueueFault reported (Unread line) exit e e' =
    (exit ≡ exits.Device) × ReportsLine reported (string_bytes line) e e'
ReportsQueueFault reported Memory exit e e' =
    (exit ≡ exits.Memory) × ReportsLine reported (as_line (input_fault_text faults.Memory)) e e'

-- something is at the path that can't be read again, a pipe or a device: that is reported
pub record RefusesOdd {E : Type 0} (reported : Writer E) (path : List ℕ) (kind : FileKind) (exit : Exit)
    (e e' : E) : Type 0 where
  pub odd : is_odd_kind kind true ≡ true
  pub print : Print
  pub says : IsKindReport path kind true exit print
  pub reports : IsPrint reported print e e'

-- by whether a path is passed
abbrev pub PassesOdd : {E : Type 0} → Writer E → List ℕ → FileKind → Result (Unit {0}) Exit → E → E → Type 0
PassesOdd reported path kind (Ok x) e e' = (is_odd_kind kind true ≡ false) × (e' ≡ e)
PassesOdd reported path kind (Err exit) e e' = RefusesOdd reported path kind exit e e'

-- nothing of the kind is at a path, as far as it is known; or it is refused
abbrev pub PassesKind : {E : Type 0} → (List ℕ → FileKind → Type 0) → Writer E → Option (List ℕ) →
    Result (Unit {0}) Exit → E → E → Type 0
PassesKind kinds reported None result e e' = (result ≡ Ok tt) × (e' ≡ e)
PassesKind kinds reported (Some path) result e e' =
    (kind : FileKind) × kinds path kind × PassesOdd reported path kind result e e'

-- what a sender is asked for results in this queue, or in this fault
abbrev pub IsPlanned : QueueSide → QueueRequest → Result Queue QueueFault → Type 0
IsPlanned side request (Ok queue) = IsQueue side request queue
IsPlanned side request (Err fault) = FaultSays (SaysRefused side request) (SaysUnread side request) fault

-- the same with what is reported of it
abbrev pub EndsPlan : {E : Type 0} → Writer E → Result Queue QueueFault → Result Queue Exit → E → E → Type 0
EndsPlan reported (Ok queue) result e e' = (result ≡ Ok queue) × (e' ≡ e)
EndsPlan reported (Err fault) result e e' =
    (exit : Exit) × (result ≡ Err exit) × ReportsQueueFault reported fault exit e e'

module _ {F D DF E : Type 0} (kinds : KindGhosts F) (files : F) (disk : DiskGhosts D DF)
    (reported : Writer E) where
  -- the recordings were found, or a fault was reported; nothing has changed on the disk
  pub record PlansQueue (request : QueueRequest) (result : Result Queue Exit) (w w' : OpeningWorld D E)
      : Type 0 where
    pub planned : Result Queue QueueFault
    pub counts : CountsUnreadPaths (IsMissing (disk_reads disk w.disk) (given_path request.names))
        (disk.failures w.disk) (disk.failures w'.disk) planned
    pub whole : StaysWhole disk w.disk w'.disk
    pub plans : IsPlanned (queue_side kinds files disk w.disk) request planned
    pub ends : EndsPlan reported planned result w.faults w'.faults

  -- a pipe or a device in the place of the file of names, or of that of receipts, is refused
  abbrev pub RefusesGivenFile : QueueRequest → Result Queue Exit → OpeningWorld D E → OpeningWorld D E →
      Type 0
  RefusesGivenFile request result w w' = (exit : Exit) × (result ≡ Err exit) × (w'.disk ≡ w.disk)
      × (PassesKind (kinds.kinds files) reported (given_path request.names) (Err exit) w.faults w'.faults
      ⊎ (PassesKind (kinds.kinds files) reported (given_path request.names) (Ok tt) w.faults w.faults
      × PassesKind (kinds.kinds files) reported (given_path request.receipts) (Err exit) w.faults w'.faults))

  -- neither is, and the recordings were looked for
  abbrev pub LooksForAll : QueueRequest → Result Queue Exit → OpeningWorld D E → OpeningWorld D E → Type 0
  LooksForAll request result w w' =
      PassesKind (kinds.kinds files) reported (given_path request.names) (Ok tt) w.faults w.faults
      × PassesKind (kinds.kinds files) reported (given_path request.receipts) (Ok tt) w.faults w.faults
      × PlansQueue request result w w'

  abbrev pub OpensQueue : QueueRequest → Result Queue Exit → OpeningWorld D E → OpeningWorld D E → Type 0
  OpensQueue request result w w' = RefusesGivenFile request result w w' ⊎ LooksForAll request result w w'
