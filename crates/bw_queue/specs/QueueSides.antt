-- What a sender of several recordings is told of files and folders.
use Rattle.std.specs.Prelude.{◌≡◌, ◌⊎◌, ⊤, ℕ, List, Option, IsTrue, Result, Ok, Err, true}
use Rattle.bw_disk.specs.Volumes.{Lists}
use Rattle.bw_disk.specs.declared.disk.Disk.{Ghosts as DiskGhosts}
use Rattle.bw_model.specs.Counts.{Counts}
use Rattle.bw_ports.specs.declared.file_kind.FileKind.{FileKind}
use Rattle.bw_ports.specs.declared.file_kind.FileKinds.{Ghosts as KindGhosts}
use Rattle.bw_queue.specs.declared.fault.QueueFault.{QueueFault}
use Rattle.bw_queue.specs.declared.fault.QueueFault.TheVariants.{Refused, Unread, Memory}

-- what may be told: what is at a path, which names a folder has, and which bytes a file, if there is one
pub record QueueSide : Type 1 where
  pub kinds : List ℕ → FileKind → Type 0
  pub lists : List ℕ → List (List ℕ) → Type 0
  pub reads : List ℕ → Option (List ℕ) → Type 0

-- the bytes of the file at a path, or that there is none
abbrev pub disk_reads : {D DF : Type 0} → DiskGhosts D DF → D → List ℕ → Option (List ℕ) → Type 0
disk_reads disk d path found = IsTrue (disk.honest d) → disk.contents d path ≡ found

-- the same of these files and this disk
abbrev pub queue_side : {F D DF : Type 0} → KindGhosts F → F → DiskGhosts D DF → D → QueueSide
queue_side kinds files disk d = record {
  kinds = kinds.kinds files;
  lists = λ folder names. IsTrue (disk.honest d) → Lists folder (disk.contents d) names;
  reads = disk_reads disk d;
}

-- how often calls of the disk had failed before and after: none did, unless something couldn't be read, and
-- then one did, or this file is missing
abbrev pub CountsUnreadPaths : {T : Type 0} → Type 0 → ℕ → ℕ → Result T QueueFault → Type 0
CountsUnreadPaths missing before after (Ok done) = after ≡ before
CountsUnreadPaths missing before after (Err (Refused line)) = after ≡ before
CountsUnreadPaths missing before after (Err (Unread line)) =
    (missing × (after ≡ before)) ⊎ Counts before after true
CountsUnreadPaths missing before after (Err Memory) = ⊤
