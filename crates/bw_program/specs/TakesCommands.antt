-- What is done for the command line about a folder's takes.
use Rattle.std.specs.Prelude.{◌≡◌, ◌⊎◌, ℕ, Bool, true, false, List, Result, string_bytes, if◌then◌else◌}
use Rattle.bw_stream.specs.declared.sink.Sink.{Ghosts as Writer}
use Rattle.bw_args.specs.declared.folders.FolderWork.{FolderWork}
use Rattle.bw_args.specs.declared.folders.FolderWork.TheVariants.{Report, Watch, GiveUp}
use Rattle.bw_args.specs.declared.folders.TakesFolder.{TakesFolder}
use Rattle.bw_console.specs.Outcomes.{Outcome, HasWritten}
use Rattle.bw_console.specs.Prints.{IsPrint, Print}
use Rattle.bw_console.specs.declared.exit.Exit.{Exit}
use Rattle.bw_disk.specs.DiskSteps.{StaysWhole}
use Rattle.bw_disk.specs.declared.disk.Disk.{Ghosts as DiskGhosts}
use Rattle.bw_ports.specs.Kinds.{IsKindReport, is_odd_kind}
use Rattle.bw_ports.specs.declared.file_kind.FileKind.{FileKind}
use Rattle.bw_ports.specs.declared.file_kind.FileKinds.{Ghosts as KindGhosts}
use Rattle.bw_ports.specs.declared.folder_locks.FolderLocks.{Ghosts as LockGhosts}
use Rattle.bw_ports.specs.declared.folder_locks.LockRefusal.{LockRefusal}
use Rattle.bw_ports.specs.declared.pause.Pause.{Ghosts as PauseGhosts}
use Rattle.bw_takes.specs.declared.listing.LineStyle.{LineStyle}
use Rattle.bw_takes.specs.declared.listing.LineStyle.TheVariants.{Words, Json}
use Rattle.bw_takes.specs.declared.listing.ReportForm.{ReportForm}
use Rattle.bw_takes.specs.FolderProgress.{fails_folder, reads_folder}
use Rattle.bw_takes.specs.GiveUpShowings.{IsGivingUp}
use Rattle.bw_takes.specs.ReceiptChecks.{IsVerifying}
use Rattle.bw_takes.specs.Showings.{IsShowing}
use Rattle.bw_takes.specs.Watches.{Watches, watch_side, watch_world}
use Rattle.bw_takes.specs.declared.comparing.Depth.{Depth}
use Rattle.bw_takes.specs.declared.comparing.Depth.TheVariants.{Journals, Samples}
use Rattle.bw_takes.specs.declared.screen.ScreenStyle.{ScreenStyle}

-- the disk of a folder, its locks, what waits between screens, and the process's writers
pub record FolderSide (D DF F L P O E : Type 0) : Type 1 where
  pub disk : DiskGhosts D DF
  pub locks : LockGhosts F L
  pub pause : PauseGhosts P
  pub out : Writer O
  pub reported : Writer E

abbrev pub folder_side : {D DF F L P O E : Type 0} → DiskGhosts D DF → LockGhosts F L →
    PauseGhosts P → Writer O → Writer E → FolderSide D DF F L P O E
folder_side disk locks pause out reported =
    record { disk = disk; locks = locks; pause = pause; out = out; reported = reported }

-- the same as they are before or after a command
pub record FolderWorld (D F P O E : Type 0) : Type 0 where
  pub disk : D
  pub locks : F
  pub pause : P
  pub out : O
  pub faults : E

abbrev pub folder_world : {D F P O E : Type 0} → D → F → P → O → E → FolderWorld D F P O E
folder_world disk locks pause out faults =
    record { disk = disk; locks = locks; pause = pause; out = out; faults = faults }

-- lines of JSON, or of words
abbrev pub style_if : Bool → LineStyle
style_if json = if json then Json else Words

-- with the samples, or without
abbrev pub depth_if : Bool → Depth
depth_if check = if check then Samples else Journals

-- how takes are reported, by the options
abbrev pub form_for : Bool → Bool → Bool → ReportForm
form_for check json digest =
    record { style = style_if json; depth = depth_if check; digest = digest }

-- this is done once in a folder: its takes are reported, and nothing has changed; or one is given up,
-- if the folder's lock is taken
abbrev pub IsWorkDone : {D DF F L P O E : Type 0} → FolderSide D DF F L P O E → FolderWork →
    List ℕ → D → D → F → F → Outcome → Type 0
IsWorkDone side (Report check json digest) folder d d' f f' did =
    IsShowing (form_for check json digest) (side.disk.honest d) folder (side.disk.contents d)
    (side.disk.failures d) (side.disk.failures d') did
    × StaysWhole side.disk d d' × (f' ≡ f)
IsWorkDone side Watch folder d d' f f' did = ⊥
IsWorkDone side (GiveUp name) folder d d' f f' did = (answer : Result _ LockRefusal)
    × side.locks.locks f folder answer f' × IsGivingUp side.disk answer folder name d d' did

-- the same with what is printed of it, and how the program ends
pub record WorksOnce {D DF F L P O E : Type 0} (side : FolderSide D DF F L P O E) (work : FolderWork)
    (folder : List ℕ) (exit : Exit) (w w' : FolderWorld D F P O E) : Type 0 where
  pub did : Outcome
  pub ends : did.exit ≡ exit
  pub is : IsWorkDone side work folder w.disk w'.disk w.locks w'.locks did
  pub writes : HasWritten side.out side.reported did w.out w'.out w.faults w'.faults
  pub unpaused : w'.pause ≡ w.pause

-- a folder's takes are shown again and again, and nothing in it has changed
pub record WatchesFolder {D DF F L P O E : Type 0} (side : FolderSide D DF F L P O E)
    (style : ScreenStyle) (folder : List ℕ) (exit : Exit) (w w' : FolderWorld D F P O E) : Type 0 where
  pub watches : Watches (watch_side (reads_folder side.disk) (fails_folder side.disk)
      side.pause.waits side.out side.reported) style folder exit
      (watch_world w.disk w.pause w.out w.faults) (watch_world w'.disk w'.pause w'.out w'.faults)
  pub disk : StaysWhole side.disk w.disk w'.disk
  pub unlocked : w'.locks ≡ w.locks

-- this was done with the takes of a folder, where screens are of this style
abbrev pub WorksOnFolder : {D DF F L P O E : Type 0} → FolderSide D DF F L P O E → ScreenStyle →
    FolderWork → List ℕ → Exit → FolderWorld D F P O E → FolderWorld D F P O E → Type 0
WorksOnFolder side style Watch folder exit w w' = WatchesFolder side style folder exit w w'
WorksOnFolder side style work folder exit w w' = WorksOnce side work folder exit w w'

-- what the command line asks for was done with the takes of a folder
abbrev pub WorksOnTakes : {D DF F L P O E : Type 0} → FolderSide D DF F L P O E → ScreenStyle →
    TakesFolder → Exit → FolderWorld D F P O E → FolderWorld D F P O E → Type 0
WorksOnTakes side style listing exit w w' =
    WorksOnFolder side style listing.work (string_bytes listing.folder) exit w w'

-- the takes of a folder were compared with the receipts at a path, and nothing has changed
pub record VerifiesFolder {D DF F L P O E : Type 0} (side : FolderSide D DF F L P O E)
    (folder path : List ℕ) (exit : Exit) (w w' : FolderWorld D F P O E) : Type 0 where
  pub did : Outcome
  pub ends : did.exit ≡ exit
  pub is : IsVerifying (side.disk.honest w.disk) folder path (side.disk.contents w.disk)
      (side.disk.failures w.disk) (side.disk.failures w'.disk) did
  pub disk : StaysWhole side.disk w.disk w'.disk
  pub writes : HasWritten side.out side.reported did w.out w'.out w.faults w'.faults
  pub unlocked : w'.locks ≡ w.locks
  pub unpaused : w'.pause ≡ w.pause

-- something is at the path of the receipts that can't be read again, a pipe or a device: that is
-- reported, and nothing else is done
pub record RefusesReceipts {D DF F L P O E : Type 0} (side : FolderSide D DF F L P O E) (path : List ℕ)
    (kind : FileKind) (exit : Exit) (w w' : FolderWorld D F P O E) : Type 0 where
  pub odd : is_odd_kind kind true ≡ true
  pub print : Print
  pub says : IsKindReport path kind true exit print
  pub faults : E
  pub alone : w' ≡ record w { faults = faults }
  pub reports : IsPrint side.reported print w.faults faults

-- the takes of a folder were compared with the receipts at a path, as far as a file is known to be there
pub record VerifiesByKind {D DF F L P O E : Type 0} (kinds : KindGhosts F) (side : FolderSide D DF F L P O E)
    (folder path : List ℕ) (exit : Exit) (w w' : FolderWorld D F P O E) : Type 0 where
  pub kind : FileKind
  pub found : kinds.kinds w.locks path kind
  pub verifies : RefusesReceipts side path kind exit w w'
      ⊎ ((is_odd_kind kind true ≡ false) × VerifiesFolder side folder path exit w w')
