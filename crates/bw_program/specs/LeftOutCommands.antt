-- What is done for the command lines that keep the chunks that a take doesn't carry, or join them to a take.
use Rattle.std.specs.Prelude.{◌≡◌, ◌⊎◌, ℕ, Bool, true, false, List, Option, None, Some, Result, Ok, Err}
use Rattle.std.specs.Prelude.{option_map, string_bytes}
use Rattle.bw_stream.specs.declared.sink.Sink.{Ghosts as Writer}
use Rattle.bw_args.specs.declared.recordings.SourceFile.{SourceFile}
use Rattle.bw_console.specs.Outcomes.{Outcome, HasWritten}
use Rattle.bw_console.specs.Prints.{IsPrint, Print, failures_if}
use Rattle.bw_console.specs.declared.exit.Exit.{Exit}
use Rattle.bw_disk.specs.declared.disk.Disk.{Ghosts as DiskGhosts}
use Rattle.bw_ports.specs.Kinds.{IsKindReport, is_odd_kind}
use Rattle.bw_ports.specs.declared.file_kind.FileKind.{FileKind}
use Rattle.bw_ports.specs.declared.file_kind.FileKinds.{Ghosts as KindGhosts}
use Rattle.bw_ports.specs.declared.recording_files.RecordingFiles.{Ghosts as FileGhosts}
use Rattle.bw_repair.specs.Joinings.{IsJoining}
use Rattle.bw_repair.specs.Keepings.{IsKeeping}

-- the files of recordings, the disk that chunks are kept on, and the process's writer of faults, before or
-- after chunks are kept
pub record KeepWorld (F D E : Type 0) : Type 0 where
  pub files : F
  pub disk : D
  pub faults : E

abbrev pub keep_world : {F D E : Type 0} → F → D → E → KeepWorld F D E
keep_world files disk faults = record { files = files; disk = disk; faults = faults }

module _ {F H G M D DF E : Type 0} (files : FileGhosts F H G M) (kinds : KindGhosts F)
    (disk : DiskGhosts D DF) (reported : Writer E) where
  -- what is at the path can't be read twice, a pipe or a device: that is reported, and nothing else is done
  pub record RefusesOddFile (path : List ℕ) (kind : FileKind) (result : Result (Unit {0}) Exit)
      (w w' : KeepWorld F D E) : Type 0 where
    pub odd : is_odd_kind kind false ≡ true
    pub exit : Exit
    pub ends : result ≡ Err exit
    pub print : Print
    pub says : IsKindReport path kind false exit print
    pub faults : E
    pub alone : w' ≡ record w { faults = faults }
    pub reports : IsPrint reported print w.faults faults

  -- the chunks of the recording at a path were kept in another file, or why they aren't was reported; what
  -- is at each path of a recording stays
  pub record KeepsChunks (path to : List ℕ) (result : Result (Unit {0}) Exit) (w w' : KeepWorld F D E)
      : Type 0 where
    pub gives_all : Bool
    pub is : IsKeeping disk (files.file_at w.files path) path to reported result
        w.disk w'.disk gives_all w.faults w'.faults
    pub failures : files.failures w'.files ≡ failures_if gives_all (files.failures w.files)
    pub unchanged : files.file_at w'.files ≡ files.file_at w.files

  -- .. as far as a file is known to be there
  pub record KeepsByKind (path to : List ℕ) (result : Result (Unit {0}) Exit) (w w' : KeepWorld F D E)
      : Type 0 where
    pub kind : FileKind
    pub found : kinds.kinds w.files path kind
    pub keeps : RefusesOddFile path kind result w w'
        ⊎ ((is_odd_kind kind false ≡ false) × KeepsChunks path to result w w')

  -- .. where a path is given to keep them at
  abbrev pub KeepsAt : Option (List ℕ) → List ℕ → Result (Unit {0}) Exit → KeepWorld F D E →
      KeepWorld F D E → Type 0
  KeepsAt None path result w w' = (result ≡ Ok tt) × (w' ≡ w)
  KeepsAt (Some to) path result w w' = KeepsByKind path to result w w'

  -- the chunks of a recording were kept as its command line asks for
  abbrev pub KeepsAsAsked : SourceFile → Result (Unit {0}) Exit → KeepWorld F D E → KeepWorld F D E → Type 0
  KeepsAsAsked source result w w' =
      KeepsAt (option_map string_bytes source.left_out) (string_bytes source.path) result w w'

-- the take at a path was printed with the chunks of the file at another
abbrev pub JoinsFiles : {F H G M O E : Type 0} → FileGhosts F H G M → Writer O → Writer E → List ℕ →
    List ℕ → Exit → F → F → O → O → E → E → Type 0
JoinsFiles files out reported take left exit f f' o o' e e' =
    (did : Outcome) × (did.exit ≡ exit) × (gives_all : Bool)
    × IsJoining (files.file_at f take) (files.file_at f left) take left gives_all did
    × (files.failures f' ≡ failures_if gives_all (files.failures f))
    × HasWritten out reported did o o' e e'
