-- What is inspected, by whether it is standard input.
use Rattle.std.proofs.Common.{◌≡◌, ℕ, Bool, true, false, List, Option, refl}
use Rattle.clap.specs.Walk.{Text}
use Rattle.bw_stream.specs.declared.sink.Sink.{Ghosts as Writer}
use Rattle.bw_stream.specs.declared.source.Source.{Ghosts as Reader}
use Rattle.bw_ports.specs.declared.recording_files.RecordingFiles.{Ghosts as FileGhosts}
use Rattle.bw_args.specs.declared.inspection.Inspection.{Inspection}
use Rattle.bw_console.specs.Outcomes.{Outcome}
use Rattle.bw_console.specs.declared.exit.Exit.{Exit}
use Rattle.bw_commands.specs.Inspections.{IsInspection}
use Rattle.bw_commands.specs.Looks.{IsLook}
use Rattle.bw_report.specs.FileLooks.{AreInspected, files_there}
use Rattle.bw_program.specs.FileCommands.{InspectsBy, InspectsInput, IsLookBy, wanted_of}
use Rattle.std.specs.Prelude.{map, string_bytes}

pub look_input : (b : Bool) (file input : Option (List ℕ)) (path : Text) (did : Outcome) → b ≡ true → IsInspection input did
    → IsLookBy b file input path true did
look_input true file input path did e is = (is, refl)
look_input false file input path did e is = let bad : false ≡ true = e in cc

pub look_file : (b : Bool) (file input : Option (List ℕ)) (path : Text) (gives_all : Bool) (did : Outcome) → b ≡ false
    → IsLook file path gives_all did → IsLookBy b file input path gives_all did
look_file false file input path gives_all did e is = is
look_file true file input path gives_all did e is = let bad : true ≡ false = e in cc

module _ {F H G M I O E : Type 0} (files : FileGhosts F H G M) (input : Reader I) (out : Writer O) (reported : Writer E) where
  pub inspects_input : (b : Bool) (inspection : Inspection) (exit : Exit) (f f' : F) (i i' : I) (o o' : O) (e e' : E) → b ≡ true
      → InspectsInput files input out reported (wanted_of inspection).style exit i i' o o' e e' → f' ≡ f
      → InspectsBy files input out reported b inspection exit f f' i i' o o' e e'
  inspects_input true inspection exit f f' i i' o o' e e' same is unread = (is, unread)
  inspects_input false inspection exit f f' i i' o o' e e' same is unread = let bad : false ≡ true = same in cc

  pub inspects_files : (b : Bool) (inspection : Inspection) (exit : Exit) (f f' : F) (i i' : I) (o o' : O) (e e' : E) → b ≡ false
      → AreInspected out reported (files_there (files.file_at f) (files.stamp_at f))
      (map string_bytes inspection.files.items) (wanted_of inspection) exit
      (files.failures f) (files.failures f') o o' e e' → i' ≡ i
      → InspectsBy files input out reported b inspection exit f f' i i' o o' e e'
  inspects_files false inspection exit f f' i i' o o' e e' same is unread = (is, unread)
  inspects_files true inspection exit f f' i i' o o' e e' same is unread = let bad : true ≡ false = same in cc
