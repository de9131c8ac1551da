-- What is done for the command line that draws a recording.
use Rattle.std.specs.Prelude.{◌≡◌, ℕ, Bool, List}
use Rattle.bw_stream.specs.declared.sink.Sink.{Ghosts as Writer}
use Rattle.bw_console.specs.Outcomes.{Outcome, HasWritten}
use Rattle.bw_console.specs.Prints.{failures_if}
use Rattle.bw_console.specs.declared.exit.Exit.{Exit}
use Rattle.bw_picture.specs.Pictures.{IsDrawing}
use Rattle.bw_ports.specs.declared.recording_files.RecordingFiles.{Ghosts as FileGhosts}

-- the picture of the recording in the file at this path was printed, as far as it is one
abbrev pub DrawsFile : {F H G M O E : Type 0} → FileGhosts F H G M → Writer O → Writer E →
    List ℕ → Exit → F → F → O → O → E → E → Type 0
DrawsFile files out reported path exit f f' o o' e e' =
    (did : Outcome) × (did.exit ≡ exit) × (gives_all : Bool)
    × IsDrawing (files.file_at f path) path gives_all did
    × (files.failures f' ≡ failures_if gives_all (files.failures f))
    × HasWritten out reported did o o' e e'
