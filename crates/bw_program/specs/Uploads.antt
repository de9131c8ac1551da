-- What is done for the command lines that send recordings.
use Rattle.std.specs.Prelude.{◌≡◌, ◌⊎◌, ℕ, List, Option, None, Some, option_map, string_bytes}
use Rattle.std.specs.Net.Text.{socket_text}
use Rattle.bw_stream.specs.declared.sink.Sink.{Ghosts as Writer}
use Rattle.bw_args.specs.declared.recordings.FileSender.{FileSender}
use Rattle.bw_console.specs.Prints.{failures_if}
use Rattle.bw_console.specs.declared.exit.Exit.{Exit}
use Rattle.bw_ports.specs.declared.network.Network.{Ghosts as NetworkGhosts}
use Rattle.bw_ports.specs.declared.recording_files.RecordingFiles.{Ghosts as FileGhosts}
use Rattle.bw_recorder.specs.Packs.{HasPacked, Packing, RunsOutOfMemory}
use Rattle.bw_recorder.specs.declared.job.RecordingFile.{RecordingFile}
use Rattle.bw_send_file.specs.FileSendings.{IsFileSent}
use Rattle.bw_send_file.specs.declared.job.Recorder.{Recorder}
use Rattle.bw_send_file.specs.FilesSentOn.{Continuation, HasContinued, IsFileSentOn}
use Rattle.bw_send_file.specs.FilesSentOn.{known_file_of, outside_of, sending_side}
use Rattle.bw_send_file.specs.declared.resumed_job.Job.{Job}
use Rattle.bw_program.specs.RecordingCommands.{IsRecordingFile}
use Rattle.bw_program.specs.Sides.{SenderSide, StateSide, UploadSide}

-- the recorder that a command line asks for
pub record IsRecorderOf (sender : FileSender) (recorder : Recorder) : Type 0 where
  pub named : recorder.name.now ≡ sender.name
  pub ends : recorder.fruitless ≡ Some sender.fruitless

-- what is sent with the state at this path
pub record IsJobOf (sender : FileSender) (path : List ℕ) (job : Job) : Type 0 where
  pub recorder_is : IsRecorderOf sender job.recorder
  pub file_is : IsRecordingFile sender.source job.file
  pub path_is : job.place.path.now ≡ path
  pub address : job.place.address.now ≡ socket_text sender.connect

module _ {U J F H G M Q N X P R W D A B O E : Type 0} (upload : UploadSide U J Q)
    (side : SenderSide D A B) (network : NetworkGhosts N X P D R W A B) (files : FileGhosts F H G M)
    (out : Writer O) (reported : Writer E) where
  -- the recording was sent over links that are made so, after such pauses
  pub record SendsRecording (sender : FileSender) (exit : Exit) (f f' : F) (n : N) (q q' : Q)
      (o o' : O) (e e' : E) : Type 0 where
    pub first : D
    pub calls : network.calls n sender.connect (Some sender.timeout) first
    pub last : D
    pub recorder : Recorder
    pub recorder_is : IsRecorderOf sender recorder
    pub file : RecordingFile
    pub file_is : IsRecordingFile sender.source file
    pub did : Packing
    pub ends : did.exit ≡ exit
    pub is : IsFileSent upload.feed upload.pause side.dial side.replies side.requests recorder file
        (files.file_at f file.path.now) (upload.looks_at (files.stamp_at f file.path.now))
        (record { pause = q; dial = first }) (record { pause = q'; dial = last }) did
    pub failures : files.failures f' ≡ failures_if did.is_system_well (files.failures f)
    pub writes : HasPacked out reported did o o' e e'

module _ {U J F H G M S L Q N X P R W D A B O E : Type 0} (upload : UploadSide U J Q)
    (side : SenderSide D A B) (network : NetworkGhosts N X P D R W A B) (files : FileGhosts F H G M)
    (states : StateSide F S L) (out : Writer O) (reported : Writer E) where
  -- it was sent from where the state at this path says, over links that are made so
  pub record SendsKept (path : List ℕ) (sender : FileSender) (exit : Exit) (f f' : F) (n : N) (q q' : Q)
      (o o' : O) (e e' : E) : Type 0 where
    pub first : D
    pub calls : network.calls n sender.connect (Some sender.timeout) first
    pub last : D
    pub job : Job
    pub job_is : IsJobOf sender path job
    pub opened : S
    pub kept : states.files.state_at opened ≡ states.kept_at f
    pub left : S
    pub did : Continuation
    pub ends : did.exit ≡ exit
    pub is : IsFileSentOn
        (sending_side upload.feed upload.looks_at upload.pause side.dial side.replies side.requests)
        job states.log (outside_of (known_file_of job (files.file_at f) (files.stamp_at f))
        (states.files.state_at opened) (states.files.state_at left))
        (record { pause = q; dial = first }) (record { pause = q'; dial = last }) did
    pub failures : files.failures f' ≡ failures_if did.sent.is_system_well (files.failures f)
    pub state_failures : states.files.failures left
        ≡ failures_if did.is_state_well (states.files.failures opened)
    pub writes : HasContinued out reported did o o' e e'

  -- memory was refused before anything was done
  pub record GivesUpState (exit : Exit) (f f' : F) (q q' : Q) (o o' : O) (e e' : E) : Type 0 where
    pub did : Packing
    pub ends : did.exit ≡ exit
    pub is : RunsOutOfMemory did
    pub files_are : f' ≡ f
    pub unpaused : q' ≡ q
    pub writes : HasPacked out reported did o o' e e'

  abbrev pub SendsOrGivesUp : List ℕ → FileSender → Exit → F → F → N → Q → Q → O → O →
      E → E → Type 0
  SendsOrGivesUp path sender exit f f' n q q' o o' e e' =
      SendsKept path sender exit f f' n q q' o o' e e' ⊎ GivesUpState exit f f' q q' o o' e e'

  -- with the state at a path, or without
  abbrev pub SendsByPath : Option (List ℕ) → FileSender → Exit → F → F → N → Q → Q →
      O → O → E → E → Type 0
  SendsByPath None sender exit f f' n q q' o o' e e' =
      SendsRecording upload side network files out reported sender exit f f' n q q' o o' e e'
  SendsByPath (Some path) sender exit f f' n q q' o o' e e' =
      SendsOrGivesUp path sender exit f f' n q q' o o' e e'

  -- as the command line says
  abbrev pub SendsByState : FileSender → Exit → F → F → N → Q → Q → O → O → E → E →
      Type 0
  SendsByState sender = SendsByPath (option_map string_bytes sender.state) sender
