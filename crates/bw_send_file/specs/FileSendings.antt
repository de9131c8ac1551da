-- What the command `send --file` does.
use Rattle.std.specs.Prelude.{◌≡◌, ◌⊎◌, ℕ, true, List, [], Option, Some, Ok, IsTrue, codes}
use Rattle.std.specs.Prelude.{map, string_bytes}
use Rattle.bw_model.specs.Take.{Request}
use Rattle.bw_stream.specs.Readers.{Of}
use Rattle.bw_stream.specs.declared.sink.Sink.{Ghosts as Writer}
use Rattle.bw_stream.specs.declared.source.Source.{Ghosts as Reader}
use Rattle.bw_ports.specs.declared.dial.Dial.{Ghosts as DialGhosts}
use Rattle.bw_ports.specs.declared.pause.Pause.{Ghosts as PauseGhosts}
use Rattle.bw_console.specs.Outcomes.{Outcome as Did}
use Rattle.bw_plan.specs.Plans.{plan}
use Rattle.bw_plan.specs.Recordings.{Options, Recording, recording_of, block_frames}
use Rattle.bw_plan.specs.Strictness.{refuses_losses}
use Rattle.bw_plan.specs.declared.options.Strictness.{Strictness}
use Rattle.bw_recorder.specs.FileReports.{warnings_in}
use Rattle.bw_recorder.specs.Packs.{IsNotOpened, IsReportedText, Packing, RefusesSettings, RunsOutOfMemory}
use Rattle.bw_recorder.specs.SettingLists.{options_of}
use Rattle.bw_recorder.specs.WarningTexts.{warning_lines}
use Rattle.bw_recorder.specs.declared.job.RecordingFile.{RecordingFile}
use Rattle.bw_upload.specs.declared.feed.Feed.{Ghosts as FeedGhosts}
use Rattle.bw_send_file.specs.Sendings.{Errand, Ways, IsFeedSent}
use Rattle.bw_send_file.specs.declared.fault.FeedFault.{FeedFault}
use Rattle.bw_send_file.specs.declared.job.Recorder.{Recorder}

-- as which recorder, and of which file, requests are sent
abbrev pub errand_of : Recorder → RecordingFile → Errand
errand_of recorder file =
    record { name = recorder.name.now; path = file.path.now; most = recorder.fruitless }

-- the feed gives the requests of the recording in these bytes, and this says what it loses of them
pub record FeedsRecording (b : List ℕ) (o : Options) (to_come : List Request → Type 0) (text : List ℕ)
    : Type 0 where
  pub recording : Recording
  pub is : recording_of b o ≡ Ok recording
  pub says : text ≡ warning_lines (warnings_in b recording.outline)
  pub whole : IsTrue (refuses_losses o.strict) → text ≡ []
  pub gives : to_come (plan (block_frames o recording.outline.format) recording)

module _ {F P D R W : Type 0} (feed : FeedGhosts F FeedFault) (pause : PauseGhosts P)
    (dial : DialGhosts D R W) (reader : Reader R) (writer : Writer W) where
  -- the file was opened, what it loses was reported, and its requests were sent
  pub record SendsFile (o : Options) (e : Errand) (file : Option (List ℕ)) (is_looked_at : F → Type 0)
      (old new : Ways P D) (did : Packing) : Type 0 where
    pub begun : F
    pub looked : is_looked_at begun
    pub ended : F
    pub text : List ℕ
    pub right : Of file (λ b. FeedsRecording b o (feed.left begun) text)
    pub warns : IsReportedText text did.warned
    pub well : did.is_system_well ≡ true
    pub sent : Did
    pub sends : IsFeedSent feed pause dial reader writer e begun ended old new sent
    pub prints : did.out ≡ sent.out
    pub reports : did.faults ≡ sent.faults
    pub exit_is : did.exit ≡ sent.exit

  -- nothing was sent: what is set can't be read, memory was refused, or the file isn't opened
  abbrev pub RefusesToSend : List ℕ → Option (List ℕ) → List (List ℕ) → Strictness → Option ℕ →
      Packing → Type 0
  RefusesToSend path file texts strict frames did =
      RefusesSettings texts strict frames did ⊎ RunsOutOfMemory did
      ⊎ ((o : Options) × (options_of texts strict frames ≡ Some o)
      × IsNotOpened (codes "send") file path o did)

  -- the command did this for a recorder with a file of these bytes, which its feed looks at again
  abbrev pub IsFileSent : Recorder → RecordingFile → Option (List ℕ) → (F → Type 0) → Ways P D →
      Ways P D → Packing → Type 0
  IsFileSent recorder f file is_looked_at old new did =
      (RefusesToSend f.path.now file (map string_bytes f.settings.now) f.strict f.frames did
      × (new ≡ old))
      ⊎ ((o : Options) × (options_of (map string_bytes f.settings.now) f.strict f.frames ≡ Some o)
      × SendsFile o (errand_of recorder f) file is_looked_at old new did)
