-- What a file that was sent with status 0 is at the server.
use Rattle.std.specs.Prelude.{◌≡◌, ◌≤◌, ℕ, Option, Some, None, Ok, IsTrue, List, [], map}
use Rattle.std.specs.Prelude.{string_bytes}
use Rattle.std.specs.List.{list_all}
use Rattle.bw_model.specs.Take.{Request, Verdict}
use Rattle.bw_model.specs.Wire.{is_name, are_bytes}
use Rattle.bw_stream.specs.declared.sink.Sink.{Ghosts as Writer}
use Rattle.bw_stream.specs.declared.source.Source.{Ghosts as Reader}
use Rattle.bw_exchange.specs.AnsweredFrames.{Answered, AnswersAll}
use Rattle.bw_console.specs.Outcomes.{Outcome as Did}
use Rattle.bw_console.specs.declared.exit.Exit.TheVariants.{Done}
use Rattle.bw_ports.specs.declared.dial.Dial.{Ghosts as DialGhosts}
use Rattle.bw_ports.specs.declared.pause.Pause.{Ghosts as PauseGhosts}
use Rattle.bw_plan.specs.AllowedSettings.{are_settings}
use Rattle.bw_plan.specs.PcmRecordings.{pcm_recording_of}
use Rattle.bw_plan.specs.Recordings.{Options, Recording, recording_of}
use Rattle.bw_plan.specs.declared.pcm.Pcm.{Pcm}
use Rattle.bw_recorder.specs.Packs.{Packing}
use Rattle.bw_recorder.specs.SettingLists.{options_of}
use Rattle.bw_recorder.specs.declared.job.RecordingFile.{RecordingFile}
use Rattle.bw_sender.specs.Senders.{new_sender}
use Rattle.bw_upload.specs.Courses.{starts}
use Rattle.bw_upload.specs.declared.feed.Feed.{Ghosts as FeedGhosts}
use Rattle.bw_send_file.specs.FileSendings.{IsFileSent, errand_of}
use Rattle.bw_send_file.specs.Sendings.{Errand, Ways}
use Rattle.bw_send_file.specs.declared.fault.FeedFault.{FeedFault}
use Rattle.bw_send_file.specs.declared.job.Recorder.{Recorder}
use Rattle.bw_delivery.specs.Statement.{LinkBytes, SenderPart, ServerKind, ServerPart, DidServe, Premises}
use Rattle.bw_end_to_end.specs.SentFiles.{StoresFeed}
use Rattle.bw_end_to_end.specs.UploadedLinks.{links_in_course}
use Rattle.bw_end_to_end.specs.UsedLinks.{UsedLink, AreSenderEnds}
use Rattle.bw_end_to_end.specs.Copies.{ReadsAsRecording, copy_of, is_setting_of_bytes, plan_by}

module _ {F P D R W T : Type 0} (feed : FeedGhosts F FeedFault) (pause : PauseGhosts P)
    (dial : DialGhosts D R W) (reader : Reader R) (writer : Writer W) (kind : ServerKind T) where
  -- A server answered frames, and this sender used these links, on the premises of the promise.
  pub record ServesUpload (s : SenderPart) (used : List (UsedLink R W)) (r : ServerPart T) : Type 0 where
    pub limit : kind.limit r.old ≤ 4294967294
    pub ends : AreSenderEnds reader writer used s.links
    pub server : DidServe kind s r
    pub premises : Premises kind s r

  -- the links of an upload that stored these requests
  abbrev pub links_used : (e : Errand) (f f' : F) (old new : Ways P D) (did : Did)
      (requests : List Request) →
      StoresFeed feed pause dial reader writer e f f' old new did requests →
      List (UsedLink R W)
  links_used e f f' old new did requests stores =
      let went = stores.sent.went in
      links_in_course feed pause dial reader writer e.most None went.events
      (starts (new_sender e.name) f old.pause old.dial) went.last went.went

  -- Whichever server answered over these links, its store has a file that reads as the recording:
  -- then, and after whatever came later, of whatever names.
  abbrev pub HasCopy : List ℕ → List Request → List (UsedLink R W) → Recording → Type 0
  HasCopy name requests used copy =
      (has : List (Option Verdict)) (links : List (ℕ × LinkBytes)) (r : ServerPart T) (last : T)
      (more : List Answered) → IsTrue (is_name name) →
      ServesUpload (record { name = name; requests = requests; had = []; has = has; links = links })
      used r → AnswersAll kind.answers r.new more last →
      ReadsAsRecording (kind.contents last name) copy

  -- So it is in each upload that stored all requests of the recording.
  abbrev pub UploadsAreCopied : Options → Recording → Type 0
  UploadsAreCopied o r =
      (e : Errand) (f f' : F) (old new : Ways P D) (did : Did)
      (stores : StoresFeed feed pause dial reader writer e f f' old new did (plan_by o r)) →
      HasCopy e.name (plan_by o r) (links_used e f f' old new did (plan_by o r) stores) (copy_of r)

  -- .. of a recording in a file's bytes
  abbrev pub FileUploadsAreCopied : Type 0
  FileUploadsAreCopied = (b : List ℕ) (o : Options) (r : Recording) → IsTrue (are_bytes b) →
      IsTrue (are_settings o.settings) → IsTrue (list_all is_setting_of_bytes o.settings) →
      recording_of b o ≡ Ok r → UploadsAreCopied o r

  -- .. of headerless samples
  abbrev pub PcmUploadsAreCopied : Type 0
  PcmUploadsAreCopied = (b : List ℕ) (o : Options) (p : Pcm) (r : Recording) →
      IsTrue (are_bytes b) → IsTrue (are_settings o.settings) →
      IsTrue (list_all is_setting_of_bytes o.settings) → pcm_recording_of b o p ≡ Ok r →
      UploadsAreCopied o r

  -- The bytes have a recording, each request of its plan is stored, and the server's file is its
  -- copy.
  pub record SendsCopy (recorder : Recorder) (file : RecordingFile) (b : List ℕ)
      (old new : Ways P D) : Type 0 where
    pub o : Options
    pub asked : options_of (map string_bytes file.settings.now) file.strict file.frames ≡ Some o
    pub recording : Recording
    pub is : recording_of b o ≡ Ok recording
    pub begun : F
    pub ended : F
    pub did : Did
    pub stores : StoresFeed feed pause dial reader writer (errand_of recorder file) begun ended old
        new did (plan_by o recording)
    pub copy : HasCopy recorder.name.now (plan_by o recording)
        (links_used (errand_of recorder file) begun ended old new did (plan_by o recording) stores)
        (copy_of recording)

  -- It is so of a file of these bytes, if `send --file` ended with status 0, whatever its feed
  -- looks at again.
  abbrev pub SentFilesAreCopied : Type 0
  SentFilesAreCopied = (recorder : Recorder) (file : RecordingFile) (b : List ℕ)
      (old new : Ways P D) (did : Packing) → IsTrue (are_bytes b) →
      IsFileSent feed pause dial reader writer recorder file (Some b) (λ f. Unit {0}) old new did →
      did.exit ≡ Done → SendsCopy recorder file b old new
