-- What the command `send --file --pcm` does.
use Rattle.std.specs.Prelude.{◌≡◌, ◌⊎◌, ◌≤◌, ℕ, Bool, true, false, List, Option, Some, Result, Ok, Err}
use Rattle.std.specs.Prelude.{codes}
use Rattle.std.specs.Prelude.{None, [], length, map, option_map, string_bytes}
use Rattle.bw_model.specs.Take.{Request}
use Rattle.bw_stream.specs.Readers.{Of}
use Rattle.bw_stream.specs.declared.sink.Sink.{Ghosts as Writer}
use Rattle.bw_stream.specs.declared.source.Source.{Ghosts as Reader}
use Rattle.bw_ports.specs.declared.dial.Dial.{Ghosts as DialGhosts}
use Rattle.bw_ports.specs.declared.pause.Pause.{Ghosts as PauseGhosts}
use Rattle.bw_ports.specs.declared.recording_files.FileStamp.{FileStamp}
use Rattle.bw_console.specs.Outcomes.{Outcome as Did}
use Rattle.bw_console.specs.Prints.{Nothing}
use Rattle.bw_plan.specs.PcmRecordings.{PcmFaultOf, pcm_outline_of, pcm_recording_of}
use Rattle.bw_plan.specs.Plans.{plan}
use Rattle.bw_plan.specs.Recordings.{Options, Outline, Recording, block_frames}
use Rattle.bw_plan.specs.declared.fault.RecordingFault.{RecordingFault}
use Rattle.bw_plan.specs.declared.fault.RecordingKind.TheVariants.{Empty}
use Rattle.bw_plan.specs.declared.pcm.Pcm.{Pcm}
use Rattle.bw_recorder.specs.Packs.{IsOpenReport, Packing, RefusesSettings, RunsOutOfMemory}
use Rattle.bw_recorder.specs.SettingLists.{options_of}
use Rattle.bw_recorder.specs.declared.fault.OpenFault.{OpenFault}
use Rattle.bw_recorder.specs.declared.fault.OpenFault.TheVariants.{Unopened, Refused, Lossy, Changed}
use Rattle.bw_send_file.specs.FileSendings.{errand_of}
use Rattle.bw_send_file.specs.Marked.{marked_recording}
use Rattle.bw_send_file.specs.Sendings.{Errand, Ways, IsFeedSent}
use Rattle.bw_send_file.specs.declared.fault.FeedFault.{FeedFault}
use Rattle.bw_send_file.specs.declared.job.Recorder.{Recorder}
use Rattle.bw_send_file.specs.declared.pcm_job.PcmFile.{PcmFile}
use Rattle.bw_upload.specs.declared.feed.Feed.{Ghosts as FeedGhosts}

-- the reported stamp of a file has the length of these bytes
abbrev pub IsStampOf : Option FileStamp → List ℕ → Type 0
IsStampOf stamp b = (s : FileStamp) × (stamp ≡ Some s) × (s.len ≡ length b)

-- the samples in these bytes are a recording, and all requests of its plan are to come
pub record FeedsSamples (b : List ℕ) (o : Options) (p : Pcm) (to_come : List Request → Type 0) : Type 0
  where
    pub recording : Recording
    pub is : pcm_recording_of b o p ≡ Ok recording
    -- it has a frame
    pub some : 1 ≤ recording.outline.samples_len
    pub gives : to_come (plan (block_frames o recording.outline.format) recording)

-- where the samples in these bytes are a recording, all requests of its plan are to come
abbrev pub FollowsSamples : List ℕ → Options → Pcm → (List Request → Type 0) → Type 0
FollowsSamples b o p to_come =
    (r : Recording) → pcm_recording_of b o p ≡ Ok r → to_come (plan (block_frames o r.outline.format) r)

-- the same with these markers, which are placed while the recording is made
abbrev pub FollowsMarked : List ℕ → List (ℕ × ℕ) → Options → Pcm → (List Request → Type 0) → Type 0
FollowsMarked b ms o p to_come = (r : Recording) → pcm_recording_of b o p ≡ Ok r →
    to_come (plan (block_frames o r.outline.format) (marked_recording ms r))

-- the markers that will have been placed in a file, by what is known of those at two paths; none where
-- no marks are named
abbrev pub placed_by : (List ℕ → Option (List (ℕ × ℕ))) → Option (List ℕ) → Option (List (ℕ × ℕ))
placed_by points None = Some []
placed_by points (Some marks) = points marks

abbrev pub placed_in : {F : Type 0} → (F → List ℕ → List ℕ → Option (List (ℕ × ℕ))) → F → PcmFile →
    Option (List (ℕ × ℕ))
placed_in points_at files f =
    placed_by (points_at files f.file.path.now) (option_map (λ marks. marks.now) f.marks)

-- why the samples in a file of so many bytes aren't sent: the system fails, or this is their first
-- fault
abbrev pub RefusesPcm : Options → Pcm → ℕ → OpenFault → Type 0
RefusesPcm o p len (Unopened error) = Unit {0}
RefusesPcm o p len (Refused fault) = PcmFaultOf o p len fault
RefusesPcm o p len (Lossy text) = ⊥
RefusesPcm o p len Changed = ⊥

-- the fault of samples that have no frame: at the place of the first one
abbrev pub empty_at : Pcm → RecordingFault
empty_at p = record { kind = Empty; offset = p.skip }

-- the samples in a file of so many bytes have no fault, but no frame either
pub record HasNoFrame (o : Options) (p : Pcm) (len : ℕ) (fault : OpenFault) : Type 0 where
  pub outline : Outline
  pub is : pcm_outline_of o p len ≡ Ok outline
  pub none : outline.samples_len ≡ 0
  pub fault_is : fault ≡ Refused (empty_at p)

-- so many bytes a file that is followed is known to have: where a path says that it has ended, those
-- before the samples; where standard input is appended to it, those that it has, these among them
abbrev pub IsKnownLen : Bool → ℕ → ℕ → Type 0
IsKnownLen true skip len = len ≡ skip
IsKnownLen false skip len = skip ≤ len

-- the file isn't opened, which is reported
pub record ReportsNoSamples (path : List ℕ) (fault : OpenFault) (did : Packing) : Type 0 where
  pub warned : did.warned ≡ Nothing
  pub prints : did.out ≡ Nothing
  pub reports : IsOpenReport (codes "send") path fault did.exit did.faults

module _ {F : Type 0} (feed : FeedGhosts F FeedFault) where
  -- The file with these bytes and this stamp, if they are reported, is opened for its samples, and
  -- the feed looks at it again; or why it can't be.
  abbrev pub OpensSamples : (Option FileStamp → F → Type 0) → Option (List ℕ) → Option FileStamp →
      Pcm → Options → Result F OpenFault → Type 0
  OpensSamples looks_at file stamp p o (Ok f) =
      Of file (λ b. IsStampOf stamp b → FeedsSamples b o p (feed.left f)) × looks_at stamp f
  OpensSamples looks_at file stamp p o (Err fault) =
      Of file (λ b. IsStampOf stamp b →
      RefusesPcm o p (length b) fault ⊎ HasNoFrame o p (length b) fault)

  -- The file that will have these bytes, if they are reported, is followed, until a path exists or
  -- without one; or why it can't be, by what is known of it.
  abbrev pub FollowsUnmarked : Bool → Option (List ℕ) → Pcm → Options → Result F OpenFault → Type 0
  FollowsUnmarked by_path file p o (Ok f) = Of file (λ b. FollowsSamples b o p (feed.left f))
  FollowsUnmarked by_path file p o (Err fault) =
      (len : ℕ) × IsKnownLen by_path p.skip len × RefusesPcm o p len fault

  -- the same with the markers that will have been placed in it, if they are known
  abbrev pub FollowsFile : Bool → Option (List ℕ) → Option (List (ℕ × ℕ)) → Pcm → Options →
      Result F OpenFault → Type 0
  FollowsFile by_path file placed p o (Ok f) =
      Of file (λ b. (ms : List (ℕ × ℕ)) → placed ≡ Some ms → FollowsMarked b ms o p (feed.left f))
  FollowsFile by_path file placed p o (Err fault) =
      (len : ℕ) × IsKnownLen by_path p.skip len × RefusesPcm o p len fault

module _ {F P D R W : Type 0} (feed : FeedGhosts F FeedFault) (pause : PauseGhosts P)
    (dial : DialGhosts D R W) (reader : Reader R) (writer : Writer W) where
  -- the requests of a feed were sent
  pub record SendsRequests (e : Errand) (begun : F) (old new : Ways P D) (did : Packing) : Type 0 where
    pub ended : F
    pub sent : Did
    pub sends : IsFeedSent feed pause dial reader writer e begun ended old new sent
    pub warned : did.warned ≡ Nothing
    pub prints : did.out ≡ sent.out
    pub reports : did.faults ≡ sent.faults
    pub exit_is : did.exit ≡ sent.exit

  -- what was opened was sent, or without any link it was reported why there is nothing to send
  abbrev pub SendsOpened : Errand → Result F OpenFault → Ways P D → Ways P D → Packing → Type 0
  SendsOpened e (Ok begun) old new did = SendsRequests e begun old new did
  SendsOpened e (Err fault) old new did = ReportsNoSamples e.path fault did × (new ≡ old)

  -- what is set can't be read, or memory was refused: nothing was opened
  abbrev pub RefusesOptions : PcmFile → Ways P D → Ways P D → Packing → Type 0
  RefusesOptions f old new did =
      (RefusesSettings (map string_bytes f.file.settings.now) f.file.strict f.file.frames did
      ⊎ RunsOutOfMemory did) × (new ≡ old)

  -- the command did this for a recorder with a file whose samples were opened so
  abbrev pub IsPcmSent : Recorder → PcmFile → (Options → Result F OpenFault → Type 0) → Ways P D →
      Ways P D → Packing → Type 0
  IsPcmSent recorder f opens old new did =
      RefusesOptions f old new did
      ⊎ ((o : Options) × (opened : Result F OpenFault)
      × (options_of (map string_bytes f.file.settings.now) f.file.strict f.file.frames ≡ Some o)
      × opens o opened × SendsOpened (errand_of recorder f.file) opened old new did)
