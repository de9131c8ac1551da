-- What samples that were sent with status 0 are at the server.
use Rattle.std.specs.Prelude.{◌≡◌, ℕ, Bool, Option, Some, Ok, IsTrue, List, [], map, string_bytes}
use Rattle.bw_model.specs.Wire.{are_bytes}
use Rattle.bw_stream.specs.declared.sink.Sink.{Ghosts as Writer}
use Rattle.bw_stream.specs.declared.source.Source.{Ghosts as Reader}
use Rattle.bw_delivery.specs.Statement.{ServerKind}
use Rattle.bw_console.specs.Outcomes.{Outcome as Did}
use Rattle.bw_console.specs.declared.exit.Exit.TheVariants.{Done}
use Rattle.bw_ports.specs.declared.dial.Dial.{Ghosts as DialGhosts}
use Rattle.bw_ports.specs.declared.pause.Pause.{Ghosts as PauseGhosts}
use Rattle.bw_plan.specs.PcmRecordings.{pcm_recording_of}
use Rattle.bw_plan.specs.Recordings.{Options, Recording}
use Rattle.bw_recorder.specs.Packs.{Packing}
use Rattle.bw_recorder.specs.SettingLists.{options_of}
use Rattle.bw_upload.specs.declared.feed.Feed.{Ghosts as FeedGhosts}
use Rattle.bw_send_file.specs.FileSendings.{errand_of}
use Rattle.bw_send_file.specs.Sendings.{Ways}
use Rattle.bw_send_file.specs.declared.fault.FeedFault.{FeedFault}
use Rattle.bw_send_file.specs.declared.job.Recorder.{Recorder}
use Rattle.bw_end_to_end.specs.SentFiles.{StoresFeed}
use Rattle.bw_end_to_end.specs.Copies.{copy_of, plan_by}
use Rattle.bw_ports.specs.declared.recording_files.FileStamp.{FileStamp}
use Rattle.bw_send_file.specs.PcmSendings.{IsStampOf, IsPcmSent, OpensSamples, FollowsFile}
use Rattle.bw_send_file.specs.declared.pcm_job.PcmFile.{PcmFile}
use Rattle.bw_end_to_end.specs.SentCopies.{HasCopy, links_used}

module _ {F P D R W T : Type 0} (feed : FeedGhosts F FeedFault) (pause : PauseGhosts P)
    (dial : DialGhosts D R W) (reader : Reader R) (writer : Writer W) (kind : ServerKind T) where
  -- These bytes have this recording of headerless samples, each request of its plan is stored, and
  -- the server's file is its copy.
  pub record SendsSamplesCopy (recorder : Recorder) (file : PcmFile) (b : List ℕ)
      (old new : Ways P D) (o : Options) (r : Recording) : Type 0 where
    pub is : pcm_recording_of b o file.pcm ≡ Ok r
    pub begun : F
    pub ended : F
    pub did : Did
    pub stores : StoresFeed feed pause dial reader writer (errand_of recorder file.file) begun ended
        old new did (plan_by o r)
    pub copy : HasCopy feed pause dial reader writer kind recorder.name.now (plan_by o r)
        (links_used feed pause dial reader writer kind (errand_of recorder file.file) begun ended old
        new did (plan_by o r) stores) (copy_of r)

  -- the command line spells these options
  abbrev pub HasOptions : PcmFile → Options → Type 0
  HasOptions file o =
      options_of (map string_bytes file.file.settings.now) file.file.strict file.file.frames
      ≡ Some o

  -- It is so of a file of these bytes, if `send --file --pcm` ended with status 0, whatever its
  -- feed looks at again.
  abbrev pub FinishedSamplesAreCopied : Type 0
  FinishedSamplesAreCopied = (recorder : Recorder) (file : PcmFile) (b : List ℕ)
      (stamp : Option FileStamp) (old new : Ways P D) (did : Packing) → IsTrue (are_bytes b) →
      IsStampOf stamp b →
      IsPcmSent feed pause dial reader writer recorder file
      (OpensSamples feed (λ s f. Unit {0}) (Some b) stamp file.pcm) old new did →
      did.exit ≡ Done →
      (o : Options) × HasOptions file o
      × (r : Recording) × SendsSamplesCopy recorder file b old new o r

  -- .. of a file that has these bytes at its end, with `--follow` or as a spool, where they have a
  -- recording, and no markers are placed
  abbrev pub FollowedSamplesAreCopied : Type 0
  FollowedSamplesAreCopied = (by_path : Bool) (recorder : Recorder) (file : PcmFile) (b : List ℕ)
      (old new : Ways P D) (did : Packing) → IsTrue (are_bytes b) →
      IsPcmSent feed pause dial reader writer recorder file
      (FollowsFile feed by_path (Some b) (Some []) file.pcm) old new did →
      did.exit ≡ Done →
      (o : Options) × HasOptions file o × ((r : Recording) → pcm_recording_of b o file.pcm ≡ Ok r →
      SendsSamplesCopy recorder file b old new o r)
