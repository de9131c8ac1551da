-- What `send --file --state` stored, if it ended with status 0.
use Rattle.std.specs.Prelude.{◌≡◌, ℕ, Option, None, IsTrue, List, [], ◌++◌}
use Rattle.std.specs.List.{list_all}
use Rattle.bw_model.specs.Take.{Request}
use Rattle.bw_model.specs.Wire.{is_name, is_request}
use Rattle.bw_model.specs.World.{Sender}
use Rattle.bw_stream.specs.declared.sink.Sink.{Ghosts as Writer}
use Rattle.bw_stream.specs.declared.source.Source.{Ghosts as Reader}
use Rattle.bw_ports.specs.declared.dial.Dial.{Ghosts as DialGhosts}
use Rattle.bw_ports.specs.declared.pause.Pause.{Ghosts as PauseGhosts}
use Rattle.bw_ports.specs.declared.recording_files.FileStamp.{FileStamp}
use Rattle.bw_plan.specs.Plans.{plan}
use Rattle.bw_plan.specs.Recordings.{Options, Recording, block_frames}
use Rattle.bw_upload.specs.Courses.{starts}
use Rattle.bw_upload.specs.declared.feed.Feed.{Ghosts as FeedGhosts}
use Rattle.bw_send_file.specs.Sendings.{Ways}
use Rattle.bw_send_file.specs.declared.fault.FeedFault.{FeedFault}
use Rattle.bw_send_file.specs.SentOn.{StoresRecording, UploadsAll, WasStoredBefore}
use Rattle.bw_send_file.specs.declared.resumed_job.Job.{Job}
use Rattle.bw_delivery.specs.Statement.{LinkBytes}
use Rattle.bw_end_to_end.specs.UploadedLinks.{links_in_course}
use Rattle.bw_end_to_end.specs.UsedLinks.{UsedLink, AreSenderEnds, SendsOnOver}
use Rattle.bw_end_to_end.specs.UsedLinks.{HasAllStored, PendingHaveNumbers}

-- the requests of a recording with these options
abbrev pub requests_planned : Options → Recording → List Request
requests_planned o r = plan (block_frames o r.outline.format) r

module _ {F P D R W : Type 0} (feed : FeedGhosts F FeedFault) (pause : PauseGhosts P)
    (dial : DialGhosts D R W) (reader : Reader R) (writer : Writer W) where
  -- An upload went on from this sender. These requests were offered then, those before included, and
  -- no others, and all are stored.
  pub record StoresRest (most : Option ℕ) (requests : List Request) (s : Sender) (old new : Ways P D)
      : Type 0 where
    pub sent : UploadsAll feed pause dial reader writer most requests s old new
    pub all : sent.went.last.filling.sender.offered ++ [] ≡ requests
    pub numbered : PendingHaveNumbers s
    pub stored : HasAllStored requests sent.went.last.filling.sender.verdicts

  -- It is so with all requests of the recording, if the command ended with status 0, for each sender
  -- that had the first of them stored: those that the command passed over.
  abbrev pub RecordingsAreStored : Type 0
  RecordingsAreStored = (state : Option (List ℕ)) (stamp : Option FileStamp) (job : Job) (count : ℕ)
      (b : List ℕ) (old new : Ways P D)
      (r : StoresRecording feed pause dial reader writer state stamp job count b old new) (s : Sender) →
      WasStoredBefore job.recorder.name.now count (requests_planned r.o r.sent.recording) s →
      StoresRest job.recorder.fruitless (requests_planned r.o r.sent.recording) s old new

  -- the links of the upload that went on
  abbrev pub links_after : (most : Option ℕ) (requests : List Request) (s : Sender) (old new : Ways P D) →
      UploadsAll feed pause dial reader writer most requests s old new → List (UsedLink R W)
  links_after most requests s old new sent =
      links_in_course feed pause dial reader writer most None sent.went.events
      (starts s sent.begun old.pause old.dial) sent.went.last sent.went.went

  -- What it wrote over them are the requests, and each verdict that its sender has it had before, or
  -- it came over one of them.
  abbrev pub RestsSendRequests : Type 0
  RestsSendRequests = (most : Option ℕ) (requests : List Request) (s : Sender) (old new : Ways P D)
      (x : StoresRest most requests s old new) (links : List (ℕ × LinkBytes)) →
      IsTrue (is_name s.name) → IsTrue (list_all is_request requests) →
      AreSenderEnds reader writer (links_after most requests s old new x.sent) links →
      SendsOnOver requests s x.sent.went.last.filling.sender links
