-- What is stored once a recording was sent from where its state says.
use Rattle.std.specs.Prelude.{◌≡◌, ℕ, List, Option, Some, Ok, map, string_bytes, take}
use Rattle.sha2.specs.Sha256.{sha256}
use Rattle.bw_model.specs.Take.{Request, Stored}
use Rattle.bw_model.specs.World.{Sender as Defined}
use Rattle.bw_stream.specs.declared.sink.Sink.{Ghosts as Writer}
use Rattle.bw_stream.specs.declared.source.Source.{Ghosts as Reader}
use Rattle.bw_ports.specs.declared.dial.Dial.{Ghosts as DialGhosts}
use Rattle.bw_ports.specs.declared.pause.Pause.{Ghosts as PauseGhosts}
use Rattle.bw_ports.specs.declared.recording_files.FileStamp.{FileStamp}
use Rattle.bw_plan.specs.Plans.{plan}
use Rattle.bw_plan.specs.Recordings.{Options, Recording, recording_of, block_frames}
use Rattle.bw_recorder.specs.SettingLists.{options_of}
use Rattle.bw_ports.specs.Headers.{Origin, state_header}
use Rattle.bw_sender.specs.Senders.{HasStored}
use Rattle.bw_sender.specs.declared.sender.Sender.{Sender}
use Rattle.bw_upload.specs.WholeUploads.{Uploads}
use Rattle.bw_upload.specs.declared.feed.Feed.{Ghosts as FeedGhosts}
use Rattle.bw_upload.specs.declared.outcome.Outcome.{Outcome}
use Rattle.bw_send_file.specs.Sendings.{StoresAll, Ways}
use Rattle.bw_send_file.specs.declared.fault.FeedFault.{FeedFault}
use Rattle.bw_send_file.specs.declared.job.Recorder.{Recorder}
use Rattle.bw_send_file.specs.Asks.{HasAnswered}
use Rattle.bw_send_file.specs.declared.resumed_job.Job.{Job}
use Rattle.bw_send_file.specs.FoundCounts.{ResumesAt, IsCountFound}
use Rattle.bw_send_file.specs.TakeOpenings.{first_block_len, frames_before_block}

-- A sender to which the first so many of these requests were offered, none of them a CLOSE, and each of
-- them is stored: those that are passed over. It says nothing of the state's file or of a server.
pub record WasStoredBefore (name : List ℕ) (count : ℕ) (requests : List Request) (s : Defined)
    : Type 0 where
  pub has : HasStored name count s
  pub first : s.offered ≡ take count requests

-- the sender to which these requests were offered, each of them stored
abbrev pub stored_sender : List ℕ → List Request → Defined
stored_sender name first =
    record { name = name; offered = first; verdicts = map (λ r. Some Stored) first }

-- what the state is about of a take with these requests, sent to this address from a file with this
-- stamp
abbrev pub origin_for : List ℕ → List ℕ → FileStamp → List Request → Origin
origin_for name address stamp requests = record {
  name = name;
  address = address;
  len = stamp.len;
  changed = stamp.changed;
  block = first_block_len requests;
  opening = sha256 (frames_before_block name 0 requests);
}

-- the header of the state of the recording in these bytes, in a file with this stamp, if it is
-- reported
pub record IsHeaderFor (name address : List ℕ) (stamp : Option FileStamp) (o : Options)
    (b header : List ℕ) : Type 0 where
  pub recording : Recording
  pub is : recording_of b o ≡ Ok recording
  pub first : FileStamp
  pub stamped : (reported : FileStamp) → stamp ≡ Some reported → first ≡ reported
  pub header_is : header ≡ state_header (origin_for name address first
      (plan (block_frames o recording.outline.format) recording))

module _ {F P D R W : Type 0} (feed : FeedGhosts F FeedFault) (pause : PauseGhosts P)
    (dial : DialGhosts D R W) (reader : Reader R) (writer : Writer W) where
  -- from this sender and these ways on an upload went so that each of these requests was offered, and
  -- is stored
  pub record UploadsAll (most : Option ℕ) (requests : List Request) (s : Defined) (old new : Ways P D)
      : Type 0 where
    pub begun : F
    pub ended : F
    pub outcome : Outcome FeedFault
    pub sender : Sender
    pub went : Uploads feed pause dial reader writer most s sender outcome begun ended
        old.pause new.pause old.dial new.dial
    pub stores : StoresAll requests went.last.filling.sender

  -- each request of the recording in these bytes is stored: the first so many of the sender that had
  -- them so before, and the others as it heard
  pub record SendsRest (recorder : Recorder) (o : Options) (count : ℕ) (b : List ℕ) (old new : Ways P D)
      : Type 0 where
    pub recording : Recording
    pub is : recording_of b o ≡ Ok recording
    pub sends : (s : Defined) →
        WasStoredBefore recorder.name.now count
        (plan (block_frames o recording.outline.format) recording) s →
        UploadsAll recorder.fruitless (plan (block_frames o recording.outline.format) recording) s old new

  -- .. where so many is what the state of this recording says, and the server expects no less, or 0
  pub record StoresRecording (state : Option (List ℕ)) (stamp : Option FileStamp) (job : Job) (count : ℕ)
      (b : List ℕ) (old new : Ways P D) : Type 0 where
    pub o : Options
    pub asked : options_of (map string_bytes job.file.settings.now) job.file.strict
        job.file.frames ≡ Some o
    pub header : List ℕ
    pub of_take : IsHeaderFor job.recorder.name.now job.place.address.now stamp o b header
    pub found : ℕ
    pub found_is : IsCountFound state header found
    pub begins : ResumesAt found (HasAnswered dial reader job.recorder.name.now) count
    pub sent : SendsRest job.recorder o count b old new
