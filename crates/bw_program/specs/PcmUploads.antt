-- What is done for the command lines that send headerless samples.
use Rattle.std.specs.Prelude.{◌≡◌, ◌⊎◌, ◌++◌, ℕ, Bool, true, false, List, Option, Some, None, is_some}
use Rattle.std.specs.Prelude.{map, min, option_map, string_bytes}
use Rattle.bw_stream.specs.declared.sink.Sink.{Ghosts as Writer}
use Rattle.bw_args.specs.declared.recordings.PcmSender.{PcmSender}
use Rattle.bw_console.specs.Prints.{failures_if}
use Rattle.bw_console.specs.declared.exit.Exit.{Exit}
use Rattle.bw_ports.specs.declared.network.Network.{Ghosts as NetworkGhosts}
use Rattle.bw_ports.specs.declared.recording_files.RecordingFiles.{Ghosts as FileGhosts}
use Rattle.bw_recorder.specs.Packs.{HasPacked, Packing, RunsOutOfMemory}
use Rattle.bw_send_file.specs.Sendings.{Ways}
use Rattle.bw_send_file.specs.declared.job.Recorder.{Recorder}
use Rattle.bw_send_file.specs.GrowingSendings.{IsGrowingSent}
use Rattle.bw_send_file.specs.PcmSendings.{FollowsFile, IsPcmSent, OpensSamples, placed_in}
use Rattle.bw_send_file.specs.declared.pcm_job.PcmFile.{PcmFile}
use Rattle.bw_live.specs.Defaults.{AreDefaults}
use Rattle.bw_live.specs.declared.filled.Filled.{Filled}
use Rattle.bw_program.specs.RecordingCommands.{strictness_of}
use Rattle.bw_program.specs.declared.samples.Ending.{Ending}
use Rattle.bw_program.specs.declared.samples.Ending.TheVariants as endings
use Rattle.bw_program.specs.Sides.{SenderSide, SpoolSide, UploadSide}

-- the recorder that a command line asks for
pub record IsPcmRecorderOf (sender : PcmSender) (recorder : Recorder) : Type 0 where
  pub named : recorder.name.now ≡ sender.name
  pub ends : recorder.fruitless ≡ sender.fruitless

-- the greatest number of channels, and of bits, that a format's field holds
abbrev pub most_in_field : ℕ
most_in_field = 65_535

-- the file of headerless samples that a command line names, with what these texts set; numbers that their
-- fields don't hold are refused as the greatest that they hold is
pub record IsPcmFileOf (sender : PcmSender) (texts : List (List ℕ)) (file : PcmFile) : Type 0 where
  pub path : file.file.path.now ≡ string_bytes sender.source.path
  pub settings : map string_bytes file.file.settings.now ≡ texts
  pub strict : file.file.strict ≡ strictness_of sender.source
  pub blocks : file.file.frames ≡ sender.pcm.block
  pub rate : file.pcm.rate ≡ sender.pcm.rate
  pub channels : file.pcm.channels ≡ min sender.pcm.channels most_in_field
  pub bits : file.pcm.bits ≡ min sender.pcm.bits most_in_field
  pub begins : file.pcm.skip ≡ sender.pcm.skip
  pub marked : option_map (λ path. path.now) file.marks ≡ option_map string_bytes sender.pcm.marks

-- by what the end of a recording that is still made is known: a path (true) or the end of standard
-- input (false); None if it has ended already
abbrev pub awaited_end : {T : Type 0} → Bool → Option T → Option Bool
awaited_end true until = Some false
awaited_end false (Some until) = Some true
awaited_end false None = None

-- the same, of what awaits the end
abbrev pub file_awaited : Ending → Option Bool
file_awaited endings.Past = None
file_awaited (endings.Awaited until) = Some (is_some until)

module _ {U J F H G M Q N X P R W D A B O E K : Type 0} (upload : UploadSide U J Q)
    (side : SenderSide D A B) (network : NetworkGhosts N X P D R W A B) (files : FileGhosts F H G M)
    (spools : SpoolSide F K) (out : Writer O) (reported : Writer E) where
  -- the samples were sent: of a file as it is; or, of a recording that is still made, of one that is
  -- still being written, by another program or from standard input
  abbrev pub SendsSamples : Option Bool → Recorder → PcmFile → F → Ways Q D → Ways Q D →
      Packing → Type 0
  SendsSamples None recorder file f old new did =
      IsPcmSent upload.feed upload.pause side.dial side.replies side.requests recorder file
      (OpensSamples upload.feed upload.looks_at (files.file_at f file.file.path.now)
      (files.stamp_at f file.file.path.now) file.pcm) old new did
  SendsSamples (Some by_path) recorder file f old new did =
      IsPcmSent upload.follow upload.pause side.dial side.replies side.requests recorder file
      (FollowsFile upload.follow by_path (files.file_at f file.file.path.now)
      (placed_in spools.points_at f file) file.pcm) old new did

  -- they were sent over links that are made so, after such pauses, with what these texts set
  pub record SendsPcm (sender : PcmSender) (texts : List (List ℕ)) (exit : Exit) (f f' : F) (n : N) (q q' : Q)
      (o o' : O) (e e' : E) : Type 0 where
    pub first : D
    pub calls : network.calls n sender.connect (Some sender.timeout) first
    pub last : D
    pub recorder : Recorder
    pub recorder_is : IsPcmRecorderOf sender recorder
    pub file : PcmFile
    pub file_is : IsPcmFileOf sender texts file
    pub did : Packing
    pub ends : did.exit ≡ exit
    pub awaits : Option Bool
    pub awaits_is : awaits ≡ awaited_end sender.pcm.is_spooled sender.pcm.until
    -- of a format that is said, or else of one in the file's header
    pub is : sender.pcm.in_header ≡ false → SendsSamples awaits recorder file f
        (record { pause = q; dial = first }) (record { pause = q'; dial = last }) did
    pub grows : sender.pcm.in_header ≡ true → IsGrowingSent upload.follow upload.pause side.dial
        side.replies side.requests recorder file.file (files.file_at f file.file.path.now)
        (record { pause = q; dial = first }) (record { pause = q'; dial = last }) did
    pub failures : files.failures f' ≡ failures_if did.is_system_well (files.failures f)
    pub writes : HasPacked out reported did o o' e e'

  -- memory was refused before anything was done
  pub record GivesUpSamples (exit : Exit) (f f' : F) (q q' : Q) (o o' : O) (e e' : E) : Type 0 where
    pub did : Packing
    pub ends : did.exit ≡ exit
    pub is : RunsOutOfMemory did
    pub files_are : f' ≡ f
    pub unpaused : q' ≡ q
    pub writes : HasPacked out reported did o o' e e'

  -- they were sent with what fills these fields, and after it what the command line sets, unless memory was
  -- refused
  abbrev pub SendsFilled : PcmSender → Filled → Exit → F → F → N → Q → Q → O → O → E → E → Type 0
  SendsFilled sender filled exit f f' n q q' o o' e e' =
      ((texts : List (List ℕ))
      × AreDefaults filled sender.name sender.pcm.rate sender.pcm.channels sender.pcm.bits texts
      × SendsPcm sender (texts ++ map string_bytes sender.source.settings.items) exit f f' n q q' o o' e e')
      ⊎ GivesUpSamples exit f f' q q' o o' e e'
