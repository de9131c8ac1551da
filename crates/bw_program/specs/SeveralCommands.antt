-- What is done for the command line that sends several recordings.
use Rattle.std.specs.Prelude.{◌≡◌, ◌≢◌, ◌⊎◌, ◌++◌, ◌∷◌, [], ℕ, Bool, List, Option, None, Some, codes, map}
use Rattle.std.specs.Prelude.{option_map, string_bytes}
use Rattle.std.specs.Prelude.{if◌then◌else◌}
use Rattle.std.specs.Str.{bytes_eq}
use Rattle.bw_stream.specs.declared.sink.Sink.{Ghosts as Writer}
use Rattle.bw_args.specs.declared.recordings.FileSender.{FileSender}
use Rattle.bw_args.specs.declared.recordings.FilesSender.{FilesSender}
use Rattle.bw_args.specs.declared.recordings.ReceiptTarget.{ReceiptTarget}
use Rattle.bw_console.specs.Outcomes.{HasWritten, IsOutOfMemory, Outcome, PrintsText}
use Rattle.bw_console.specs.declared.exit.Exit.{Exit}
use Rattle.bw_console.specs.declared.exit.Exit.TheVariants as exits
use Rattle.bw_queue.specs.FolderRecordings.{path_within}
use Rattle.bw_queue.specs.Queues.{given_path}
use Rattle.bw_queue.specs.declared.recording.QueuedRecording.{QueuedRecording}
use Rattle.bw_queue.specs.declared.request.QueueRequest.{QueueRequest}
use Rattle.bw_report.specs.FileFindings.{worse}
use Rattle.bw_report.specs.Receipts.{standard_output}

-- the path of the state of a recording of this name, in a folder of states
abbrev pub state_path : List ℕ → List ℕ → List ℕ
state_path folder name = path_within folder (name ++ codes ".state")

-- where receipts go, and whether they are lines of JSON
abbrev pub target_parts : Option ReceiptTarget → Option (List ℕ × Bool)
target_parts target = option_map (λ t. (string_bytes t.path, t.json)) target

-- the sender of one of several recordings, as a command line for it alone asks for it
pub record IsSenderOf (several : FilesSender) (recording : QueuedRecording) (sender : FileSender)
    : Type 0 where
  pub connects : sender.connect ≡ several.connect
  pub named : sender.name ≡ recording.name
  pub located : string_bytes sender.source.path ≡ string_bytes recording.path
  pub settings : map string_bytes sender.source.settings.items ≡ map string_bytes several.settings.items
  pub strict : sender.source.strict ≡ several.strict
  pub strict_texts : sender.source.strict_texts ≡ several.strict_texts
  pub keeps_none : sender.source.left_out ≡ None
  pub waits : sender.timeout ≡ several.timeout
  pub tries : sender.fruitless ≡ several.fruitless
  pub logs : sender.log ≡ several.log
  pub state : option_map string_bytes sender.state
      ≡ option_map (λ folder. state_path (string_bytes folder) recording.name) several.states
  pub receipt : target_parts sender.receipt ≡ target_parts several.receipt
  pub paced : sender.rate ≡ several.rate

-- the path of the file that receipts are added to, unless they are printed
abbrev pub receipts_path : Option ReceiptTarget → Option (List ℕ)
receipts_path None = None
receipts_path (Some target) =
    if bytes_eq (string_bytes target.path) standard_output then None else Some (string_bytes target.path)

-- which recordings are asked for
pub record IsRequestOf (several : FilesSender) (request : QueueRequest) : Type 0 where
  pub paths : map string_bytes request.paths.now ≡ map string_bytes several.paths.items
  pub names : given_path request.names ≡ option_map string_bytes several.names
  pub receipts : given_path request.receipts ≡ receipts_path several.receipt

-- the line that names a recording, after this word
unfoldable pub queue_line : List ℕ → QueuedRecording → List ℕ
queue_line word recording =
    word ++ (codes " " ++ (recording.name ++ (codes " " ++ (string_bytes recording.path ++ 10 ∷ []))))

-- a line was printed, or it can't be, which is reported
pub record PrintsQueueLine {O E : Type 0} (out : Writer O) (reported : Writer E) (line : List ℕ) (exit : Exit)
    (o o' : O) (e e' : E) : Type 0 where
  pub did : Outcome
  pub ends : did.exit ≡ exit
  pub is : PrintsText line did ⊎ IsOutOfMemory did
  pub writes : HasWritten out reported did o o' e e'

-- this was done after something that ended so, unless memory was refused; the one of the higher status is the
-- exit of both
abbrev pub DoesAfter : {W : Type 0} → (Exit → W → W → Type 0) → Exit → Exit → W → W → Type 0
DoesAfter does exits.Memory exit w w' = (exit ≡ exits.Memory) × (w' ≡ w)
DoesAfter does said exit w w' = (done : Exit) × does done w w' × (exit ≡ worse said done)

-- this was done with each of these in turn, until memory was refused; it ends as the one does whose status is
-- the highest
abbrev pub DoesInTurn : {R W : Type 0} → (R → Exit → W → W → Type 0) → List R → Exit → W → W → Type 0
DoesInTurn does [] exit w w' = (exit ≡ exits.Done) × (w' ≡ w)
DoesInTurn {R} {W} does (r ∷ rs) exit w w' = (first : Exit) × (mid : W) × does r first w mid
    × (((first ≡ exits.Memory) × (exit ≡ exits.Memory) × (w' ≡ mid))
    ⊎ ((first ≢ exits.Memory) × ((rest : Exit) × DoesInTurn does rs rest mid w' × (exit ≡ worse first rest))))
