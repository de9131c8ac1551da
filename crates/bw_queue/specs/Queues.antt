-- The recordings that a sender of several sends, and why it sends none.
use Rattle.std.specs.Prelude.{◌≡◌, ◌⊎◌, ℕ, List, [], Option, None, Some, length, map, option_map}
use Rattle.std.specs.Prelude.{string_bytes}
use Rattle.std.specs.Borrow.{Bor}
use Rattle.bw_take_files.specs.declared.receipts.receipt.Receipt.{Receipt}
use Rattle.bw_queue.specs.FolderRecordings.{EachGives, SaysEmptyFolder, SaysUnlisted, StandsForPaths}
use Rattle.bw_queue.specs.KeptReceipts.{HasBadLine, SaysAllBut, ended_lines}
use Rattle.bw_queue.specs.NamedRecordings.{AreNamedApart, AreNamed, SaysAlike, SaysNameless}
use Rattle.bw_queue.specs.Namings.{AreGoodBefore, IsFirstBadNaming, naming_lines}
use Rattle.bw_queue.specs.QueueFaults.{bad_naming_text, no_receipt_text, unreadable_text}
use Rattle.bw_queue.specs.QueueSides.{QueueSide}
use Rattle.bw_queue.specs.declared.recording.QueuedRecording.{QueuedRecording}
use Rattle.bw_queue.specs.declared.request.Queue.{Queue}
use Rattle.bw_queue.specs.declared.request.QueueRequest.{QueueRequest}

-- the bytes of a path, if there is one
abbrev pub given_path : Option (Bor (List ℕ)) → Option (List ℕ)
given_path path = option_map (λ p. p.now) path

-- the text of the file of names, which is empty without one
abbrev pub GivesText : (List ℕ → Option (List ℕ) → Type 0) → Option (List ℕ) → List ℕ → Type 0
GivesText reads None text = text ≡ []
GivesText reads (Some path) text = reads path (Some text)

-- the receipts of a file, if there is one
abbrev pub HasKept : Option (List ℕ) → List Receipt → Type 0
HasKept None receipts = receipts ≡ []
HasKept (Some text) receipts = SaysAllBut text receipts

-- the receipts that are there already
abbrev pub GivesReceipts : (List ℕ → Option (List ℕ) → Type 0) → Option (List ℕ) → List Receipt → Type 0
GivesReceipts reads None receipts = receipts ≡ []
GivesReceipts reads (Some path) receipts =
    (found : Option (List ℕ)) × reads path found × HasKept found receipts

-- the recordings at these paths, named by a text, each with a name of its own
pub record AreNamedBy (text : List ℕ) (paths : List (List ℕ)) (recordings : List QueuedRecording)
    : Type 0 where
  pub good : AreGoodBefore (length (naming_lines text)) (naming_lines text)
  pub named : AreNamed (naming_lines text) paths recordings
  pub apart : AreNamedApart recordings

-- the line of the first line of the file of names that isn't good
abbrev pub SaysBadNaming : List ℕ → List ℕ → List ℕ → Type 0
SaysBadNaming path text line = (number : ℕ) × IsFirstBadNaming (naming_lines text) number
    × (line ≡ bad_naming_text path number)

-- the line that says why a text gives the recordings at these paths no names
abbrev pub SaysUnnamed : List ℕ → List ℕ → List (List ℕ) → List ℕ → Type 0
SaysUnnamed path text paths line = SaysBadNaming path text line
    ⊎ (SaysNameless (naming_lines text) paths line
    ⊎ ((recordings : List QueuedRecording) × AreNamed (naming_lines text) paths recordings
    × SaysAlike recordings line))

-- the path of the file of names, or none
abbrev pub names_path : Option (List ℕ) → List ℕ
names_path None = []
names_path (Some path) = path

-- the line of a line of the file of receipts that is none
abbrev pub SaysBadReceipt : (List ℕ → Option (List ℕ) → Type 0) → Option (List ℕ) → List ℕ → Type 0
SaysBadReceipt reads None line = ⊥
SaysBadReceipt reads (Some path) line = (text : List ℕ) × reads path (Some text)
    × ((number : ℕ) × HasBadLine (ended_lines text) number × (line ≡ no_receipt_text path number))

-- the line of a file that can't be read
abbrev pub SaysUnreadable : Option (List ℕ) → List ℕ → Type 0
SaysUnreadable None line = ⊥
SaysUnreadable (Some path) line = line ≡ unreadable_text path

-- this is what is asked for: the recordings of all paths, with the names of the file of names, and what is in
-- the file of receipts
pub record IsQueue (side : QueueSide) (request : QueueRequest) (queue : Queue) : Type 0 where
  pub text : List ℕ
  pub given : GivesText side.reads (given_path request.names) text
  pub paths : List (List ℕ)
  pub found : EachGives (StandsForPaths side) (map string_bytes request.paths.now) paths
  pub named : AreNamedBy text paths queue.recordings.items
  pub known : GivesReceipts side.reads (given_path request.receipts) queue.receipts.items

-- the line that says what is wrong with what is asked for
abbrev pub SaysRefused : QueueSide → QueueRequest → List ℕ → Type 0
SaysRefused side request line = SaysBadReceipt side.reads (given_path request.receipts) line
    ⊎ (SaysEmptyFolder side (map string_bytes request.paths.now) line
    ⊎ ((text : List ℕ) × GivesText side.reads (given_path request.names) text
    × ((paths : List (List ℕ)) × EachGives (StandsForPaths side) (map string_bytes request.paths.now) paths
    × SaysUnnamed (names_path (given_path request.names)) text paths line)))

-- the line that says what can't be read
abbrev pub SaysUnread : QueueSide → QueueRequest → List ℕ → Type 0
SaysUnread side request line = SaysUnreadable (given_path request.names) line
    ⊎ (SaysUnreadable (given_path request.receipts) line
    ⊎ SaysUnlisted side (map string_bytes request.paths.now) line)

-- there is no file at this path
abbrev pub IsMissing : (List ℕ → Option (List ℕ) → Type 0) → Option (List ℕ) → Type 0
IsMissing reads None = ⊥
IsMissing reads (Some path) = reads path None
