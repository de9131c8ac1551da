-- Why recordings aren't sent, in a line.
use Rattle.std.specs.Prelude.{⊤, ℕ, List, ◌++◌, codes, decimal, string_bytes}
use Rattle.bw_queue.specs.declared.fault.QueueFault.{QueueFault}
use Rattle.bw_queue.specs.declared.fault.QueueFault.TheVariants.{Refused, Unread, Memory}

-- the line of a refusal says this, and that of what can't be read this
abbrev pub FaultSays : (List ℕ → Type 0) → (List ℕ → Type 0) → QueueFault → Type 0
FaultSays refuses reads (Refused line) = refuses (string_bytes line)
FaultSays refuses reads (Unread line) = reads (string_bytes line)
FaultSays refuses reads Memory = ⊤

-- of a path that makes no name, and has none
unfoldable pub nameless_text : List ℕ → List ℕ
nameless_text path = path ++ codes ": no name: use --names\n"

-- of two recordings that would have one name
unfoldable pub alike_text : List ℕ → List ℕ → List ℕ
alike_text first second = first ++ codes " and " ++ second ++ codes ": one name for both: use --names\n"

-- of a folder without recordings
unfoldable pub no_recordings_text : List ℕ → List ℕ
no_recordings_text folder = folder ++ codes ": no recordings\n"

-- of a line of a file of names
unfoldable pub bad_naming_text : List ℕ → ℕ → List ℕ
bad_naming_text path number =
    path ++ codes " line " ++ decimal number ++ codes ": not a new path with its name\n"

-- of a line of a file of receipts
unfoldable pub no_receipt_text : List ℕ → ℕ → List ℕ
no_receipt_text path number = path ++ codes " line " ++ decimal number ++ codes ": not a receipt\n"

-- of a file or a folder
unfoldable pub unreadable_text : List ℕ → List ℕ
unreadable_text path = path ++ codes " can't be read\n"
