-- What is reported of a path at which something else than a file is.
use Rattle.std.specs.Prelude.{◌≡◌, ◌⊎◌, ℕ, [], ◌∷◌, ◌++◌, Bool, true, false, not, List, codes}
use Rattle.bw_console.specs.Faults.{input_fault_text}
use Rattle.bw_console.specs.Prints.{Print, IsOf}
use Rattle.bw_console.specs.Text.{as_line}
use Rattle.bw_console.specs.declared.exit.Exit.{Exit}
use Rattle.bw_console.specs.declared.exit.Exit.TheVariants as exits
use Rattle.bw_console.specs.declared.fault.Fault.TheVariants as faults
use Rattle.bw_ports.specs.declared.file_kind.FileKind.{FileKind}
use Rattle.bw_ports.specs.declared.file_kind.FileKind.TheVariants as kinds

-- it is known to be something else than a file, or, where it is to be a spool, something that the
-- system would open though nothing is kept there
abbrev pub is_odd_kind : FileKind → Bool → Bool
is_odd_kind kinds.Regular is_spool = false
is_odd_kind kinds.Unknown is_spool = false
is_odd_kind kinds.Folder is_spool = not is_spool
is_odd_kind kinds.Pipe is_spool = true
is_odd_kind kinds.Socket is_spool = not is_spool
is_odd_kind kinds.Device is_spool = true

-- what it is called
abbrev pub kind_words : FileKind → List ℕ
kind_words kinds.Regular = codes "a file"
kind_words kinds.Unknown = codes "unknown"
kind_words kinds.Folder = codes "a directory"
kind_words kinds.Pipe = codes "a pipe"
kind_words kinds.Socket = codes "a socket"
kind_words kinds.Device = codes "a device"

-- what to do in place of naming it: samples in a pipe are spooled, unless it is the spool
abbrev pub hint_words : FileKind → Bool → List ℕ
hint_words kinds.Pipe false = codes ": use --spool"
hint_words _ is_spool = []

-- the line of a path
abbrev pub odd_line : List ℕ → List ℕ → List ℕ → List ℕ
odd_line path words hint = path ++ (codes " is " ++ (words ++ (hint ++ 10 ∷ [])))

-- how the command ends, and what is reported: the line, or that there was no memory for it
abbrev pub IsKindReport : List ℕ → FileKind → Bool → Exit → Print → Type 0
IsKindReport path kind is_spool exit print =
    ((exit ≡ exits.Device) × IsOf (odd_line path (kind_words kind) (hint_words kind is_spool)) print)
    ⊎ ((exit ≡ exits.Memory) × IsOf (as_line (input_fault_text faults.Memory)) print)
