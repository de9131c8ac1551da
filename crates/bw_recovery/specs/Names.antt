-- What a start finds of a name, what may be wrong with it, and what becomes of it.
use Rattle.std.specs.Prelude.{ℕ, Bool, false, ◌&&◌, ◌||◌, Option, Some, None, option_map, Result, Ok, Err}
use Rattle.std.specs.Prelude.{List, [], ◌++◌, codes, take, drop, if◌then◌else◌}
use Rattle.std.specs.Option.{option_map_or}
use Rattle.std.specs.Str.{bytes_eq}
use Rattle.bw_model.specs.Layout.{head}
use Rattle.bw_journal.specs.Replays.{Story, JournalFault, NotBegun, Damaged, replay}
use Rattle.bw_recovery.specs.Files.{file_fault, file_after}
use Rattle.bw_recovery.specs.declared.fault.FileFault.{FileFault}

-- a form of this id begins with a first chunk of this id, with 28 bytes (BS.2088, RIFF)
abbrev pub begins_form : List ℕ → List ℕ → List ℕ → Bool
begins_form id first bytes =
    bytes_eq (take 4 bytes) id && bytes_eq (take 12 (drop 8 bytes)) (codes "WAVE" ++ head first 28)

-- a file begins as this server's takes do
abbrev pub begins_take : List ℕ → Bool
begins_take bytes =
    begins_form (codes "RIFF") (codes "JUNK") bytes
    || begins_form (codes "BW64") (codes "ds64") bytes

-- Why a name can't be resumed.
pub data NameFault : Type 0 where
  -- what its journal says
  OfJournal : JournalFault → NameFault
  -- what its file is
  OfFile : FileFault → NameFault

-- what is wrong with a name, by what its journal says and what its file is: a journal that
-- isn't begun has no file of this server, so that one shows that the journal was cut otherwise
abbrev pub fault_beside : ℕ → Result Story JournalFault → Option (List ℕ) → Option NameFault
fault_beside limit (Ok s) found = option_map OfFile (file_fault limit s.parts found)
fault_beside limit (Err NotBegun) found =
    if option_map_or begins_take found false then Some (OfJournal Damaged) else None
fault_beside limit (Err f) found = Some (OfJournal f)

-- what is wrong with a name's journal and file
abbrev pub name_fault : ℕ → List ℕ → List ℕ → Option (List ℕ) → Option NameFault
name_fault limit name journal found = fault_beside limit (replay limit name journal) found

-- what stays of a journal: its header and whole entries, or nothing if it isn't begun
abbrev pub kept_journal : Result Story JournalFault → List ℕ → List ℕ
kept_journal (Ok s) journal = take s.used journal
kept_journal (Err NotBegun) journal = []
kept_journal (Err f) journal = journal

-- what the file is afterwards
abbrev pub file_beside : ℕ → Result Story JournalFault → Option (List ℕ) → Option (List ℕ)
file_beside limit (Ok s) found = file_after limit s.parts found
file_beside limit (Err f) found = found
