-- What the calls of a journal leave under a name.
use Rattle.std.specs.Prelude.{◌≡◌, ◌⊎◌, ◌<◌, ◌≤◌, ◌&&◌, ℕ, Bool, Option, Some, None, List, ◌++◌}
use Rattle.std.specs.Prelude.{length, take, nat_le}
use Rattle.std.specs.Str.{bytes_eq}
use Rattle.bw_journal.specs.JournalHeaders.{Header, header_bytes}

-- there is nothing, or a prefix of these bytes
abbrev pub IsPrefixOf : List ℕ → Option (List ℕ) → Type 0
IsPrefixOf bytes found = (found ≡ None) ⊎ ((count : ℕ) × (found ≡ Some (take count bytes)))

-- there is nothing, or a prefix of them that isn't all of them
abbrev pub IsShortOf : List ℕ → Option (List ℕ) → Type 0
IsShortOf bytes found =
    (found ≡ None)
    ⊎ ((count : ℕ) × (found ≡ Some (take count bytes)) × (count < length bytes))

-- these bytes are at the start, whatever follows them
abbrev pub BeginsWith : List ℕ → Option (List ℕ) → Type 0
BeginsWith bytes found = (rest : List ℕ) × (found ≡ Some (bytes ++ rest))

-- the same as a test
abbrev pub has_prefix : List ℕ → List ℕ → Bool
has_prefix bytes content =
    nat_le (length bytes) (length content) && bytes_eq (take (length bytes) content) bytes

-- after these bytes were put at the start: they are there whole, and what followed them is kept
pub record Starts (bytes : List ℕ) (before after : Option (List ℕ)) : Type 0 where
  pub stands : BeginsWith bytes after
  pub written : IsPrefixOf bytes before → after ≡ Some bytes
  pub kept : BeginsWith bytes before → after ≡ before
  -- other bytes are never written over
  pub only : (after ≡ before) ⊎ IsPrefixOf bytes before

-- a failed try of that: no more than a prefix of them was written, and nothing over all of them
pub record StartsInPart (bytes : List ℕ) (before after : Option (List ℕ)) : Type 0 where
  pub prefix : IsPrefixOf bytes before → IsPrefixOf bytes after
  pub kept : BeginsWith bytes before → after ≡ before
  -- other bytes are never written over
  pub only : (after ≡ before) ⊎ IsPrefixOf bytes before

-- after a `begin` that succeeds
abbrev pub BeginsNotes : List ℕ → Header → Option (List ℕ) → Option (List ℕ) → Type 0
BeginsNotes name header before after = Starts (header_bytes name header) before after

-- after a `begin` that fails
abbrev pub BeginsInPart : List ℕ → Header → Option (List ℕ) → Option (List ℕ) → Type 0
BeginsInPart name header before after = StartsInPart (header_bytes name header) before after

-- After a `note` that succeeds: the bytes come after `offset` others, in place of a prefix of them.
abbrev pub Notes : ℕ → List ℕ → Option (List ℕ) → Option (List ℕ) → Type 0
Notes offset bytes before after =
    (base : List ℕ) (count : ℕ) →
    before ≡ Some (base ++ take count bytes) → length base ≡ offset →
    after ≡ Some (base ++ bytes)

-- After a `note` that fails: a prefix of them is there
abbrev pub NotesInPart : ℕ → List ℕ → Option (List ℕ) → Option (List ℕ) → Type 0
NotesInPart offset bytes before after =
    (base : List ℕ) (count : ℕ) →
    before ≡ Some (base ++ take count bytes) → length base ≡ offset →
    (reached : ℕ) × (after ≡ Some (base ++ take reached bytes))

-- the bytes come after this many others, in place of whatever was there
abbrev pub NotesOver : ℕ → List ℕ → Option (List ℕ) → Option (List ℕ) → Type 0
NotesOver offset bytes before after =
    (old : List ℕ) × (before ≡ Some old) × (offset ≤ length old)
    × (after ≡ Some (take offset old ++ bytes))

-- each name's journal begins with what it began with
abbrev pub KeepsHeaders : (List ℕ → Header) → (List ℕ → Header) → Type 0
KeepsHeaders before after = (name : List ℕ) → after name ≡ before name

-- of each name's notes no fewer bytes are committed
abbrev pub KeepsCommitted : (List ℕ → ℕ) → (List ℕ → ℕ) → Type 0
KeepsCommitted before after = (name : List ℕ) → before name ≤ after name
