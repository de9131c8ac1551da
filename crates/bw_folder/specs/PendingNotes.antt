-- Notes that are kept in memory until a commit writes them.
use Rattle.std.specs.Prelude.{◌≡◌, ◌≤◌, ◌-◌, ◌⊎◌, ◌||◌, if◌then◌else◌, ℕ, Bool, true, false, IsTrue, List, []}
use Rattle.std.specs.Prelude.{◌∷◌, ◌++◌, length, take, map, Option, Some, option_map, unwrap_or, Result, OnOk}
use Rattle.std.specs.Prelude.{OnErr}
use Rattle.std.specs.List.{find, list_any}
use Rattle.std.specs.Option.{option_map_or}
use Rattle.std.specs.Str.{bytes_eq}
use Rattle.bw_journal.specs.JournalHeaders.{header_len}
use Rattle.bw_journal.specs.Notes.{Notes, NotesInPart}
use Rattle.bw_store.specs.Stores.{KeepsOthers}
use Rattle.bw_folder.specs.Journals.{notes_at}
use Rattle.bw_folder.specs.declared.journal.OpenJournal.{OpenJournal}

-- what is pending of a name: bytes that come after this many of its journal's file, and whether a
-- number among them wrote to its take's file
pub record UnwrittenNotes : Type 0 where
  pub place : ℕ
  pub bytes : List ℕ
  pub writes : Bool

-- nothing is
abbrev pub no_pending : UnwrittenNotes
no_pending = record { place = 0; bytes = []; writes = false }

-- of an open journal
abbrev pub unwritten_at : {F : Type 0} → OpenJournal F → UnwrittenNotes
unwritten_at j = record { place = j.place; bytes = j.pending.items; writes = j.writes }

-- of each open journal, by name
abbrev pub pendings : {F : Type 0} → List (OpenJournal F) → List (List ℕ × UnwrittenNotes)
pendings journals = map (λ j. (j.name, unwritten_at j)) journals

-- of a name
abbrev pub unwritten_of : List (List ℕ × UnwrittenNotes) → List ℕ → UnwrittenNotes
unwritten_of all name =
    unwrap_or (option_map (λ it. it.1) (find (λ it. bytes_eq it.0 name) all)) no_pending

-- some bytes are
abbrev pub waits : List ℕ → Bool
waits [] = false
waits (b ∷ bs) = true

-- what is noted, by what is in the file: pending bytes stand for whatever comes after their place
abbrev pub with_pending : ℕ → List ℕ → Option (List ℕ) → Option (List ℕ)
with_pending place [] found = found
with_pending place (b ∷ bs) found = option_map (λ content. take place content ++ b ∷ bs) found

abbrev pub noted_with : UnwrittenNotes → Option (List ℕ) → Option (List ℕ)
noted_with p found = with_pending p.place p.bytes found

-- what is noted under a name, by what is pending and the content of each path
abbrev pub noted_at : List (List ℕ × UnwrittenNotes) → (List ℕ → Option (List ℕ)) → List ℕ →
    List ℕ → Option (List ℕ)
noted_at all contents folder name = noted_with (unwritten_of all name) (notes_at contents folder name)

-- how many bytes a file has, if there is one
abbrev pub length_of : Option (List ℕ) → ℕ
length_of found = option_map_or length found 0

-- the same of a name's journal
abbrev pub length_at : (List ℕ → Option (List ℕ)) → List ℕ → List ℕ → ℕ
length_at contents folder name = length_of (notes_at contents folder name)

-- the same is pending of each name
abbrev pub KeepsPending : List (List ℕ × UnwrittenNotes) → List (List ℕ × UnwrittenNotes) → Type 0
KeepsPending before after = (name : List ℕ) → unwritten_of after name ≡ unwritten_of before name

-- After a try to note bytes at an offset under a name, on an honest disk: the bytes follow the first
-- ones, or if it failed a prefix of them, and each other name has what it had.
pub record NotesAt {T E : Type 0} (offset : ℕ) (bytes : List ℕ) (answer : Result T E) (name : List ℕ)
    (before after : List ℕ → Option (List ℕ)) : Type 0 where
  pub noted : OnOk answer (Notes offset bytes (before name) (after name))
  pub failed : OnErr answer (NotesInPart offset bytes (before name) (after name))
  pub others : KeepsOthers before after name

-- Bytes are pending only with syncs, and then the file has what comes before them, the header at least,
-- and after that no more than a prefix of them, which a commit that failed wrote.
abbrev pub HoldsPending : Bool → UnwrittenNotes → Option (List ℕ) → Type 0
HoldsPending sync p found = IsTrue (waits p.bytes) →
    let content : List ℕ = unwrap_or found [] in
    IsTrue sync × (header_len ≤ p.place) × (p.place ≤ length content)
    × (found ≡ Some (take p.place content ++ take (length content - p.place) p.bytes))

-- What is found of a name's notes after a stop: all of them, or a prefix that has its header and no
-- fewer bytes than are committed.
abbrev pub IsOnDisk : ℕ → Option (List ℕ) → Option (List ℕ) → Type 0
IsOnDisk committed notes found = (found ≡ notes)
    ⊎ ((all : List ℕ) × (count : ℕ) × (notes ≡ Some all) × (found ≡ Some (take count all))
    × (committed ≤ count) × (header_len ≤ count))

-- these notes end after this many bytes
abbrev pub NotesEndAt : ℕ → Option (List ℕ) → Type 0
NotesEndAt end notes = (all : List ℕ) × (notes ≡ Some all) × (length all ≡ end)

-- with bytes more, which come after this many if they are the first
abbrev pub pushed : ℕ → List ℕ → Bool → UnwrittenNotes → UnwrittenNotes
pushed offset bytes writes p = record {
  place = if waits p.bytes then p.place else offset;
  bytes = p.bytes ++ bytes;
  writes = p.writes || writes;
}

-- bytes of some name are pending
abbrev pub awaits_in : List (List ℕ × UnwrittenNotes) → Bool
awaits_in all = list_any (λ it. waits it.1.bytes) all
