-- Whether the samples of a take's file are those that its journal has the digests of.
use Rattle.std.specs.Prelude.{◌+◌, ◌==◌, ℕ, zero, suc, Bool, true, Option, Some, None, List, [], ◌∷◌}
use Rattle.std.specs.Prelude.{length, take, drop, if◌then◌else◌}
use Rattle.std.specs.Str.{bytes_eq}
use Rattle.sha2.specs.Sha256.{sha256}
use Rattle.bw_model.specs.File.{data_place}
use Rattle.bw_model.specs.Holds.{body_of}
use Rattle.bw_model.specs.Take.{Parts, Block, is_stored}
use Rattle.bw_model.specs.Requests.{samples_in}
use Rattle.bw_journal.specs.Entries.{JournalEntry, first_entry}
use Rattle.bw_journal.specs.JournalHeaders.{header_len}

-- the entries at the start of these bytes, at most so many
abbrev pub entries_within : ℕ → List ℕ → List JournalEntry
entries_within zero bytes = []
entries_within (suc most) bytes = elim (first_entry bytes) [
  | None ↦ []
  | Some x ↦ x.0 ∷ entries_within most (drop x.1 bytes)
]

-- the whole entries of a journal: that of number 0 is the first
abbrev pub entries_of : List ℕ → List JournalEntry
entries_of journal = entries_within (length journal) (drop header_len journal)

-- how many bytes of samples an entry brought: those of a block that is stored
abbrev pub brought : JournalEntry → ℕ
brought e = if is_stored e.verdict then samples_in e.request else 0

-- the digest of the body of a message of this name and number with these samples
unfoldable pub samples_digest : List ℕ → ℕ → List ℕ → List ℕ
samples_digest name number samples = sha256 (body_of name number (Block samples))

-- the samples that an entry brought are at this place of the file, if it brought any: with them the
-- body of its message has the entry's digest
abbrev pub is_kept : List ℕ → List ℕ → ℕ → ℕ → JournalEntry → Bool
is_kept name found number place e = if brought e == 0 then true
    else bytes_eq (samples_digest name number (take (brought e) (drop place found))) e.digest

-- the first of these entries, which are numbered from here on, whose samples aren't in the file, where
-- those of all of them follow one another from a place on
abbrev pub first_changed : List ℕ → List ℕ → ℕ → ℕ → List JournalEntry → Option ℕ
first_changed name found number place [] = None
first_changed name found number place (e ∷ es) = if is_kept name found number place e
    then first_changed name found (suc number) (place + brought e) es else Some number

-- the first number whose samples aren't in the file of a take with this journal, if there is a file
abbrev pub changed_in : List ℕ → Parts → List ℕ → Option (List ℕ) → Option ℕ
changed_in name p journal None = None
changed_in name p journal (Some found) =
    first_changed name found 0 (data_place (length p.history)) (entries_of journal)
