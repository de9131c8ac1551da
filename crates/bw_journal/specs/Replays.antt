-- What a journal says about a take and its verdicts, and why it may say nothing.
use Rattle.std.specs.Prelude.{ℕ, suc, ◌+◌, Bool, Option, Some, None, Result, Ok}
use Rattle.std.specs.Prelude.{Err, List, [], ◌∷◌, ◌++◌, drop, length, ◌==◌, if◌then◌else◌}
use Rattle.std.specs.Str.{bytes_eq}
use Rattle.bw_model.specs.Take.{Parts, Request, Verdict, judge, new_take, parts, is_stored}
use Rattle.bw_model.specs.Replies.{verdict_code}
use Rattle.bw_take.specs.States.{parts_with}
use Rattle.bw_journal.specs.Lines.{journal_lines}
use Rattle.bw_journal.specs.Seals.{check, opened}
use Rattle.bw_journal.specs.JournalHeaders.{Header, header_len, first_header, is_torn_header}
use Rattle.bw_journal.specs.Entries.{JournalEntry, entry_in}

-- what is known after some entries
pub record Story : Type 0 where
  -- the take without its data
  pub parts : Parts
  -- the digest and the verdict's code of each number, 33 bytes each
  pub table : List ℕ
  -- how many bytes of the journal are the header and these entries
  pub used : ℕ

-- Why a journal can't be replayed.
pub data JournalFault : Type 0 where
  -- up to the first zero or the end only a prefix of a header is there
  NotBegun : JournalFault
  -- there is no header at the start
  NotAJournal : JournalFault
  -- the header is that of another name's journal
  OtherName : JournalFault
  -- the header has another limit than the server
  OtherLimit : JournalFault
  -- an entry has another verdict than the request's judgement
  OtherVerdict : JournalFault
  -- a line has a right check, but no entry
  NotAnEntry : JournalFault
  -- a line is no content with its check: neither a stop nor a loss of power leaves such
  Damaged : JournalFault

-- the number of a fault
abbrev pub fault_code : JournalFault → ℕ
fault_code NotBegun = 1
fault_code NotAJournal = 2
fault_code OtherName = 3
fault_code OtherLimit = 4
fault_code OtherVerdict = 5
fault_code NotAnEntry = 6
fault_code Damaged = 7

-- before any entry
abbrev pub beginning : Bool → Story
beginning existed = record { parts = parts (new_take existed); table = []; used = header_len }

-- the parts after a request with this verdict
abbrev pub parts_after : Parts → Verdict → Request → Parts
parts_after p v r = if is_stored v then parts_with p r else p

-- what is known after one more entry, which takes this many bytes
abbrev pub with_entry : Story → JournalEntry × ℕ → Story
with_entry s x = record {
  parts = parts_after s.parts x.0.verdict x.0.request;
  table = s.table ++ (x.0.digest ++ verdict_code x.0.verdict ∷ []);
  used = s.used + x.1;
}

-- the entry's verdict is the judgement
abbrev pub is_judged : Parts → JournalEntry → Bool
is_judged p e = verdict_code (judge p e.request) == verdict_code e.verdict

-- what is wrong with a content, if it has no entry
abbrev pub entry_or_fault : Option (List ℕ) → Result JournalEntry JournalFault
entry_or_fault None = Err Damaged
entry_or_fault (Some content) = elim (entry_in content) [
  | None ↦ Err NotAnEntry
  | Some e ↦ Ok e
]

-- what further lines say, each of them an entry
abbrev pub replayed : List (List ℕ) → Story → Result Story JournalFault
replayed [] s = Ok s
replayed (line ∷ more) s = elim (entry_or_fault (opened line)) [
  | Err f ↦ Err f
  | Ok e ↦ if is_judged s.parts e then replayed more (with_entry s (e, suc (length line)))
      else Err OtherVerdict
]

-- what the lines after a header say
unfoldable pub replayed_entries : Bool → List ℕ → Result Story JournalFault
replayed_entries existed bytes = replayed (journal_lines (drop header_len bytes)) (beginning existed)

-- what the bytes after this header say of a name to a server of this limit
abbrev pub replayed_after : ℕ → List ℕ → List ℕ → Option (Header × List ℕ) →
    Result Story JournalFault
replayed_after limit name bytes None =
    if is_torn_header limit name bytes then Err NotBegun else Err NotAJournal
replayed_after limit name bytes (Some x) =
    if bytes_eq x.1 (check name)
    then if x.0.limit == limit then replayed_entries x.0.existed bytes
    else Err OtherLimit
    else Err OtherName

-- what a name's journal says to a server of this limit
unfoldable pub replay : ℕ → List ℕ → List ℕ → Result Story JournalFault
replay limit name bytes = replayed_after limit name bytes (first_header bytes)
