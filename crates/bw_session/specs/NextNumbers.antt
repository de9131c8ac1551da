-- What doing the next number of a name leaves.
use Rattle.std.specs.Prelude.{◌≡◌, ℕ, suc, ◌+◌, ◌*◌, ◌≤◌, min, Bool, not, ◌&&◌, IsTrue}
use Rattle.std.specs.Prelude.{Option, Some, is_some, List, Result, MatchResult}
use Rattle.sha2.specs.Sha256.{sha256}
use Rattle.bw_model.specs.Bytes.{at}
use Rattle.bw_model.specs.Counts.{Counts, last_count}
use Rattle.bw_model.specs.Limits.{longest_block}
use Rattle.bw_model.specs.Take.{Parts, Request, Verdict, is_stored}
use Rattle.bw_model.specs.Wire.{Second, last_number}
use Rattle.bw_model.specs.Book.{Log, verdict_at}
use Rattle.bw_model.specs.Holds.{body_of}
use Rattle.bw_model.specs.VerdictMeanings.{verdict_meaning}
use Rattle.bw_model.specs.declared.verdict.Verdict.{Verdict as Judgement}
use Rattle.bw_file.specs.GrowingFiles.{Growing}
use Rattle.bw_store.specs.Stores.{KeepsOthers}
use Rattle.bw_store.specs.declared.store.StoreFault.{StoreFault}
use Rattle.bw_store.specs.declared.store.TakeStore.{Ghosts as StoreGhosts}
use Rattle.bw_journal.specs.Entries.{sealed_entry, longest_entry}
use Rattle.bw_journal.specs.JournalHeaders.{header_len}
use Rattle.bw_journal.specs.Notes.{KeepsHeaders, KeepsCommitted}
use Rattle.bw_journal.specs.declared.journal.Journal.{Ghosts as JournalGhosts}
use Rattle.bw_session.specs.RequestWrites.{is_mark}
use Rattle.bw_session.specs.DoneNumbers.{KeepsDone}
use Rattle.bw_session.specs.Prefixes.{take_done, FileFollows, HoldsPrefix}

-- how many calls of a store and of its journal failed; the count stays at 2^64 - 1
abbrev pub failed_calls : ℕ → ℕ → ℕ
failed_calls of_store of_journal = min (of_store + of_journal) last_count

-- Store and journal are of the folders that they were of.
pub record StaysInPlace {X Y : Type 0} (S : StoreGhosts X) (J : JournalGhosts Y) (store store' : X)
    (journal journal' : Y) : Type 0 where
  pub of_store : S.folder store' ≡ S.folder store
  pub of_journal : J.folder journal' ≡ J.folder journal

-- A failure of the journal is counted, it is as honest as it was and of the same folder, each name's
-- notes begin as they began, no fewer bytes of them are committed, and each other name has what it had.
pub record KeepsJournal {Y : Type 0} (J : JournalGhosts Y) (fails : Bool) (name : List ℕ)
    (old new : Y) : Type 0 where
  pub failures : Counts (J.failures old) (J.failures new) fails
  pub honest : J.honest new ≡ J.honest old
  pub folder : J.folder new ≡ J.folder old
  pub headers : IsTrue (J.honest old) → KeepsHeaders (J.header old) (J.header new)
  pub committed : IsTrue (J.honest old) → KeepsCommitted (J.committed old) (J.committed new)
  pub others : IsTrue (J.honest old) → KeepsOthers (J.notes old) (J.notes new) name

-- A failure of either is counted; both are as honest as they were and where they were, each name's
-- notes begin as they began, no fewer bytes of them are committed, and each other name has what it had.
pub record KeepsBoth {X Y : Type 0} (S : StoreGhosts X) (J : JournalGhosts Y) (fails : Bool)
    (name : List ℕ) (store store' : X) (journal journal' : Y) : Type 0 where
  pub failures : Counts (failed_calls (S.failures store) (J.failures journal))
      (failed_calls (S.failures store') (J.failures journal')) fails
  pub honest : S.honest store' ≡ S.honest store
  pub others : IsTrue (S.honest store) → KeepsOthers (S.contents store) (S.contents store') name
  pub honest_notes : J.honest journal' ≡ J.honest journal
  pub places : StaysInPlace S J store store' journal journal'
  pub headers : IsTrue (J.honest journal) → KeepsHeaders (J.header journal) (J.header journal')
  pub committed : IsTrue (J.honest journal) → KeepsCommitted (J.committed journal) (J.committed journal')
  pub other_notes : IsTrue (J.honest journal) →
      KeepsOthers (J.notes journal) (J.notes journal') name

-- What is kept takes no more than its done numbers can have brought, and these are numbers of
-- messages.
pub record IsMeasured (p : Parts) (done noted : ℕ) : Type 0 where
  pub samples : p.samples_len ≤ longest_block * done
  pub notes : noted ≤ header_len + longest_entry * done
  pub numbers : done ≤ last_number Second + 1

-- with this verdict the request was written to the file
abbrev pub is_written : Verdict → Request → Bool
is_written v r = not (is_mark r) && is_stored v

-- the bytes that are noted of a done number
abbrev pub noted_of : Verdict → List ℕ → Request → List ℕ
noted_of v digest r = sealed_entry (record { request = r; verdict = v; digest = digest })

-- The request is the log's next, and this is the digest of its body.
pub record IsNext (name : List ℕ) (log : Log) (r : Request) (digest : List ℕ) : Type 0 where
  pub here : at log.admitted log.done ≡ Some r
  pub digest_is : digest ≡ sha256 (body_of name log.done r)

-- the log with its next number done
abbrev pub with_done : Log → Log
with_done log = record log { done = suc log.done }

-- The next number has its verdict; state, table and file are those of one more done number.
pub record IsDone (first : Option (List ℕ)) (log : Log) (v : Verdict) (p : Parts)
    (finished : List (List ℕ × Verdict)) (g : Growing) (found : Option (List ℕ)) :
    Type 0 where
  pub verdict_is : v ≡ verdict_at (is_some first) log.admitted log.done
  pub memory : KeepsDone (is_some first) g.name (with_done log) p finished
  pub file : FileFollows first (take_done first (with_done log)) g found

-- It is done, or still waits.
abbrev pub DoesNext : Result Judgement StoreFault → Option (List ℕ) → Log → Parts →
    List (List ℕ × Verdict) → Request → Growing → Option (List ℕ) → Type 0
DoesNext answer first log p finished r g found =
    MatchResult answer
    (λ v. IsDone first log (verdict_meaning v) p finished g found)
    (λ _. HoldsPrefix first log p finished r g found)
