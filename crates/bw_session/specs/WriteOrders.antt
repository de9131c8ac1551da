-- In which order a number is written: its journal is begun, then its file is written, then its entry.
use Rattle.std.specs.Prelude.{◌≡◌, ◌⊎◌, ◌≤◌, ℕ, false, Option, Some, None, is_some, IfSome, IsTrue}
use Rattle.std.specs.Prelude.{List, length, Result, MatchResult}
use Rattle.bw_model.specs.Bytes.{at}
use Rattle.bw_model.specs.File.{file_of}
use Rattle.bw_model.specs.Take.{Parts, Request, judge}
use Rattle.bw_model.specs.Book.{Log}
use Rattle.bw_model.specs.declared.verdict.Verdict.{Verdict as Judgement}
use Rattle.bw_store.specs.declared.store.StoreFault.{StoreFault}
use Rattle.bw_store.specs.declared.store.TakeStore.{Ghosts as StoreGhosts}
use Rattle.bw_file.specs.GrowingFiles.{Growing}
use Rattle.bw_journal.specs.JournalHeaders.{Header, header_bytes}
use Rattle.bw_journal.specs.Notes.{IsShortOf}
use Rattle.bw_journal.specs.NotedJournals.{journal_of}
use Rattle.bw_journal.specs.declared.journal.Journal.{Ghosts as JournalGhosts}
use Rattle.bw_wire.specs.Bodies.{message_in}
use Rattle.bw_wire.specs.declared.reply.Reply.{Reply}
use Rattle.bw_session.specs.NameNotes.{IsNoted}
use Rattle.bw_session.specs.NextNumbers.{IsNext, with_done, is_written}
use Rattle.bw_session.specs.Prefixes.{HoldsPrefix, take_done}
use Rattle.bw_session.specs.Runs.{with_more_done, HasDrained}
use Rattle.bw_session.specs.Sessions.{Part, HoldsLog, part_of}
use Rattle.bw_session.specs.declared.numbering.Progress.{Progress}
use Rattle.bw_session.specs.declared.numbering.Stores.{Stores}
use Rattle.bw_session.specs.declared.session.Session.{Session}

-- what an honest store is to have of a name: what was there, else the file of the done numbers
abbrev pub file_due : Option (List ℕ) → Log → ℕ → Option (List ℕ)
file_due (Some bytes) log limit = Some bytes
file_due None log limit = file_of (take_done None log) limit

-- Nothing is written to the file before its journal is begun, and the entry of the next number is
-- whole only where the file has its request.
pub record IsInOrder (h : Header) (first : Option (List ℕ)) (name : List ℕ) (log : Log) (limit : ℕ)
    (notes file : Option (List ℕ)) : Type 0 where
  pub begun : IsShortOf (header_bytes name h) notes → file ≡ first
  pub noted : notes ≡ Some (journal_of h name (with_done log)) →
      file ≡ file_due first (with_done log) limit

-- no byte of a journal comes after the first ones
abbrev pub HasNothingPast : ℕ → Option (List ℕ) → Type 0
HasNothingPast offset notes = IfSome notes (λ bytes. length bytes ≤ offset)

-- A request is carried out: the file has it, or it changes none.
abbrev pub IsCarriedOut : Growing → Parts → Request → Type 0
IsCarriedOut g p r = IsTrue g.ahead ⊎ (is_written (judge p r) r ≡ false)

-- The request that waits in the first slot is carried out.
abbrev pub NextIsCarriedOut : Part → Type 0
NextIsCarriedOut a =
    (body : List ℕ) × (at a.window 0 ≡ Some body)
    × IsCarriedOut a.growing a.parts (message_in body).request

-- Nothing is written to the file before its journal is begun, and no byte of the next number's entry
-- before the request is carried out.
pub record FileComesFirst (h : Header) (first : Option (List ℕ)) (name : List ℕ) (noted : ℕ)
    (carried : Type 0) (notes file : Option (List ℕ)) : Type 0 where
  pub begun : IsShortOf (header_bytes name h) notes → file ≡ first
  pub entered : HasNothingPast noted notes ⊎ carried

-- After a number that was tried: nothing is carried out of the next one if it is done, else it is
-- this one that waits.
abbrev pub LeavesCarriedOut : Result Judgement StoreFault → Progress → Request → Type 0
LeavesCarriedOut answer p r =
    MatchResult answer (λ _. ⊥) (λ _. IsCarriedOut p.growing p.state.parts r)

module _ {X Y : Type 0} (S : StoreGhosts X) (J : JournalGhosts Y) where
  -- Doing a number keeps the order.
  abbrev pub OrdersNext : Result Judgement StoreFault → Progress → Stores X Y S J → Request →
      List ℕ → Progress → Stores X Y S J → Type 0
  OrdersNext answer before old r digest after new = IsTrue (S.honest old.store) →
      IsTrue (J.honest old.journal) → (first : Option (List ℕ)) (log : Log) →
      IsNext before.name log r digest →
      HoldsPrefix first log before.state.parts before.ledger.outcomes r before.growing
      (S.contents old.store before.name) →
      (J.header old.journal before.name).existed ≡ is_some first →
      IsNoted (J.header old.journal before.name) before.name log before.noted
      (J.notes old.journal before.name) →
      FileComesFirst (J.header old.journal before.name) first before.name before.noted
      (IsCarriedOut before.growing before.state.parts r) (J.notes old.journal before.name)
      (S.contents old.store before.name) →
      FileComesFirst (J.header old.journal before.name) first before.name after.noted
      (LeavesCarriedOut answer after r) (J.notes new.journal before.name)
      (S.contents new.store before.name)

  -- From a part of a name that holds this log, with what the journal has of it, the order is kept.
  abbrev pub OrdersFrom : Option (List ℕ) → Log → List ℕ → Part → ℕ → Stores X Y S J →
      Part → ℕ → Stores X Y S J → Type 0
  OrdersFrom first log name a noted old b noted' new =
      (J.header old.journal name).existed ≡ is_some first →
      IsNoted (J.header old.journal name) name log noted (J.notes old.journal name) →
      FileComesFirst (J.header old.journal name) first name noted (NextIsCarriedOut a)
      (J.notes old.journal name) (S.contents old.store name) →
      FileComesFirst (J.header old.journal name) first name noted' (NextIsCarriedOut b)
      (J.notes new.journal name) (S.contents new.store name)

  -- from each log that the part holds over an honest store
  abbrev pub OrdersPart : List ℕ → Part → ℕ → Stores X Y S J → Part → ℕ → Stores X Y S J →
      Type 0
  OrdersPart name a noted old b noted' new = IsTrue (S.honest old.store) →
      IsTrue (J.honest old.journal) → (first : Option (List ℕ)) (log : Log) →
      HoldsLog first log a (S.contents old.store name) →
      OrdersFrom first log name a noted old b noted' new

  -- of a session
  abbrev pub OrdersSession : Session → Stores X Y S J → Session → Stores X Y S J → Type 0
  OrdersSession before old after new =
      OrdersPart before.progress.name (part_of before) before.progress.noted old (part_of after)
      after.progress.noted new

  -- where numbers were drained before, with these replies
  abbrev pub OrdersDrained : List Reply → Session → Stores X Y S J → Session → Stores X Y S J →
      Type 0
  OrdersDrained replies before old after new = IsTrue (S.honest old.store) →
      IsTrue (J.honest old.journal) → (first : Option (List ℕ)) (log : Log) →
      HasDrained first log replies (part_of before) (S.contents old.store before.progress.name) →
      OrdersFrom first (with_more_done log (length replies)) before.progress.name (part_of before)
      before.progress.noted old (part_of after) after.progress.noted new
