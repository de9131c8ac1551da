-- What calls on a name promise alike, over a store and its journal.
use Rattle.std.specs.Prelude.{◌≡◌, ◌≤◌, ◌+◌, ℕ, Bool, IsTrue, Option, List, length}
use Rattle.bw_model.specs.Book.{Log}
use Rattle.bw_model.specs.Wire.{Message}
use Rattle.bw_model.specs.Turn.{is_admissible}
use Rattle.bw_store.specs.declared.store.TakeStore.{Ghosts as StoreGhosts}
use Rattle.bw_journal.specs.declared.journal.Journal.{Ghosts as JournalGhosts}
use Rattle.bw_wire.specs.declared.reply.Reply.{Reply}
use Rattle.bw_session.specs.Drains.{is_stopped, drained_count}
use Rattle.bw_session.specs.declared.drains.Drained.{Drained}
use Rattle.bw_session.specs.NextNumbers.{KeepsBoth, failed_calls}
use Rattle.bw_session.specs.NameNotes.{NotesOn}
use Rattle.bw_session.specs.ConsecutiveCalls.{DoesRun}
use Rattle.bw_session.specs.Sessions.{Part, HoldsLog, KeepsProgress, CallsFew, part_of}
use Rattle.bw_session.specs.ServedMessages.{UsesBoth}
use Rattle.bw_session.specs.declared.numbering.Stores.{Stores}
use Rattle.bw_session.specs.declared.session.Session.{Session}

-- each log that the session holds admits the message
abbrev pub IsAdmissible : Session → Message → Type 0
IsAdmissible s m = (first : Option (List ℕ)) (log : Log) (found : Option (List ℕ)) →
    HoldsLog first log (part_of s) found → IsTrue (is_admissible log m.number)

module _ {X Y : Type 0} (S : StoreGhosts X) (J : JournalGhosts Y) where
  -- how many calls of store and journal failed
  abbrev pub failures_in : Stores X Y S J → ℕ
  failures_in stores = failed_calls (S.failures stores.store) (J.failures stores.journal)

  -- A failure of either is counted, and all else is kept as KeepsBoth says.
  abbrev pub KeepsStores : Bool → List ℕ → Stores X Y S J → Stores X Y S J → Type 0
  KeepsStores fails name old new =
      KeepsBoth S J fails name old.store new.store old.journal new.journal

  -- Over an honest store this holds for each log that the part of the name holds.
  abbrev pub ForLogs : List ℕ → Part → Stores X Y S J → (Option (List ℕ) → Log → Type 0) →
      Type 0
  ForLogs name p stores Says = IsTrue (S.honest stores.store) →
      (first : Option (List ℕ)) (log : Log) → HoldsLog first log p (S.contents stores.store name) →
      Says first log

  -- If an honest journal has the entries of such a log, it has those of the later one afterwards.
  abbrev pub KeepsNotes : List ℕ → Part → ℕ → Stores X Y S J → ℕ → Stores X Y S J →
      (Log → Log) → Type 0
  KeepsNotes name p noted old noted' new later = IsTrue (S.honest old.store) →
      IsTrue (J.honest old.journal) → (first : Option (List ℕ)) (log : Log) →
      HoldsLog first log p (S.contents old.store name) →
      NotesOn J name first old.journal log noted new.journal (later log) noted'

  -- that a session holds
  abbrev pub ForSessionLogs : Session → Stores X Y S J → (Option (List ℕ) → Log → Type 0) → Type 0
  ForSessionLogs s stores Says = ForLogs s.progress.name (part_of s) stores Says

  -- of a session's name
  abbrev pub KeepsSessionNotes : Session → Stores X Y S J → Session → Stores X Y S J →
      (Log → Log) → Type 0
  KeepsSessionNotes before old after new later =
      KeepsNotes before.progress.name (part_of before) before.progress.noted old
      after.progress.noted new later

  -- Nothing was asked of store and journal, and what is kept and held of the name is as it was.
  pub record LeavesSession (before : Session) (old : Stores X Y S J) (after : Session)
      (new : Stores X Y S J) : Type 0 where
    -- the store is as it was
    pub store : new.store ≡ old.store
    -- and so is the journal
    pub journal : new.journal ≡ old.journal
    -- what is kept of the done numbers is the same
    pub progress : KeepsProgress before.progress after.progress
    -- the same messages are held
    pub window : after.window ≡ before.window

  -- A growth was refused: nothing was asked and nothing changed, and the message is one to be
  -- admitted.
  pub record RefusesMessage (m : Message) (before : Session) (old : Stores X Y S J)
      (after : Session) (new : Stores X Y S J) : Type 0 where
    -- nothing was asked, and nothing changed
    pub left : LeavesSession before old after new
    -- each log that the session held admits the message
    pub refused : IsAdmissible before m

  -- The next number was tried: a failure is counted if it isn't done, and all else is kept; the store
  -- was called four times at most.
  pub record TriesNumber (drained : Drained) (before : Session)
      (old : Stores X Y S J) (after : Session) (new : Stores X Y S J) : Type 0 where
    pub both : KeepsStores (is_stopped drained) before.progress.name old new
    pub calls : S.calls new.store ≤ S.calls old.store + 4
    pub done : length after.progress.ledger.outcomes
        ≡ length before.progress.ledger.outcomes + drained_count drained

  -- Numbers of a name were done in a row, from this part: at most this many, to their end, or to a
  -- fault.
  pub record RunsNumbers (most : ℕ) (stopped : Bool) (a : Part) (before : Session) (old : Stores X Y S J)
      (after : Session) (new : Stores X Y S J) : Type 0 where
    -- a failure is counted if a fault stopped it, and all else is kept
    pub both : KeepsStores stopped before.progress.name old new
    -- the store was called a few times for each number that was done
    pub calls : CallsFew (S.calls old.store) (S.calls new.store)
        (length before.progress.ledger.outcomes) (length after.progress.ledger.outcomes) stopped
    -- it was asked what the judged requests of these numbers ask
    pub asked : DoesRun S most stopped a old.store (part_of after) new.store

  -- What a turn asks of store and journal, and that no reply reports a failure that didn't come.
  abbrev pub UsesStores : Session → Stores X Y S J → Session → Stores X Y S J → List Reply → Type 0
  UsesStores before old after new replies =
      UsesBoth S J before.progress.name old.store new.store old.journal new.journal
      (length before.progress.ledger.outcomes) (length after.progress.ledger.outcomes) replies
