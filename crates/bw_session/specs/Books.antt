-- How a server relates to a book that it may hold.
use Rattle.std.specs.Prelude.{◌≡◌, ℕ, Bool, true, false, Option, Some, None, is_some, IsTrue, List, map}
use Rattle.std.specs.Prelude.{drop, count_by, if◌then◌else◌}
use Rattle.bw_model.specs.Wire.{Frame, Message, Says}
use Rattle.bw_model.specs.Book.{Log, Book, log_of, is_known}
use Rattle.bw_model.specs.CountedTurn.{IsTurn, book_reported, is_pending}
use Rattle.bw_store.specs.declared.store.TakeStore.{Ghosts as StoreGhosts}
use Rattle.bw_model.specs.Replies.{Reply as ModelReply}
use Rattle.bw_journal.specs.declared.journal.Journal.{Ghosts as JournalGhosts}
use Rattle.bw_wire.specs.declared.reply.Reply.{Reply}
use Rattle.bw_wire.specs.Replies.{reply_of}
use Rattle.bw_session.specs.NextNumbers.{failed_calls}
use Rattle.bw_session.specs.Tables.{session_in}
use Rattle.bw_session.specs.ConsecutiveCalls.{AsksInTurn}
use Rattle.bw_session.specs.ServedMessages.{UsesBoth}
use Rattle.bw_session.specs.Servers.{HoldsIn, done_in, part_in, store_since}
use Rattle.bw_session.specs.NotedNames.{NotesNames, none_asleep, IsAwakeFor}
use Rattle.bw_session.specs.WriteOrders.{FileComesFirst, NextIsCarriedOut, IsInOrder}
use Rattle.bw_session.specs.Sessions.{part_of}
use Rattle.bw_session.specs.declared.session.Session.{Session}
use Rattle.bw_session.specs.declared.server.Server.{Server}

module _ {X Y : Type 0} (S : StoreGhosts X) (J : JournalGhosts Y) where
  -- how many calls of the server's store and journal failed
  abbrev pub failures_of : Server X Y S J → ℕ
  failures_of s = failed_calls (S.failures s.stores.store) (J.failures s.stores.journal)

  -- the server holds the book, over a store with these contents at the start
  abbrev pub HoldsBook : (List ℕ → Option (List ℕ)) → Server X Y S J → Book → Type 0
  HoldsBook first s book =
      HoldsIn s.limit (store_since S first s.stores.store) (session_in s.sessions) book

  -- an honest journal has of each name that isn't asleep what the book says
  abbrev pub NotesAwake : (List ℕ → Bool) → (List ℕ → Option (List ℕ)) → Server X Y S J →
      Book → Type 0
  NotesAwake asleep first s book =
      NotesNames asleep (J.header s.stores.journal) (J.notes s.stores.journal) first
      (session_in s.sessions) book

  -- and of each name, as none is asleep
  abbrev pub NotesBook : (List ℕ → Option (List ℕ)) → Server X Y S J → Book → Type 0
  NotesBook first s book = NotesAwake none_asleep first s book

  -- of each name that is known the file comes first, then the entry of the next number
  abbrev pub OrdersBook : (List ℕ → Option (List ℕ)) → Server X Y S J → Type 0
  OrdersBook first s = (name : List ℕ) (x : Session) → session_in s.sessions name ≡ Some x →
      FileComesFirst (J.header s.stores.journal name) (first name) name x.progress.noted
      (NextIsCarriedOut (part_of x)) (J.notes s.stores.journal name)
      (S.contents s.stores.store name)

  -- The replies and the later book are those of the definitions' turn with some faults, and the
  -- server holds the later book.
  pub record TurnsBook (first : List ℕ → Option (List ℕ)) (old new : Server X Y S J) (book : Book)
      (m : Message) (replies : List Reply) : Type 0 where
    pub later : Book
    pub turned : IsTurn (λ name. is_some (first name)) (failures_of old) (failures_of new) book
        (Says m) (map reply_of replies) later
    pub held : HoldsBook first new later

  -- Over an honest store each book that the server holds is turned.
  abbrev pub TurnsBooks : Server X Y S J → Server X Y S J → Message → List Reply → Type 0
  TurnsBooks old new m replies = IsTrue (S.honest old.stores.store) →
      (first : List ℕ → Option (List ℕ)) (book : Book) → HoldsBook first old book →
      TurnsBook first old new book m replies

  -- If an honest journal has of each name that isn't asleep what such a book says, it has what the
  -- later one says afterwards; the message's name is awake.
  abbrev pub NotesBooks : Server X Y S J → Server X Y S J → Message → List Reply → Type 0
  NotesBooks old new m replies = IsTrue (S.honest old.stores.store) →
      IsTrue (J.honest old.stores.journal) →
      (asleep : List ℕ → Bool) → asleep m.name ≡ false →
      (first : List ℕ → Option (List ℕ)) (book : Book) → HoldsBook first old book →
      NotesAwake asleep first old book → NotesAwake asleep first new
      (book_reported book m (map reply_of replies) (done_in new.sessions m.name))

  -- A turn keeps that order, whichever of its calls fails.
  abbrev pub OrdersBooks : Server X Y S J → Server X Y S J → Frame → Type 0
  OrdersBooks old new frame = IsTrue (S.honest old.stores.store) →
      IsTrue (J.honest old.stores.journal) →
      (asleep : List ℕ → Bool) → IsAwakeFor asleep frame →
      (first : List ℕ → Option (List ℕ)) (book : Book) → HoldsBook first old book →
      NotesAwake asleep first old book → OrdersBook first old → OrdersBook first new

  -- Where no number waits, as in a server that begins, there is nothing to order.
  abbrev pub QuietBooksAreInOrder : Type 0
  QuietBooksAreInOrder =
      (asleep : List ℕ → Bool) (first : List ℕ → Option (List ℕ)) (s : Server X Y S J)
      (book : Book) → IsTrue (S.honest s.stores.store) → HoldsBook first s book →
      NotesAwake asleep first s book →
      ((name : List ℕ) → is_pending (log_of book name) ≡ false) → OrdersBook first s

  -- So each number that waits was written in order: its file, then its entry. Its name is awake.
  abbrev pub WaitingNumbersAreInOrder : Type 0
  WaitingNumbersAreInOrder =
      (asleep : List ℕ → Bool) (first : List ℕ → Option (List ℕ)) (s : Server X Y S J)
      (book : Book) → IsTrue (S.honest s.stores.store) → HoldsBook first s book →
      NotesAwake asleep first s book → OrdersBook first s →
      (name : List ℕ) → asleep name ≡ false → is_pending (log_of book name) ≡ true →
      IsInOrder (J.header s.stores.journal name) (first name) name (log_of book name) s.limit
      (J.notes s.stores.journal name) (S.contents s.stores.store name)

  -- With these replies each book that the server holds over an honest store is as it was.
  abbrev pub KeepsBooks : Server X Y S J → Message → List ModelReply → Type 0
  KeepsBooks s m replies = IsTrue (S.honest s.stores.store) →
      (first : List ℕ → Option (List ℕ)) (book : Book) → HoldsBook first s book →
      IsTurn (λ name. is_some (first name)) (failures_of s) (failures_of s) book (Says m) replies
      book

  -- what a turn asks of store and journal
  abbrev pub UsesInTurn : Server X Y S J → Server X Y S J → Message → List Reply → Type 0
  UsesInTurn old new m replies =
      UsesBoth S J m.name old.stores.store new.stores.store old.stores.journal new.stores.journal
      (done_in old.sessions m.name) (done_in new.sessions m.name) replies

  -- Nothing is kept of the name, and nothing was asked.
  pub record LeavesServer (old new : Server X Y S J) : Type 0 where
    -- what is kept of each name is the same
    pub sessions : new.sessions ≡ old.sessions
    -- the store is as it was
    pub store : new.stores.store ≡ old.stores.store
    -- and so is the journal
    pub journal : new.stores.journal ≡ old.stores.journal

  -- store and journal are as they were
  abbrev pub SameStores : Server X Y S J → Server X Y S J → Type 0
  SameStores old new =
      (new.stores.store ≡ old.stores.store) × (new.stores.journal ≡ old.stores.journal)

  -- What the store was asked for each number of the message's name that was done in its turn.
  abbrev pub AsksTurn : Server X Y S J → Server X Y S J → Message → Type 0
  AsksTurn old new m =
      AsksInTurn S m (part_in old.sessions old.limit m.name) old.stores.store
      (part_in new.sessions old.limit m.name) new.stores.store

  -- The message had its turn.
  pub record Turned (old new : Server X Y S J) (m : Message) (replies : List Reply) : Type 0 where
    -- the store was asked for each number of the message's name that was done
    pub asked : AsksTurn old new m
    -- each book that the server held over an honest store is turned
    pub turned : TurnsBooks old new m replies
    -- an honest journal has of each name that isn't asleep what the later book says
    pub noted : NotesBooks old new m replies
    -- the order of file and entry is kept
    pub ordered : OrdersBooks old new (Says m)

-- what a known name's log says
abbrev pub of_known : {A : Type 0} → Book → List ℕ → (Log → A) → Option A
of_known book name f = if is_known book name then Some (f (log_of book name)) else None

-- how many requests of a log wait for their verdicts
abbrev pub count_waiting : Log → ℕ
count_waiting log = count_by is_some (drop log.done log.admitted)
