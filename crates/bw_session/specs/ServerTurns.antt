-- A server's answer to one frame, beside the books that it may hold.
use Rattle.std.specs.Prelude.{◌≡◌, ℕ, ◌≤◌, Bool, Option, List, length, IsTrue, is_some}
use Rattle.std.specs.List.{list_any}
use Rattle.bw_model.specs.Counts.{Counts}
use Rattle.bw_model.specs.Wire.{Frame, Message, Says, Asks, Bye, Second, is_frame}
use Rattle.bw_model.specs.Replies.{Reply}
use Rattle.bw_model.specs.Book.{Book}
use Rattle.bw_model.specs.CountedTurn.{IsTurn, is_delayed}
use Rattle.bw_store.specs.declared.store.TakeStore.{Ghosts as StoreGhosts}
use Rattle.bw_model.specs.Turn.{is_turned_away}
use Rattle.bw_journal.specs.Notes.{KeepsHeaders, KeepsCommitted}
use Rattle.bw_journal.specs.declared.journal.Journal.{Ghosts as JournalGhosts}
use Rattle.bw_session.specs.Books.{failures_of, HoldsBook, NotesAwake, SameStores, AsksTurn, OrdersBooks}
use Rattle.bw_session.specs.NotedNames.{IsAwakeFor}
use Rattle.bw_session.specs.NextNumbers.{KeepsBoth}
use Rattle.bw_session.specs.Servers.{done_in}
use Rattle.bw_session.specs.Sessions.{CallsFew}
use Rattle.bw_session.specs.declared.server.Server.{Server}

-- at most this many replies to a frame
abbrev pub most_replies : ℕ
most_replies = 17

module _ {X Y : Type 0} (S : StoreGhosts X) (J : JournalGhosts Y) where
  -- The frame is answered in a turn of the definitions, from this book; the server holds the later
  -- one, and an honest journal that had what the book says of names that aren't asleep has what the
  -- later one says.
  pub record TurnsOn (first : List ℕ → Option (List ℕ)) (old new : Server X Y S J) (book : Book)
      (frame : Frame) (replies : List Reply) : Type 0 where
    pub later : Book
    pub turned : IsTurn (λ name. is_some (first name)) (failures_of S J old) (failures_of S J new)
        book frame replies later
    pub held : HoldsBook S J first new later
    pub noted : IsTrue (J.honest old.stores.journal) → (asleep : List ℕ → Bool) →
        IsAwakeFor asleep frame → NotesAwake S J asleep first old book →
        NotesAwake S J asleep first new later

  -- What store and journal are asked for a message, which is one of a frame: what its turn asks of the
  -- store, in at most four calls for each number of its name that was done, and four more where a call
  -- failed; and of each other name they have what they had.
  pub record AsksForMessage (m : Message) (failed : Bool) (old new : Server X Y S J) : Type 0 where
    pub fits : IsTrue (is_frame Second (Says m))
    pub both : KeepsBoth S J failed m.name old.stores.store new.stores.store old.stores.journal
        new.stores.journal
    pub asked : AsksTurn S J old new m
    pub few : CallsFew (S.calls old.stores.store) (S.calls new.stores.store)
        (done_in old.sessions m.name) (done_in new.sessions m.name) failed

  -- for a frame: an ask changes nothing, and the last frame is answered by none
  abbrev pub AsksStoreFor : Frame → Bool → Server X Y S J → Server X Y S J → Type 0
  AsksStoreFor (Says m) failed old new = AsksForMessage m failed old new
  AsksStoreFor (Asks name n) failed old new = new ≡ old
  AsksStoreFor Bye failed old new = ⊥

  -- A server may answer the frame so. Over any store and journal its limit stays, these are as
  -- honest as they were, the replies are few, and none reports a failed call where none failed;
  -- over an honest store it is a turn on every book that the server holds, and over an honest journal
  -- too it keeps the order of file and entry.
  pub record ServerTurn (old : Server X Y S J) (frame : Frame) (replies : List Reply)
      (new : Server X Y S J) : Type 0 where
    pub limit : new.limit ≡ old.limit
    pub honest : S.honest new.stores.store ≡ S.honest old.stores.store
    pub honest_notes : J.honest new.stores.journal ≡ J.honest old.stores.journal
    -- an honest journal begins each name's notes as before
    pub headers : IsTrue (J.honest old.stores.journal) →
        KeepsHeaders (J.header old.stores.journal) (J.header new.stores.journal)
    -- and commits no fewer bytes of them
    pub committed : IsTrue (J.honest old.stores.journal) →
        KeepsCommitted (J.committed old.stores.journal) (J.committed new.stores.journal)
    pub few : length replies ≤ most_replies
    -- whether a call of store or journal failed: then the count of failures rises by one, else it
    -- stays
    pub failed : Bool
    pub counted : Counts (failures_of S J old) (failures_of S J new) failed
    pub delays : IsTrue (list_any is_delayed replies) → IsTrue failed
    pub asks : AsksStoreFor frame failed old new
    -- the message that is turned away for lack of room asks for nothing
    pub away : IsTrue (is_turned_away replies) → SameStores S J old new
    pub turned : IsTrue (S.honest old.stores.store) → (first : List ℕ → Option (List ℕ))
        (book : Book) → HoldsBook S J first old book → TurnsOn first old new book frame replies
    pub ordered : OrdersBooks S J old new frame
