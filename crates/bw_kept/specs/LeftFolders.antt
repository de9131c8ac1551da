-- What a server over a folder leaves in it wherever it is stopped, and the next one over it.
use Rattle.std.specs.Prelude.{◌≡◌, ◌⊎◌, ◌<◌, ◌≤◌, ◌^◌, ℕ, suc, true, Option, IsTrue, List, [], length}
use Rattle.bw_model.specs.Wire.{is_name}
use Rattle.bw_model.specs.Book.{Log, Book, log_of, is_known}
use Rattle.bw_model.specs.CountedTurn.{is_pending}
use Rattle.bw_store.specs.declared.store.TakeStore.{Ghosts as StoreGhosts}
use Rattle.bw_journal.specs.NotedJournals.{journal_of, up_to}
use Rattle.bw_journal.specs.Stops.{cut_book}
use Rattle.bw_journal.specs.declared.journal.Journal.{Ghosts as JournalGhosts}
use Rattle.bw_recovery.specs.LeftNames.{IsLeft, header_beside}
use Rattle.bw_session.specs.Books.{HoldsBook}
use Rattle.bw_session.specs.declared.server.Server.{Server}
use Rattle.bw_session.specs.SeenServers.{server_store, server_journal, server_limit}
use Rattle.bw_kept.specs.DiskNotes.{AreOnDisk, AreCommitted, Covers}
use Rattle.bw_kept.specs.KeptFolders.{AreLogs, IsOutOfTable, HoldsKept}

-- A book lies in a folder: each of its names with its log, of which nothing waits, and each other name
-- with nothing done.
pub record LiesThere (limit : ℕ) (first : List ℕ → Option (List ℕ)) (book : Book)
    (journals files : List ℕ → Option (List ℕ)) : Type 0 where
  pub each : AreLogs book
  pub names : (name : List ℕ) → IsTrue (is_name name) →
      IsOutOfTable limit (first name) name (log_of book name) (journals name) (files name)

-- In the left log the first numbers of another are done: at most all of them, and the one that waits.
pub record DoesFewer (log left : Log) : Type 0 where
  pub kept : ℕ
  pub is : left ≡ up_to kept log
  pub most : (kept ≤ log.done) ⊎ ((is_pending log ≡ true) × (kept ≡ suc log.done))

-- so it is of each name
pub record LeavesFirst (book left : Book) : Type 0 where
  pub names : (name : List ℕ) → is_known left name ≡ is_known book name
  pub logs : (name : List ℕ) → DoesFewer (log_of book name) (log_of left name)

-- and what is done in an earlier book is done
pub record LeavesAtLeast (least book left : Book) : Type 0 where
  pub numbers : LeavesFirst book left
  pub done : (name : List ℕ) → (log_of least name).done ≤ (log_of left name).done

-- Of this book the first numbers lie in the folder, among them each whose entry ends in what is
-- committed of its journal.
pub record LeavesDone (limit : ℕ) (first : List ℕ → Option (List ℕ)) (book : Book)
    (committed : List ℕ → ℕ) (journals files : List ℕ → Option (List ℕ)) : Type 0 where
  pub left : Book
  pub numbers : LeavesFirst book left
  pub least : (name : List ℕ) (n : ℕ) → n ≤ (log_of book name).done → (IsTrue (is_name name) →
      length (journal_of (header_beside limit (first name)) name (up_to n (log_of book name)))
      ≤ committed name) → n ≤ (log_of left name).done
  pub lies : LiesThere limit first (cut_book left) journals files

-- What a stopped server left by the words of a start lies there.
abbrev pub LeftBooksLieThere : Type 0
LeftBooksLieThere = (limit : ℕ) (first : List ℕ → Option (List ℕ)) (book : Book)
    (journals files : List ℕ → Option (List ℕ)) → IsLeft limit first book journals files →
    LiesThere limit first (cut_book book) journals files

module _ {X Y : Type 0} (S : StoreGhosts X) (J : JournalGhosts Y) where
  -- A server with what lies outside its table leaves its folder so wherever it is stopped, whichever
  -- calls failed, and whatever the disk has then of its journals.
  abbrev pub KeptServersLeaveDone : Type 0
  KeptServersLeaveDone = (first : List ℕ → Option (List ℕ)) (s : Server X Y S J) (book : Book) →
      IsTrue (S.honest (server_store s)) → IsTrue (J.honest (server_journal s)) →
      HoldsKept S J first s book → (journals : List ℕ → Option (List ℕ)) →
      AreOnDisk J (server_journal s) journals →
      LeavesDone (server_limit s) first book (J.committed (server_journal s)) journals
      (S.contents (server_store s))

  -- Where all that is noted is committed, so are the entries of each done number.
  abbrev pub CommittedBooksAreCovered : Type 0
  CommittedBooksAreCovered = (first : List ℕ → Option (List ℕ)) (s : Server X Y S J) (book : Book) →
      IsTrue (S.honest (server_store s)) → IsTrue (J.honest (server_journal s)) →
      HoldsKept S J first s book → AreCommitted J (server_journal s) →
      Covers J (server_limit s) first (server_journal s) book

  -- A server that knows no name yet is over a folder: store and journal are of the same one, each header
  -- has the server's limit, and all that lies there is committed.
  pub record KnowsNone (s : Server X Y S J) : Type 0 where
    pub held : HoldsBook S J (S.contents (server_store s)) s []
    pub small : server_limit s < 2 ^ 32
    pub folder : J.folder (server_journal s) ≡ S.folder (server_store s)
    pub limits : (name : List ℕ) → (J.header (server_journal s) name).limit ≡ server_limit s
    pub committed : AreCommitted J (server_journal s)

  -- So it holds each book that lies there.
  abbrev pub EmptyServersHold : Type 0
  EmptyServersHold = (first : List ℕ → Option (List ℕ)) (s : Server X Y S J) (book : Book) →
      KnowsNone s → LiesThere (server_limit s) first book (J.notes (server_journal s))
      (S.contents (server_store s)) → HoldsKept S J first s book
