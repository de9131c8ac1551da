-- The book of a folder of whose names only some are in a server's table.
use Rattle.std.specs.Prelude.{◌≡◌, ◌⊎◌, ◌<◌, ◌^◌, ◌||◌, ◌+◌, ◌*◌, ℕ, Bool, true, false, not, Option, Some}
use Rattle.std.specs.Prelude.{None}
use Rattle.std.specs.Prelude.{IsTrue, IsSome, List, length, Ok}
use Rattle.std.specs.Str.{bytes_eq}
use Rattle.bw_model.specs.Wire.{is_name, Second, last_number}
use Rattle.bw_model.specs.Book.{Log, Book, log_of, is_known}
use Rattle.bw_model.specs.BookRules.{IsLog}
use Rattle.bw_store.specs.declared.store.TakeStore.{Ghosts as StoreGhosts}
use Rattle.bw_journal.specs.Replays.{Story, replay}
use Rattle.bw_journal.specs.declared.journal.Journal.{Ghosts as JournalGhosts}
use Rattle.bw_recovery.specs.Findings.{RefusesName}
use Rattle.bw_recovery.specs.Names.{name_fault}
use Rattle.bw_recovery.specs.LeftNames.{IsLeftName}
use Rattle.bw_recovery.specs.declared.finding.NameFault.{NameFault}
use Rattle.bw_session.specs.Books.{HoldsBook, OrdersBook, count_waiting}
use Rattle.bw_session.specs.declared.server.Server.{Server}
use Rattle.bw_session.specs.SeenServers.{server_store, server_journal, server_limit}
use Rattle.bw_session.specs.Books.{NotesAwake}
use Rattle.bw_kept.specs.FolderRuns.{ends_with_request}
use Rattle.bw_folder.specs.PendingNotes.{IsOnDisk}

-- Something is wrong with a name, by its journal and its file.
abbrev pub HasNameFault : ℕ → List ℕ → Option (List ℕ) → Option (List ℕ) → Type 0
HasNameFault limit name None file = ⊥
HasNameFault limit name (Some journal) file = IsSome (name_fault limit name journal file)

-- this is wrong with it
abbrev pub HasThisFault : ℕ → List ℕ → Option (List ℕ) → Option (List ℕ) → NameFault →
    Type 0
HasThisFault limit name None file cause = ⊥
HasThisFault limit name (Some journal) file cause = RefusesName limit name journal file cause

-- more numbers are done by a story than messages can have: 33 bytes are kept of each
abbrev pub HasManyDone : Story → Type 0
HasManyDone s = 33 * (last_number Second + 1) < length s.table

-- Nothing is wrong with a name, but so many numbers are done by its journal.
pub record IsOverfull (limit : ℕ) (name journal : List ℕ) (file : Option (List ℕ)) : Type 0 where
  pub sound : name_fault limit name journal file ≡ None
  pub story : Story
  pub said : replay limit name journal ≡ Ok story
  pub many : HasManyDone story

-- the same of a name that has a journal
abbrev pub HasTooMany : ℕ → List ℕ → Option (List ℕ) → Option (List ℕ) → Type 0
HasTooMany limit name None file = ⊥
HasTooMany limit name (Some journal) file = IsOverfull limit name journal file

-- Something is wrong with a name of which nothing is done.
pub record IsFaulty (limit : ℕ) (name : List ℕ) (log : Log) (journal file : Option (List ℕ)) :
    Type 0 where
  pub none : log.done ≡ 0
  pub fault : HasNameFault limit name journal file

-- What lies in the folder under a name: what a stop leaves of its log, or something is wrong with it.
abbrev pub LiesInFolder : ℕ → Option (List ℕ) → List ℕ → Log → Option (List ℕ) →
    Option (List ℕ) → Type 0
LiesInFolder limit first name log journal file =
    IsLeftName limit first name log journal file ⊎ IsFaulty limit name log journal file

-- A name outside the table: nothing of it waits, and it lies in the folder.
pub record IsOutOfTable (limit : ℕ) (first : Option (List ℕ)) (name : List ℕ) (log : Log)
    (journal file : Option (List ℕ)) : Type 0 where
  pub quiet : count_waiting log ≡ 0
  pub lies : LiesInFolder limit first name log journal file

-- so it is whatever the disk has of its journal
abbrev pub StaysOutOfTable : ℕ → Option (List ℕ) → List ℕ → Log → ℕ → Option (List ℕ) →
    Option (List ℕ) → Type 0
StaysOutOfTable limit first name log committed notes file = (found : Option (List ℕ)) →
    IsOnDisk committed notes found → IsOutOfTable limit first name log found file

-- A name of the table is one of the folder, with the same log; the server began with what was there
-- at first.
pub record IsInTable (known : Bool) (log in_table : Log) (first now : Option (List ℕ)) :
    Type 0 where
  pub known_there : known ≡ true
  pub same_log : log ≡ in_table
  pub same_first : now ≡ first

-- These are logs, none of which has places after its last request.
pub record AreLogs (book : Book) : Type 0 where
  pub logs : (name : List ℕ) → IsTrue (is_known book name) → IsLog (log_of book name)
  pub ends : (name : List ℕ) → IsTrue (ends_with_request (log_of book name))

module _ {X Y : Type 0} (S : StoreGhosts X) (J : JournalGhosts Y) where
  -- The server, with what lies outside its table, holds a book of the folder, over a store with these
  -- contents at first: of each name in the table what the table's book says, and of each other what
  -- lies in the folder. Names outside the table may be awake: nothing of them is done, and the journal
  -- has no more than a prefix of their header.
  pub record HoldsBeside (awake : List ℕ → Bool) (first : List ℕ → Option (List ℕ))
      (s : Server X Y S J) (book : Book) : Type 0 where
    pub table : Book
    -- what the store had, to the table
    pub now : List ℕ → Option (List ℕ)
    pub held : HoldsBook S J now s table
    pub noted : NotesAwake S J (λ name. not (is_known table name || awake name)) now s table
    pub ordered : OrdersBook S J now s
    pub small : server_limit s < 2 ^ 32
    pub folder : J.folder (server_journal s) ≡ S.folder (server_store s)
    pub limits : (name : List ℕ) → (J.header (server_journal s) name).limit ≡ server_limit s
    pub each : AreLogs book
    pub inside : (name : List ℕ) → is_known table name ≡ true →
        IsInTable (is_known book name) (log_of book name) (log_of table name) (first name) (now name)
    pub outside : (name : List ℕ) → IsTrue (is_name name) → is_known table name ≡ false →
        StaysOutOfTable (server_limit s) (first name) name (log_of book name)
        (J.committed (server_journal s) name) (J.notes (server_journal s) name)
        (S.contents (server_store s) name)
    pub ready : (name : List ℕ) → is_known table name ≡ false → awake name ≡ true →
        (is_known book name ≡ false) × (now name ≡ first name)

  -- between frames no name outside the table is awake
  abbrev pub HoldsKept : (List ℕ → Option (List ℕ)) → Server X Y S J → Book → Type 0
  HoldsKept first s book = HoldsBeside (λ name. false) first s book

  -- this one is
  abbrev pub HoldsReady : List ℕ → (List ℕ → Option (List ℕ)) → Server X Y S J → Book → Type 0
  HoldsReady name first s book = HoldsBeside (λ other. bytes_eq name other) first s book
