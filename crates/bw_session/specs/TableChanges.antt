-- Names that leave a server's table, or come into it, while store and journal stay as they are.
use Rattle.std.specs.Prelude.{◌≡◌, ◌≢◌, ◌≤◌, ◌<◌, ◌+◌, ◌&&◌, ◌==◌, ℕ, nat_lt, not, Bool, true, false}
use Rattle.std.specs.Prelude.{IsTrue}
use Rattle.std.specs.Prelude.{Option, Some, None, is_some, List, ◌∷◌, length, if◌then◌else◌}
use Rattle.std.specs.Option.{option_map_or}
use Rattle.std.specs.Str.{bytes_eq}
use Rattle.bw_model.specs.Book.{Log, Book, log_of}
use Rattle.bw_model.specs.BookRules.{IsLog}
use Rattle.bw_store.specs.declared.store.TakeStore.{Ghosts as StoreGhosts}
use Rattle.bw_store.specs.Stores.{KeepsOthers}
use Rattle.bw_journal.specs.JournalHeaders.{Header, header_bytes}
use Rattle.bw_journal.specs.Notes.{IsPrefixOf}
use Rattle.bw_journal.specs.declared.journal.Journal.{Ghosts as JournalGhosts}
use Rattle.bw_journal.specs.NotedJournals.{journal_of, story_of_log}
use Rattle.bw_journal.specs.Stops.{without}
use Rattle.bw_journal.specs.Stories.{story_of}
use Rattle.bw_session.specs.Books.{HoldsBook, NotesAwake, OrdersBook, SameStores, count_waiting}
use Rattle.bw_session.specs.SeenServers.{session_kept, names_kept}
use Rattle.bw_session.specs.Tables.{Table, session_in}
use Rattle.bw_session.specs.Windows.{count_held}
use Rattle.bw_session.specs.WriteOrders.{file_due}
use Rattle.bw_session.specs.declared.kept_take.KeptTake.{KeptTake}
use Rattle.bw_session.specs.declared.session.Session.{Session}
use Rattle.bw_session.specs.declared.server.Server.{Server}

-- nothing of a name waits, and a number of it is done
abbrev pub is_forgettable : Session → Bool
is_forgettable s = (count_held s.window == 0) && nat_lt 0 (length s.progress.ledger.outcomes)

-- the same of the name in a table
abbrev pub is_forgettable_in : {H : Type 0} → Table H → List ℕ → Bool
is_forgettable_in sessions name = option_map_or is_forgettable (session_in sessions name) false

-- the same of a name that a server knows
abbrev pub forgettable_kept : {X Y : Type 0} {S : StoreGhosts X} {J : JournalGhosts Y} →
    Server X Y S J → List ℕ → Bool
forgettable_kept s name = is_forgettable_in s.sessions name

-- what was in the store at first, with this under a name
abbrev pub with_first : (List ℕ → Option (List ℕ)) → List ℕ → Option (List ℕ) → List ℕ →
    Option (List ℕ)
with_first first name content other = if bytes_eq name other then content else first other

-- which names are asleep, where this holds of one of them
abbrev pub with_asleep : (List ℕ → Bool) → List ℕ → Bool → List ℕ → Bool
with_asleep asleep name value other = if bytes_eq name other then value else asleep other

-- A kept take is that of a log of which each number is done, under a name with these contents at the
-- start: its journal is whole and says so, and its file is the log's, or the one that was there.
pub record IsOfLog (limit : ℕ) (first : Option (List ℕ)) (log : Log) (h : Header) (take : KeptTake)
    (notes file : Option (List ℕ)) : Type 0 where
  pub is_log : IsLog log
  pub all : length log.admitted ≤ log.done
  pub existed : h.existed ≡ is_some first
  pub story : story_of take.replayed ≡ story_of_log h take.name log
  pub made : take.made ≡ not (is_some first) && is_some file
  pub notes_are : notes ≡ Some (journal_of h take.name log)
  pub file_is : file ≡ file_due first log limit

module _ {X Y : Type 0} (S : StoreGhosts X) (J : JournalGhosts Y) where
  -- the later server has the same store and limit, and of each other name the same
  pub record KeepsOtherNames (name : List ℕ) (old new : Server X Y S J) : Type 0 where
    pub store : new.stores.store ≡ old.stores.store
    pub limit : new.limit ≡ old.limit
    pub others : (other : List ℕ) → bytes_eq name other ≡ false →
        session_in new.sessions other ≡ session_in old.sessions other

  -- A name is forgotten: its journal is whole, and its file is that of the done numbers. The server
  -- holds the book without it, over a store in which its file was there at the start.
  pub record ForgetsBook (asleep : List ℕ → Bool) (first : List ℕ → Option (List ℕ))
      (name : List ℕ)
      (old new : Server X Y S J) (book : Book) : Type 0 where
    pub quiet : count_waiting (log_of book name) ≡ 0
    pub some_done : 0 < (log_of book name).done
    pub journal : J.notes old.stores.journal name
        ≡ Some (journal_of (J.header old.stores.journal name) name (log_of book name))
    pub file : S.contents old.stores.store name ≡ file_due (first name) (log_of book name) old.limit
    pub held : HoldsBook S J (with_first first name (S.contents old.stores.store name)) new
        (without name book)
    pub noted : NotesAwake S J (with_asleep asleep name true)
        (with_first first name (S.contents old.stores.store name)) new (without name book)
    pub ordered : OrdersBook S J first old →
        OrdersBook S J (with_first first name (S.contents old.stores.store name)) new

  -- it is forgotten of each book that the server held, and that its journal noted
  abbrev pub ForgetsName : List ℕ → Server X Y S J → Server X Y S J → Type 0
  ForgetsName name old new = IsTrue (S.honest old.stores.store) →
      IsTrue (J.honest old.stores.journal) → (asleep : List ℕ → Bool)
      (first : List ℕ → Option (List ℕ)) (book : Book) → HoldsBook S J first old book →
      NotesAwake S J asleep first old book → ForgetsBook asleep first name old new book

  -- A name that may be forgotten was: nothing is kept of it any more.
  pub record ForgetsNow (name : List ℕ) (old new : Server X Y S J) : Type 0 where
    pub gone : session_kept new name ≡ None
    pub others : KeepsOtherNames name old new
    pub journal : new.stores.journal ≡ old.stores.journal
    pub fewer : names_kept new + 1 ≡ names_kept old
    pub forgets : ForgetsName name old new

  -- a name was forgotten, or nothing has changed
  abbrev pub ForgetsNameIf : Bool → List ℕ → Server X Y S J → Server X Y S J → Type 0
  ForgetsNameIf true name old new = ForgetsNow name old new
  ForgetsNameIf false name old new = new ≡ old

  -- store, journal and limit are as they were, and so is what is kept of each name
  pub record KeepsTable (old new : Server X Y S J) : Type 0 where
    pub stores : SameStores S J old new
    pub limit : new.limit ≡ old.limit
    pub sessions : (name : List ℕ) → session_kept new name ≡ session_kept old name
    pub names : names_kept new ≡ names_kept old

  -- A name is known now, with this log: the server holds the book with it, over a store in which this
  -- was there at the start.
  pub record InsertsBook (asleep : List ℕ → Bool) (now : List ℕ → Option (List ℕ))
      (first : Option (List ℕ)) (name : List ℕ) (log : Log) (old new : Server X Y S J) (book : Book) :
      Type 0 where
    pub held : HoldsBook S J (with_first now name first) new ((name, log) ∷ book)
    pub noted : NotesAwake S J (with_asleep asleep name false) (with_first now name first) new
        ((name, log) ∷ book)
    pub ordered : OrdersBook S J now old → OrdersBook S J (with_first now name first) new

  -- it is known, of each log whose take was kept
  abbrev pub InsertsName : KeptTake → Server X Y S J → Server X Y S J → Type 0
  InsertsName take old new = IsTrue (S.honest old.stores.store) →
      IsTrue (J.honest old.stores.journal) → (asleep : List ℕ → Bool)
      (now : List ℕ → Option (List ℕ)) (book : Book) (first : Option (List ℕ)) (log : Log) →
      HoldsBook S J now old book → NotesAwake S J asleep now old book →
      IsOfLog old.limit first log (J.header old.stores.journal take.name) take
      (J.notes old.stores.journal take.name) (S.contents old.stores.store take.name) →
      InsertsBook asleep now first take.name log old new book

  -- A name that wasn't known is, with what was kept of its take.
  pub record InsertsNow (take : KeptTake) (old new : Server X Y S J) : Type 0 where
    pub here : IsTrue (is_some (session_kept new take.name))
    pub others : KeepsOtherNames take.name old new
    pub journal : new.stores.journal ≡ old.stores.journal
    pub more : names_kept new ≡ names_kept old + 1
    pub inserts : InsertsName take old new

  -- What lies under a name may be another: each other name has what it had, and the server keeps the
  -- same of each.
  pub record ChangesUnder (name : List ℕ) (old new : Server X Y S J) : Type 0 where
    pub limit : new.limit ≡ old.limit
    pub sessions : (other : List ℕ) → session_kept new other ≡ session_kept old other
    pub contents : KeepsOthers (S.contents old.stores.store) (S.contents new.stores.store) name
    pub notes : KeepsOthers (J.notes old.stores.journal) (J.notes new.stores.journal) name
    pub headers : (other : List ℕ) → other ≢ name →
        J.header new.stores.journal other ≡ J.header old.stores.journal other

  -- A name is new: no more than a prefix of its header is noted, which says whether a file is there.
  pub record IsUnbegun (name : List ℕ) (s : Server X Y S J) : Type 0 where
    pub unbegun : IsPrefixOf (header_bytes name (J.header s.stores.journal name))
        (J.notes s.stores.journal name)
    pub existed : (J.header s.stores.journal name).existed
        ≡ is_some (S.contents s.stores.store name)

  -- the server holds, notes and orders the book over these contents at the start
  pub record KeepsBook (asleep : List ℕ → Bool) (first : List ℕ → Option (List ℕ))
      (s : Server X Y S J)
      (book : Book) : Type 0 where
    pub held : HoldsBook S J first s book
    pub noted : NotesAwake S J asleep first s book
    pub ordered : OrdersBook S J first s

  -- What lies under a name outside the table may change, whether it is asleep afterwards or new: the
  -- server goes on holding its book, over a store in which what lies there now was there at the start.
  abbrev pub NamesOutsideMayChange : Type 0
  NamesOutsideMayChange = (old new : Server X Y S J) (name : List ℕ) (value : Bool) →
      ChangesUnder name old new → session_kept old name ≡ None → IsTrue (S.honest old.stores.store) →
      (asleep : List ℕ → Bool) (first : List ℕ → Option (List ℕ)) (book : Book) →
      HoldsBook S J first old book → NotesAwake S J asleep first old book → OrdersBook S J first old →
      (value ≡ false → IsUnbegun name new) → KeepsBook (with_asleep asleep name value)
      (with_first first name (S.contents new.stores.store name)) new book
