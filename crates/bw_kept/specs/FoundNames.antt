-- What comes of making room in a table, of recovering a name, and of finding one.
use Rattle.std.specs.Prelude.{◌≡◌, ℕ, Bool, true, false, Option, None, Result, Ok, Err, IsTrue, IsSome}
use Rattle.std.specs.Prelude.{List}
use Rattle.bw_model.specs.Book.{Book, log_of}
use Rattle.bw_store.specs.declared.store.TakeStore.{Ghosts as StoreGhosts}
use Rattle.bw_disk.specs.declared.disk.Disk.{Ghosts as DiskGhosts}
use Rattle.bw_journal.specs.Notes.{KeepsCommitted}
use Rattle.bw_journal.specs.declared.journal.Journal.{Ghosts as JournalGhosts}
use Rattle.bw_folder.specs.TakeFolders.{takes_disk, takes_folder}
use Rattle.bw_folder.specs.JournalFolders.{journals_disk, has_pending}
use Rattle.bw_folder.specs.declared.folder.FolderStore.{FolderStore}
use Rattle.bw_folder.specs.declared.journal.FolderJournal.{FolderJournal}
use Rattle.bw_session.specs.TableChanges.{IsOfLog}
use Rattle.bw_session.specs.declared.kept_take.KeptTake.{KeptTake}
use Rattle.bw_session.specs.declared.session.Session.{Session}
use Rattle.bw_session.specs.declared.server.Server.{Server}
use Rattle.bw_session.specs.SeenServers.{server_store, server_journal, server_limit, session_kept}
use Rattle.bw_kept.specs.DiskNotes.{StayCommitted}
use Rattle.bw_kept.specs.KeptFolders.{HasThisFault, HoldsKept, HoldsReady}
use Rattle.bw_kept.specs.KeptTurns.{KeepsCounts, IsWhy}
use Rattle.bw_kept.specs.declared.delay.Delay.{Delay}
use Rattle.bw_kept.specs.declared.finding.Found.{Found}
use Rattle.bw_kept.specs.declared.finding.Found.TheVariants.{Known, New as IsNew, PutOff}
use Rattle.bw_kept.specs.declared.recovery.Recovered.{Recovered}
use Rattle.bw_kept.specs.declared.recovery.Recovered.TheVariants.{New, LeftOut, Kept}
use Rattle.bw_kept.specs.declared.room.Leaving.{Leaving}
use Rattle.bw_kept.specs.declared.room.Leaving.TheVariants as leaving

-- a name left the table
abbrev pub has_left : Leaving → Bool
has_left leaving.Left = true
has_left leaving.NoneMay = false
has_left leaving.Refused = false

-- a name may leave it, and couldn't
abbrev pub is_declined : Leaving → Bool
is_declined leaving.Refused = true
is_declined leaving.Left = false
is_declined leaving.NoneMay = false

-- each name has the session that it had
abbrev pub KeepsSessions : (List ℕ → Option Session) → (List ℕ → Option Session) → Type 0
KeepsSessions old new = (name : List ℕ) → new name ≡ old name

-- No call of a disk failed, and of that of the takes none was made.
pub record KeepsDisks {D E F H : Type 0} {G : DiskGhosts D F} {K : DiskGhosts E H}
    {S : StoreGhosts (FolderStore D F G)} {J : JournalGhosts (FolderJournal E H K)}
    (old new : Server (FolderStore D F G) (FolderJournal E H K) S J) : Type 0 where
  pub takes : takes_disk (server_store new) ≡ takes_disk (server_store old)
  pub notes : K.failures (journals_disk (server_journal new))
      ≡ K.failures (journals_disk (server_journal old))
  pub folder : takes_folder (server_store new) ≡ takes_folder (server_store old)

-- of each name notes are pending as before
abbrev pub KeepsPendingNotes : {D E F H : Type 0} {G : DiskGhosts D F} {K : DiskGhosts E H}
    {S : StoreGhosts (FolderStore D F G)} {J : JournalGhosts (FolderJournal E H K)} →
    Server (FolderStore D F G) (FolderJournal E H K) S J →
    Server (FolderStore D F G) (FolderJournal E H K) S J → Type 0
KeepsPendingNotes old new = (name : List ℕ) →
    has_pending (server_journal new) name ≡ has_pending (server_journal old) name

module _ {X Y : Type 0} (S : StoreGhosts X) (J : JournalGhosts Y) where
  -- a name that isn't in the table stays outside
  abbrev pub StaysOutside : Server X Y S J → Server X Y S J → Type 0
  StaysOutside old new = (name : List ℕ) → session_kept old name ≡ None →
      session_kept new name ≡ None

  -- Each book of the folder that was held still is, over honest store and journal; the counts stay, and no
  -- fewer bytes of the notes are committed.
  pub record KeepsFolderBooks (old new : Server X Y S J) : Type 0 where
    pub counts : KeepsCounts S J old new
    pub books : IsTrue (S.honest (server_store old)) → IsTrue (J.honest (server_journal old)) →
        (first : List ℕ → Option (List ℕ)) (book : Book) → HoldsKept S J first old book →
        HoldsKept S J first new book
    pub committed : IsTrue (J.honest (server_journal old)) →
        KeepsCommitted (J.committed (server_journal old)) (J.committed (server_journal new))

  -- a take is that of a name's log in the folder, with its journal and its file
  abbrev pub IsOfFolder : (List ℕ → Option (List ℕ)) → Server X Y S J → Book → List ℕ →
      KeptTake → Type 0
  IsOfFolder first s book name take =
      IsOfLog (server_limit s) (first name) (log_of book name) (J.header (server_journal s) name) take
      (J.notes (server_journal s) name) (S.contents (server_store s) name)

  module _ (Fails : List ℕ → Server X Y S J → Server X Y S J → Type 0)
      (Differs : List ℕ → Server X Y S J → Type 0) where
    -- A name was put off, for this reason; the server holds the book.
    abbrev pub WasPutOff : (List ℕ → Option (List ℕ)) → Server X Y S J → Server X Y S J → Book →
        List ℕ → Delay → Type 0
    WasPutOff first old new book name delay =
        (h : HoldsKept S J first new book) × IsWhy S J Fails Differs name old new h.table delay

    -- A name outside the table was recovered from its folder: it is new, and awake; or something is
    -- wrong with it; or its take is that of its log.
    abbrev pub WasRecovered : (List ℕ → Option (List ℕ)) → Server X Y S J → Server X Y S J →
        Book → List ℕ → Result Recovered Delay → Type 0
    WasRecovered first old new book name (Ok New) = HoldsReady S J name first new book
    WasRecovered first old new book name (Ok (LeftOut cause)) = HoldsKept S J first new book
        × HasThisFault (server_limit new) name (J.notes (server_journal new) name)
        (S.contents (server_store new) name) cause
    WasRecovered first old new book name (Ok (Kept take)) =
        HoldsKept S J first new book × IsOfFolder first new book name take
    WasRecovered first old new book name (Err delay) = WasPutOff first old new book name delay

    -- from each book of the folder
    abbrev pub RecoversBooks : Server X Y S J → Server X Y S J → List ℕ → Result Recovered Delay →
        Type 0
    RecoversBooks old new name result = IsTrue (S.honest (server_store old)) →
        IsTrue (J.honest (server_journal old)) → (first : List ℕ → Option (List ℕ)) (book : Book) →
        HoldsKept S J first old book → session_kept old name ≡ None →
        WasRecovered first old new book name result
        × StayCommitted J (server_limit old) first book (server_journal old) (server_journal new)

    -- A name was found: in the table, or new and awake, or its frame is put off.
    abbrev pub WasFound : (List ℕ → Option (List ℕ)) → Server X Y S J → Server X Y S J → Book →
        List ℕ → Found → Type 0
    WasFound first old new book name Known = HoldsKept S J first new book
    WasFound first old new book name IsNew = HoldsReady S J name first new book
    WasFound first old new book name (PutOff delay) = WasPutOff first old new book name delay

    -- from each book of the folder
    abbrev pub FindsBooks : Server X Y S J → Server X Y S J → List ℕ → Found → Type 0
    FindsBooks old new name result = IsTrue (S.honest (server_store old)) →
        IsTrue (J.honest (server_journal old)) → (first : List ℕ → Option (List ℕ)) (book : Book) →
        HoldsKept S J first old book → WasFound first old new book name result
        × StayCommitted J (server_limit old) first book (server_journal old) (server_journal new)

    -- the same of a name that was new, and awake, whatever server there was before
    abbrev pub FindsNewIn : Server X Y S J → Server X Y S J → List ℕ → Found → Type 0
    FindsNewIn old new name result = IsTrue (S.honest (server_store old)) →
        IsTrue (J.honest (server_journal old)) → (first : List ℕ → Option (List ℕ)) (book : Book)
        (before : Server X Y S J) → HoldsReady S J name first old book →
        WasFound first before new book name result

    -- the same of a take that is to come into the table, from each book of which it is, whatever server
    -- there was before
    abbrev pub PutsInBooks : Server X Y S J → Server X Y S J → List ℕ → KeptTake → Found → Type 0
    PutsInBooks old new name take result = IsTrue (S.honest (server_store old)) →
        IsTrue (J.honest (server_journal old)) → (first : List ℕ → Option (List ℕ)) (book : Book)
        (before : Server X Y S J) → HoldsKept S J first old book → IsOfFolder first old book name take →
        WasFound first before new book name result

  -- where a name was found, it is in the table, or not
  abbrev pub IsWhere : List ℕ → Found → Server X Y S J → Type 0
  IsWhere name Known s = IsSome (session_kept s name)
  IsWhere name IsNew s = session_kept s name ≡ None
  IsWhere name (PutOff delay) s = session_kept s name ≡ None

-- At most a name was forgotten, and this came of it: the books stay, no disk is called, what is pending
-- stays so, and no name comes into the table.
pub record OnlyForgets {D E F H : Type 0} {G : DiskGhosts D F} {K : DiskGhosts E H}
    {S : StoreGhosts (FolderStore D F G)} {J : JournalGhosts (FolderJournal E H K)} (it : Leaving)
    (old new : Server (FolderStore D F G) (FolderJournal E H K) S J) : Type 0 where
  pub kept : KeepsFolderBooks S J old new
  pub disks : KeepsDisks old new
  pub pending : KeepsPendingNotes old new
  pub outside : StaysOutside S J old new
  pub same : has_left it ≡ false → KeepsSessions (session_kept old) (session_kept new)
