-- A server's turns over a folder of whose names only some are in its table.
use Rattle.std.specs.Prelude.{◌≡◌, ◌≢◌, ◌⊎◌, ◌≤◌, ℕ, Bool, true, false, not, Option, None, is_some, IsTrue}
use Rattle.std.specs.Prelude.{IsSome, List}
use Rattle.bw_model.specs.Counts.{Counts}
use Rattle.bw_model.specs.Wire.{Frame, is_name}
use Rattle.bw_model.specs.Replies.{Reply}
use Rattle.bw_model.specs.Book.{Book}
use Rattle.bw_model.specs.Turn.{is_full}
use Rattle.bw_store.specs.declared.store.TakeStore.{Ghosts as StoreGhosts}
use Rattle.bw_disk.specs.declared.disk.Disk.{Ghosts as DiskGhosts}
use Rattle.bw_journal.specs.Notes.{KeepsHeaders, KeepsCommitted}
use Rattle.bw_journal.specs.declared.journal.Journal.{Ghosts as JournalGhosts}
use Rattle.bw_folder.specs.Folders.{take_path}
use Rattle.bw_folder.specs.TakeFolders.{takes_disk, takes_folder}
use Rattle.bw_folder.specs.JournalFolders.{journals_disk}
use Rattle.bw_folder.specs.declared.folder.FolderStore.{FolderStore}
use Rattle.bw_folder.specs.declared.journal.FolderJournal.{FolderJournal}
use Rattle.bw_session.specs.Books.{failures_of, HoldsBook}
use Rattle.bw_session.specs.ServerTurns.{ServerTurn}
use Rattle.bw_session.specs.declared.server.Server.{Server}
use Rattle.bw_session.specs.SeenServers.{server_store, server_journal, server_limit, session_kept, names_kept}
use Rattle.bw_recovery.specs.Changes.{IsCrowded}
use Rattle.bw_session.specs.TableChanges.{forgettable_kept}
use Rattle.bw_kept.specs.DiskNotes.{StayCommitted}
use Rattle.bw_kept.specs.KeptFolders.{HasThisFault, HasTooMany, HoldsKept}
use Rattle.bw_kept.specs.FolderRuns.{name_of_frame, delay_of, ServesFrame, HasNoPlace}
use Rattle.bw_kept.specs.declared.delay.Delay.{Delay}
use Rattle.bw_kept.specs.declared.delay.Delay.TheVariants.{CallFailed, NoMemory, LeftOut, TooManyNumbers}
use Rattle.bw_kept.specs.declared.delay.Delay.TheVariants.{TwoFolders, NoPlace}

-- one failure more is counted, or more than one
abbrev pub CountsMore : ℕ → ℕ → Type 0
CountsMore before after = (count : ℕ) × Counts before count true × (count ≤ after)

module _ {D E F H : Type 0} (G : DiskGhosts D F) (K : DiskGhosts E H)
    {S : StoreGhosts (FolderStore D F G)} {J : JournalGhosts (FolderJournal E H K)} where
  -- A call of one of the two disks failed, or each path is taken to which the name's file may be moved.
  abbrev pub DiskFails : List ℕ → Server (FolderStore D F G) (FolderJournal E H K) S J →
      Server (FolderStore D F G) (FolderJournal E H K) S J → Type 0
  DiskFails name old new =
      Counts (G.failures (takes_disk (server_store old))) (G.failures (takes_disk (server_store new))) true
      ⊎ CountsMore (K.failures (journals_disk (server_journal old)))
      (K.failures (journals_disk (server_journal new)))
      ⊎ IsCrowded (takes_folder (server_store old)) name (G.contents (takes_disk (server_store old)))

  -- the two disks don't show alike whether the name has a file
  abbrev pub DisksDiffer : List ℕ → Server (FolderStore D F G) (FolderJournal E H K) S J → Type 0
  DisksDiffer name s =
      is_some (G.contents (takes_disk (server_store s)) (take_path (takes_folder (server_store s)) name))
      ≢ is_some (K.contents (journals_disk (server_journal s))
      (take_path (takes_folder (server_store s)) name))

-- Of two servers it is said elsewhere that a call failed between them for a name, and of one that its
-- disks differ there.
module _ {X Y : Type 0} (S : StoreGhosts X) (J : JournalGhosts Y)
    (Fails : List ℕ → Server X Y S J → Server X Y S J → Type 0)
    (Differs : List ℕ → Server X Y S J → Type 0) where
  -- Why a frame of this name is put off, by the server before and after, and the book of its table: if
  -- there is no place for it, it lies in the folder.
  abbrev pub IsWhy : List ℕ → Server X Y S J → Server X Y S J → Book → Delay → Type 0
  IsWhy name old new table CallFailed = Fails name old new
  IsWhy name old new table NoMemory = Unit {0}
  IsWhy name old new table (LeftOut cause) = HasThisFault (server_limit new) name
      (J.notes (server_journal new) name) (S.contents (server_store new) name) cause
  IsWhy name old new table TooManyNumbers = HasTooMany (server_limit new) name
      (J.notes (server_journal new) name) (S.contents (server_store new) name)
  IsWhy name old new table TwoFolders = Differs name new
  IsWhy name old new table NoPlace = IsSome (J.notes (server_journal new) name) × HasNoPlace table

  -- A frame is put off: the book is as it was, and the name isn't in the table.
  pub record PutsOff (old new : Server X Y S J) (table book : Book) (f : Frame) (replies : List Reply)
      (later : Book) : Type 0 where
    pub answered : replies ≡ delay_of f
    pub left : later ≡ book
    pub uncounted : failures_of S J new ≡ failures_of S J old
    pub outside : session_kept old (name_of_frame f) ≡ None
    pub delay : Delay
    pub why : IsWhy (name_of_frame f) old new table delay

  -- A frame's turn on a folder's book: it is served, or put off if its name wasn't in the table; and
  -- the server, with what lies outside its table, holds the later book. No name fits only where the
  -- table is full and none of its names may leave it. Of what was committed no entry is lost.
  pub record FolderTurn (first : List ℕ → Option (List ℕ)) (old new : Server X Y S J) (book : Book)
      (f : Frame) (replies : List Reply) : Type 0 where
    pub later : Book
    pub held : HoldsKept S J first new later
    pub full : Bool
    pub no_place : IsTrue full → HasNoPlace held.table
    pub turned : ServesFrame full (λ name. is_some (first name)) (failures_of S J old)
        (failures_of S J new) book f replies later
        ⊎ PutsOff old new held.table book f replies later
    pub committed : StayCommitted J (server_limit old) first book (server_journal old)
        (server_journal new)

  -- over honest store and journal, from each book of the folder
  abbrev pub FolderTurns : Server X Y S J → Server X Y S J → Frame → List Reply → Type 0
  FolderTurns old new f replies = IsTrue (S.honest (server_store old)) →
      IsTrue (J.honest (server_journal old)) → (first : List ℕ → Option (List ℕ)) (book : Book) →
      HoldsKept S J first old book → FolderTurn first old new book f replies

module _ {X Y : Type 0} (S : StoreGhosts X) (J : JournalGhosts Y) where
  -- none of the names in the table may leave it
  abbrev pub NoneMayLeave : Server X Y S J → Type 0
  NoneMayLeave s = (name : List ℕ) → forgettable_kept s name ≡ false

  -- the table has a place, or has none
  abbrev pub HasPlace : Bool → Server X Y S J → Type 0
  HasPlace place s = (now : List ℕ → Option (List ℕ)) (table : Book) →
      HoldsBook S J now s table → is_full table ≡ not place

  -- More of the notes is committed, or the same, and nothing else that is seen of a server changes.
  pub record OnlyCommits (old new : Server X Y S J) : Type 0 where
    pub limit : server_limit new ≡ server_limit old
    pub sessions : (name : List ℕ) → session_kept new name ≡ session_kept old name
    pub names : names_kept new ≡ names_kept old
    pub store : server_store new ≡ server_store old
    pub honest : J.honest (server_journal new) ≡ J.honest (server_journal old)
    pub failures : J.failures (server_journal new) ≡ J.failures (server_journal old)
    pub folder : J.folder (server_journal new) ≡ J.folder (server_journal old)
    pub headers : IsTrue (J.honest (server_journal old)) →
        KeepsHeaders (J.header (server_journal old)) (J.header (server_journal new))
    pub notes : IsTrue (J.honest (server_journal old)) → (name : List ℕ) →
        J.notes (server_journal new) name ≡ J.notes (server_journal old) name
    pub committed : IsTrue (J.honest (server_journal old)) →
        KeepsCommitted (J.committed (server_journal old)) (J.committed (server_journal new))

  -- What making room and recovering a name leave: the limit, the folders, the failures of store and
  -- journal that are counted, and how honest both are.
  pub record KeepsCounts (old new : Server X Y S J) : Type 0 where
    pub limit : server_limit new ≡ server_limit old
    pub honest : S.honest (server_store new) ≡ S.honest (server_store old)
    pub honest_notes : J.honest (server_journal new) ≡ J.honest (server_journal old)
    pub failures : failures_of S J new ≡ failures_of S J old
    pub store_folder : S.folder (server_store new) ≡ S.folder (server_store old)
    pub journal_folder : J.folder (server_journal new) ≡ J.folder (server_journal old)

-- A server whose table is a cache of its folder may answer the frame so. If its name is in the table,
-- it is answered as by the server alone, and a commit may follow. Else the name is recovered first, for
-- which another may leave the table, and that makes another server ready; or the frame is put off. A name
-- that isn't in the table then has its files closed.
pub record KeptTurn {X Y : Type 0} (S : StoreGhosts X) (J : JournalGhosts Y)
    (Fails : List ℕ → Server X Y S J → Server X Y S J → Type 0)
    (Differs : List ℕ → Server X Y S J → Type 0)
    (old : Server X Y S J) (f : Frame) (replies : List Reply) (new : Server X Y S J) : Type 0 where
  pub named : IsTrue (is_name (name_of_frame f))
  pub ready : Server X Y S J
  pub prepared : KeepsCounts S J old ready
  pub served : Server X Y S J
  pub answered : ServerTurn S J ready f replies served
      ⊎ ((replies ≡ delay_of f) × (served ≡ ready) × (session_kept old (name_of_frame f) ≡ None))
  pub closed : KeepsCounts S J served new
  pub inside : IsSome (session_kept old (name_of_frame f)) →
      (ready ≡ old) × OnlyCommits S J served new
  pub turned : FolderTurns S J Fails Differs old new f replies
