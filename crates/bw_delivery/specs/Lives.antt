-- Servers that follow one another over a folder, each stopped wherever it was.
use Rattle.std.specs.Prelude.{◌≡◌, ◌≢◌, ◌<◌, ◌≤◌, ℕ, Bool, Option, None, is_some, IsTrue, List, [], ◌∷◌}
use Rattle.std.specs.List.{Contains}
use Rattle.bw_model.specs.Bytes.{at}
use Rattle.bw_model.specs.Take.{Verdict}
use Rattle.bw_model.specs.File.{file_of}
use Rattle.bw_model.specs.Wire.{is_name}
use Rattle.bw_model.specs.Replies.{Judged}
use Rattle.bw_model.specs.Book.{Log, Book, log_of, verdict_at}
use Rattle.bw_model.specs.Exchange.{take_in}
use Rattle.bw_store.specs.declared.store.TakeStore.{Ghosts as StoreGhosts}
use Rattle.bw_journal.specs.Stops.{cut_book, without}
use Rattle.bw_journal.specs.declared.journal.Journal.{Ghosts as JournalGhosts}
use Rattle.bw_exchange.specs.AnsweredFrames.{Answered, AnswersAll, replies_of}
use Rattle.bw_session.specs.Books.{failures_of}
use Rattle.bw_session.specs.declared.server.Server.{Server}
use Rattle.bw_session.specs.SeenServers.{server_store, server_journal, server_limit}
use Rattle.bw_kept.specs.DiskNotes.{AreOnDisk, AreCommitted}
use Rattle.bw_kept.specs.FolderRuns.{IsFolderRun}
use Rattle.bw_kept.specs.KeptFolders.{HasNameFault, HoldsKept}
use Rattle.bw_kept.specs.KeptTurns.{KeptTurn}
use Rattle.bw_kept.specs.LeftFolders.{LiesThere, LeavesFirst, KnowsNone}

-- What is in a folder: the journal and the file of each name.
pub record Folder : Type 0 where
  pub journals : List ℕ → Option (List ℕ)
  pub files : List ℕ → Option (List ℕ)

-- a book lies in it: each name by its journal and its file
abbrev pub LiesIn : ℕ → (List ℕ → Option (List ℕ)) → Book → Folder → Type 0
LiesIn limit first book f = LiesThere limit first book f.journals f.files

-- In a folder without a journal the empty book lies, whatever files there are.
abbrev pub NewFoldersAreEmpty : Type 0
NewFoldersAreEmpty = (limit : ℕ) (f : Folder) → ((name : List ℕ) → f.journals name ≡ None) →
    LiesIn limit f.files [] f

-- Of every other name the second folder has what the first one has.
pub record DiffersAt (name : List ℕ) (f g : Folder) : Type 0 where
  pub journals : (other : List ℕ) → other ≢ name → g.journals other ≡ f.journals other
  pub files : (other : List ℕ) → other ≢ name → g.files other ≡ f.files other

-- If something comes to be wrong with a name, the book without it lies in the folder.
abbrev pub FaultsStayAlone : Type 0
FaultsStayAlone = (limit : ℕ) (first : List ℕ → Option (List ℕ)) (book : Book) (name : List ℕ)
    (f g : Folder) → LiesIn limit first book f → DiffersAt name f g →
    HasNameFault limit name (g.journals name) (g.files name) → LiesIn limit first (without name book) g

-- Each number that is done in the first log is done in the second, with its request and its verdict.
pub record KeepsDoneNumbers (taken : Bool) (before after : Log) : Type 0 where
  pub done : before.done ≤ after.done
  pub requests : (n : ℕ) → n < before.done → at after.admitted n ≡ at before.admitted n
  pub verdicts : (n : ℕ) → n < before.done →
      verdict_at taken after.admitted n ≡ verdict_at taken before.admitted n

-- a number is done in a log, and this is its verdict
abbrev pub IsVerdictOf : Bool → Log → ℕ → Verdict → Type 0
IsVerdictOf taken log n v = (n < log.done) × (v ≡ verdict_at taken log.admitted n)

-- a verdict was among the replies to these frames
abbrev pub WasGiven : List Answered → List ℕ → ℕ → Verdict → Type 0
WasGiven answered name n v = Contains (replies_of answered) (Judged name n v)

-- If a name's take is closed, its file is that of the take, byte for byte.
abbrev pub HasClosedFile : ℕ → (List ℕ → Option (List ℕ)) → Book → Folder → List ℕ →
    Type 0
HasClosedFile limit first book f name =
    let t = take_in (is_some (first name)) book name in
    IsTrue t.closed → f.files name ≡ file_of t limit

module _ {X Y : Type 0} (S : StoreGhosts X) (J : JournalGhosts Y)
    (Fails : List ℕ → Server X Y S J → Server X Y S J → Type 0)
    (Differs : List ℕ → Server X Y S J → Type 0) where
  -- A server as it began; the frames that it answered up to its last commit that kept them all, and the
  -- server after that commit; the frames that it answered after it, of which no reply left; the server as
  -- it was stopped; and the folder as it was found then.
  pub record Life : Type 0 where
    pub began : Server X Y S J
    pub kept : List Answered
    pub committed : Server X Y S J
    pub unkept : List Answered
    pub ended : Server X Y S J
    pub found : Folder

  -- what is in a server's folder
  abbrev pub folder_of : Server X Y S J → Folder
  folder_of s = record { journals = J.notes (server_journal s); files = S.contents (server_store s) }

  -- A server began over a folder with an empty table, over honest store and journal, and answered these
  -- frames, of which it kept some first ones. Any calls may have failed: one that is killed within a turn
  -- is as if all calls failed from there on. The files are found as they were, and of each name's notes
  -- what the disk may have.
  pub record IsLife (limit : ℕ) (f : Folder) (life : Life) : Type 0 where
    pub limit_is : server_limit life.began ≡ limit
    pub empty : KnowsNone S J life.began
    pub journals : (name : List ℕ) → IsTrue (is_name name) →
        (folder_of life.began).journals name ≡ f.journals name
    pub files : (name : List ℕ) → IsTrue (is_name name) →
        (folder_of life.began).files name ≡ f.files name
    pub honest : IsTrue (S.honest (server_store life.began))
    pub honest_notes : IsTrue (J.honest (server_journal life.began))
    pub went : AnswersAll (KeptTurn S J Fails Differs) life.began life.kept life.committed
    pub all : AreCommitted J (server_journal life.committed)
    pub went_on : AnswersAll (KeptTurn S J Fails Differs) life.committed life.unkept life.ended
    pub found_files : (name : List ℕ) → life.found.files name ≡ (folder_of life.ended).files name
    pub found_notes : AreOnDisk J (server_journal life.ended) life.found.journals

  -- As it began it held the book; its frames were turns on that, each on what the one before left, and
  -- it held the last. Of that the first numbers lie in the folder that is found, at least all that were
  -- done at the last commit, with their requests and verdicts: the next server begins with these.
  pub record LifeLeavesBook (limit : ℕ) (first : List ℕ → Option (List ℕ)) (book : Book)
      (life : Life) :
      Type 0 where
    pub began : HoldsKept S J first life.began book
    pub kept : Book
    pub turned : IsFolderRun (λ name. is_some (first name)) (failures_of S J life.began)
        (failures_of S J life.committed) book life.kept kept
    pub later : Book
    pub turned_on : IsFolderRun (λ name. is_some (first name)) (failures_of S J life.committed)
        (failures_of S J life.ended) kept life.unkept later
    pub ended : HoldsKept S J first life.ended later
    pub left : Book
    pub numbers : LeavesFirst later left
    pub lies : LiesIn limit first (cut_book left) life.found
    pub keeps : (name : List ℕ) →
        KeepsDoneNumbers (is_some (first name)) (log_of kept name) (log_of left name)

  -- so it is from each book that lies there
  abbrev pub LivesLeaveBooks : Type 0
  LivesLeaveBooks = (limit : ℕ) (first : List ℕ → Option (List ℕ)) (book : Book) (f : Folder)
      (life : Life) →
      LiesIn limit first book f → IsLife limit f life → LifeLeavesBook limit first book life

  -- each began over what the one before left
  abbrev pub FollowOn : ℕ → Folder → List Life → Type 0
  FollowOn limit f [] = Unit {0}
  FollowOn limit f (life ∷ lives) = IsLife limit f life × FollowOn limit life.found lives

  -- what is in the folder after some lives
  abbrev pub folder_after : Folder → List Life → Folder
  folder_after f [] = f
  folder_after f (life ∷ lives) = folder_after life.found lives

  -- They leave a folder in which a book lies: it keeps each number that was done at first, each verdict
  -- of a frame that one of them kept is that of a done number, each closed take has its file, and each
  -- that was closed at first is what it was.
  pub record LivesKeepVerdicts (limit : ℕ) (first : List ℕ → Option (List ℕ)) (book : Book)
      (f : Folder)
      (lives : List Life) : Type 0 where
    pub after : Book
    pub lies : LiesIn limit first after (folder_after f lives)
    pub kept : (name : List ℕ) →
        KeepsDoneNumbers (is_some (first name)) (log_of book name) (log_of after name)
    pub given : (life : Life) → Contains lives life → (name : List ℕ) (n : ℕ) (v : Verdict) →
        WasGiven life.kept name n v → IsVerdictOf (is_some (first name)) (log_of after name) n v
    pub closed : (name : List ℕ) → IsTrue (is_name name) →
        HasClosedFile limit first after (folder_after f lives) name
    pub stays : (name : List ℕ) → IsTrue (take_in (is_some (first name)) book name).closed →
        take_in (is_some (first name)) after name ≡ take_in (is_some (first name)) book name

  -- so do all, however many, from each book that lies there
  abbrev pub VerdictsOutliveServers : Type 0
  VerdictsOutliveServers = (limit : ℕ) (first : List ℕ → Option (List ℕ)) (book : Book) (f : Folder)
      (lives : List Life) → LiesIn limit first book f → FollowOn limit f lives →
      LivesKeepVerdicts limit first book f lives
