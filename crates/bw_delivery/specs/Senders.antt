-- A sender to servers that follow one another over a folder.
use Rattle.std.specs.Prelude.{◌≡◌, ◌⊎◌, ◌<◌, ℕ, false, Option, Some, is_some, IsTrue, List, length, map}
use Rattle.std.specs.Prelude.{slice_get}
use Rattle.std.specs.List.{AllByRecursion, Contains, list_any}
use Rattle.bw_model.specs.Bytes.{at}
use Rattle.bw_model.specs.Take.{Request, Verdict, Stored}
use Rattle.bw_model.specs.File.{file_of}
use Rattle.bw_model.specs.Wire.{Message, Says, is_name}
use Rattle.bw_model.specs.Book.{Log, Book, log_of, made_by}
use Rattle.bw_model.specs.Exchange.{take_in}
use Rattle.bw_model.specs.World.{is_close}
use Rattle.bw_store.specs.declared.store.TakeStore.{Ghosts as StoreGhosts}
use Rattle.bw_journal.specs.declared.journal.Journal.{Ghosts as JournalGhosts}
use Rattle.bw_exchange.specs.AnsweredFrames.{Answered}
use Rattle.bw_session.specs.declared.server.Server.{Server}
use Rattle.bw_connections.specs.ConnectionTables.{Tagged, all_answered}
use Rattle.bw_delivery.specs.Deliveries.{LinkBytes, IsJoined, HasOnly, HeardOverLinks}
use Rattle.bw_delivery.specs.Statement.{HasTake}
use Rattle.bw_delivery.specs.Lives.{Folder, LiesIn, IsVerdictOf, Life, FollowOn, folder_after}

-- A sender: its name, its requests by number from 0, and the verdicts that it had (none, if it is new).
pub record SenderBefore : Type 0 where
  pub name : List ℕ
  pub requests : List Request
  pub had : List (Option Verdict)

-- Under its name nothing but its requests was admitted, and each of these verdicts is that of a done
-- number.
pub record IsItsLog (s : SenderBefore) (first : List ℕ → Option (List ℕ))
    (Has : ℕ → Verdict → Type 0)
    (log : Log) : Type 0 where
  pub only : HasOnly s.requests log
  pub kept : (n : ℕ) (v : Verdict) → Has n v → IsVerdictOf (is_some (first s.name)) log n v

-- a message of its name is one of its requests
abbrev pub IsOfRequests : SenderBefore → Answered → Type 0
IsOfRequests s a = (m : Message) → a.frame ≡ Says m → m.name ≡ s.name →
    slice_get s.requests m.number ≡ Some m.request

-- a verdict that it had
abbrev pub Had : SenderBefore → ℕ → Verdict → Type 0
Had s n v = at s.had n ≡ Some v

module _ {X Y : Type 0} (S : StoreGhosts X) (J : JournalGhosts Y)
    (Fails : List ℕ → Server X Y S J → Server X Y S J → Type 0)
    (Differs : List ℕ → Server X Y S J → Type 0) where
  -- a server's life, its kept frames with the numbers of the links that they came over, and the sender's
  -- links
  pub record SentLife : Type 0 where
    pub life : Life S J Fails Differs
    pub trace : List Tagged
    pub links : List (ℕ × LinkBytes)

  -- Those frames are the life's, and over no other link came a message of the sender's name; and among the
  -- frames that weren't kept each message of its name is one of its requests.
  pub record CameOverLinks (s : SenderBefore) (x : SentLife) : Type 0 where
    pub answered : all_answered x.trace ≡ x.life.kept
    pub joined : IsJoined s.name s.requests x.links x.trace
    pub unkept : AllByRecursion (IsOfRequests s) x.life.unkept

  -- a verdict that it had, or that a link to one of these servers gave it
  abbrev pub HasVerdict : SenderBefore → List SentLife → ℕ → Verdict → Type 0
  HasVerdict s sent n v = Had s n v
      ⊎ ((x : SentLife) × Contains sent x × HeardOverLinks x.links s.name n v)

  -- it has that each of its requests is stored
  abbrev pub AllAreStored : SenderBefore → List SentLife → Type 0
  AllAreStored s sent = (n : ℕ) → n < length s.requests → HasVerdict s sent n Stored

  -- The last folder's book has under its name nothing but its requests, and each verdict that it has: so
  -- it may go on from there. The first of them are done, and the take is what these make. Once it has
  -- that all are stored, the take is what all of them make, and if one of them is a CLOSE, the folder has
  -- that take's file.
  pub record CountsDone (limit : ℕ) (first : List ℕ → Option (List ℕ)) (f : Folder) (s : SenderBefore)
      (sent : List SentLife) : Type 0 where
    pub after : Book
    pub lies : LiesIn limit first after (folder_after S J Fails Differs f (map (λ x. x.life) sent))
    pub its_log : IsItsLog s first (HasVerdict s sent) (log_of after s.name)
    pub its_take : HasTake (is_some (first s.name)) s.requests (log_of after s.name)
    pub whole : AllAreStored s sent →
        take_in (is_some (first s.name)) after s.name ≡ made_by (is_some (first s.name)) s.requests
    pub closed : AllAreStored s sent → IsTrue (list_any is_close s.requests) →
        (folder_after S J Fails Differs f (map (λ x. x.life) sent)).files s.name
        ≡ file_of (made_by false s.requests) limit

  -- So it is of each sender under whose name there was nothing but its requests at first.
  abbrev pub SendersCountDone : Type 0
  SendersCountDone = (limit : ℕ) (first : List ℕ → Option (List ℕ)) (book : Book) (f : Folder)
      (s : SenderBefore) (sent : List SentLife) → LiesIn limit first book f → IsTrue (is_name s.name) →
      IsItsLog s first (Had s) (log_of book s.name) →
      FollowOn S J Fails Differs limit f (map (λ x. x.life) sent) →
      AllByRecursion (CameOverLinks s) sent → CountsDone limit first f s sent
