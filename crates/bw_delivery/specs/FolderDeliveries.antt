-- What is delivered to a server over a folder of whose names only some are in its table.
use Rattle.std.specs.Prelude.{◌≡◌, ◌≤◌, ℕ, Bool, false, Option, List, IsTrue, length}
use Rattle.std.specs.List.{list_any}
use Rattle.bw_model.specs.Bytes.{first_free}
use Rattle.bw_model.specs.Take.{Request}
use Rattle.bw_model.specs.Wire.{is_name}
use Rattle.bw_model.specs.Book.{Book, log_of, made_by}
use Rattle.bw_model.specs.Exchange.{take_in}
use Rattle.bw_model.specs.File.{file_of}
use Rattle.bw_model.specs.World.{is_close}
use Rattle.bw_store.specs.declared.store.TakeStore.{Ghosts as StoreGhosts}
use Rattle.bw_journal.specs.declared.journal.Journal.{Ghosts as JournalGhosts}
use Rattle.bw_session.specs.SeenServers.{server_store, server_limit}
use Rattle.bw_session.specs.declared.server.Server.{Server}
use Rattle.bw_connections.specs.ConnectionTables.{Tagged, all_answered}
use Rattle.bw_kept.specs.FolderRuns.{IsFolderRun}
use Rattle.bw_kept.specs.RunLeavings.{LeavesFiles}
use Rattle.bw_delivery.specs.Deliveries.{LinkBytes, IsJoined, HasOnly, IsDelivered, HeardOverLinks}
use Rattle.bw_delivery.specs.Deliveries.{EachHeardStored}

-- A server's run from a book of its folder to a later one, in which each frame was served or put off.
-- The frames came over links of which these are the sender's.
pub record IsFolderDelivery (existed : List ℕ → Bool) (name : List ℕ) (requests : List Request)
    (links : List (ℕ × LinkBytes)) (book later : Book) : Type 0 where
  pub all_done : (log_of book name).done ≤ first_free (log_of book name).admitted
  pub had : HasOnly requests (log_of book name)
  pub trace : List Tagged
  -- how many calls had failed, before it and after it
  pub before : ℕ
  pub after : ℕ
  pub went : IsFolderRun existed before after book (all_answered trace) later
  pub joined : IsJoined name requests links trace

-- To a sender it is as if no name had ever left the table.
abbrev pub FolderDeliveriesAreTrue : Type 0
FolderDeliveriesAreTrue = (existed : List ℕ → Bool) (name : List ℕ) (requests : List Request)
    (links : List (ℕ × LinkBytes)) (book later : Book) →
    IsFolderDelivery existed name requests links book later →
    IsDelivered existed name requests (HeardOverLinks links name) (log_of later name) later

-- Once each request was heard to be stored, all of them are done and no others, and the take is what
-- they make, each applied once in their order.
abbrev pub StoredFolderDeliveriesAreWhole : Type 0
StoredFolderDeliveriesAreWhole = (existed : List ℕ → Bool) (name : List ℕ)
    (requests : List Request) (links : List (ℕ × LinkBytes)) (book later : Book) →
    IsFolderDelivery existed name requests links book later → EachHeardStored links name requests →
    ((log_of later name).done ≡ length requests)
    × (take_in (existed name) later name ≡ made_by (existed name) requests)

module _ {X Y : Type 0} (S : StoreGhosts X) (J : JournalGhosts Y) where
  -- A server answered frames from a book of its folder, over honest store and journal, and some of
  -- them came over the sender's links.
  pub record IsFolderService (first : List ℕ → Option (List ℕ)) (name : List ℕ)
      (requests : List Request) (links : List (ℕ × LinkBytes)) (book : Book)
      (old new : Server X Y S J) : Type 0 where
    pub named : IsTrue (is_name name)
    pub all_done : (log_of book name).done ≤ first_free (log_of book name).admitted
    pub had : HasOnly requests (log_of book name)
    pub trace : List Tagged
    pub left : LeavesFiles S J first book old new (all_answered trace)
    pub joined : IsJoined name requests links trace

  -- If each request was heard to be stored, and one of them is a CLOSE, the store has that take's
  -- file, whether the name is in the table or not.
  abbrev pub ClosedTakesAreInFolders : Type 0
  ClosedTakesAreInFolders = (first : List ℕ → Option (List ℕ)) (name : List ℕ)
      (requests : List Request) (links : List (ℕ × LinkBytes)) (book : Book)
      (old new : Server X Y S J) → IsFolderService first name requests links book old new →
      EachHeardStored links name requests → IsTrue (list_any is_close requests) →
      S.contents (server_store new) name ≡ file_of (made_by false requests) (server_limit new)
