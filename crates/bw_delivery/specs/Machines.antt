-- What a machine with a server over a folder in memory has to do with a world.
use Rattle.std.specs.Prelude.{◌≡◌, ◌≤◌, ◌==◌, ℕ, Bool, true, false, Option, Some, None, List, [], ◌∷◌}
use Rattle.std.specs.Prelude.{codes}
use Rattle.std.specs.Prelude.{if◌then◌else◌}
use Rattle.std.specs.Option.{option_or}
use Rattle.std.specs.List.{ends_with}
use Rattle.bw_model.specs.Wire.{Frame, Asks}
use Rattle.bw_model.specs.Replies.{Reply}
use Rattle.bw_model.specs.Book.{Book, log_of}
use Rattle.bw_model.specs.Exchange.{nothing_stands}
use Rattle.bw_model.specs.World.{World}
use Rattle.bw_disk.specs.MemoryVolumes.{disk_content}
use Rattle.bw_folder.specs.Folders.{take_content}
use Rattle.bw_folder.specs.Journals.{notes_at}
use Rattle.bw_folder.specs.TakeFolders.{takes_disk}
use Rattle.bw_folder.specs.JournalFolders.{journals_disk}
use Rattle.bw_journal.specs.Stops.{cut_book}
use Rattle.bw_kept.specs.KeptServers.{table_server}
use Rattle.bw_exchange.specs.AnsweredFrames.{Answered}
use Rattle.bw_kept.specs.LeftFolders.{LeavesAtLeast, LiesThere}
use Rattle.bw_delivery.specs.ServedWorlds.{ServesBook}
use Rattle.bw_delivery.specs.StoppedWorlds.{Answers, Stops, IsNextStep}
use Rattle.bw_commands.specs.RehearsedWorlds.{no_contents}
use Rattle.bw_wire.specs.Replies.{reply_of}
use Rattle.bw_wire.specs.declared.reply.Reply.{Reply as WireReply}
use Rattle.bw_delivery.specs.declared.event.Lives.{Lives}
use Rattle.bw_delivery.specs.declared.machine.Life.{Life}
use Rattle.bw_delivery.specs.declared.machine.Folder.{Folder}
use Rattle.bw_delivery.specs.declared.machine.Machine.{Machine}
use Rattle.bw_delivery.specs.declared.machine.Machine.TheVariants as machines
use Rattle.bw_session.specs.SeenServers.{server_store, server_journal, server_limit}

-- the folder of the takes and their journals
abbrev pub the_folder : List ℕ
the_folder = codes "takes"

-- A server runs that holds this book, in an empty folder at first, and neither of its disks has died.
pub record IsRunning (limit : ℕ) (book : Book) (life : Life) : Type 0 where
  pub limited : server_limit (table_server life.server) ≡ limit
  pub holds : ServesBook _ _ no_contents (table_server life.server) book
  pub takes_live : (takes_disk (server_store (table_server life.server))).calls
      ≤ (takes_disk (server_store (table_server life.server))).life
  pub notes_live : (journals_disk (server_journal (table_server life.server))).calls
      ≤ (journals_disk (server_journal (table_server life.server))).life

-- no call of its disks was made yet, and each dies in the call that is chosen for it
pub record IsUncalled (lives : Lives) (life : Life) : Type 0 where
  pub takes : (takes_disk (server_store (table_server life.server))).life ≡ lives.takes
  pub takes_reached : (takes_disk (server_store (table_server life.server))).reached ≡ lives.reached
  pub takes_calls : (takes_disk (server_store (table_server life.server))).calls ≡ 0
  pub notes : (journals_disk (server_journal (table_server life.server))).life ≡ lives.notes
  pub notes_reached : (journals_disk (server_journal (table_server life.server))).reached
      ≡ lives.reached
  pub notes_calls : (journals_disk (server_journal (table_server life.server))).calls ≡ 0

-- the done numbers of this book lie in what was left
abbrev pub IsLeftAt : ℕ → Book → Folder → Type 0
IsLeftAt limit book folder =
    LiesThere limit no_contents (cut_book book) (notes_at (disk_content folder.notes) the_folder)
    (take_content (disk_content folder.takes) the_folder)

-- the server holds this book, or it was left
abbrev pub IsMachine : ℕ → Book → Machine → Type 0
IsMachine limit book (machines.Runs life) = IsRunning limit book life
IsMachine limit book (machines.Stopped folder) = IsLeftAt limit book folder

-- whether a server runs
abbrev pub runs : Machine → Bool
runs (machines.Runs life) = true
runs (machines.Stopped folder) = false

-- what the disk of the takes has at a path
abbrev pub takes_at : Machine → List ℕ → Option (List ℕ)
takes_at (machines.Runs life) =
    disk_content (takes_disk (server_store (table_server life.server))).inner
takes_at (machines.Stopped folder) = disk_content folder.takes

-- the reply that was written, if one was
abbrev pub written_to : Option WireReply → List Reply
written_to None = []
written_to (Some r) = reply_of r ∷ []

-- a frame that was answered so
abbrev pub one_frame : Frame → List Reply → List Answered
one_frame f replies = record { frame = f; replies = replies } ∷ []

-- The server went on: this is a turn of the world, whose replies are written.
pub record KeepsRunning (limit : ℕ) (w : World) (f : Frame) (replies : List Reply)
    (life : Life) : Type 0 where
  pub later : Book
  pub next : IsNextStep nothing_stands w (Answers (one_frame f replies) later)
  pub running : IsRunning limit later life

-- The server stopped in the turn, none of whose replies is written: that is a step of the world.
pub record DiesInTurn (limit : ℕ) (w : World) (f : Frame) (replies : List Reply) (folder : Folder) :
    Type 0 where
  pub silent : replies ≡ []
  pub given : List Reply
  pub later : Book
  pub left : Book
  pub next : IsNextStep nothing_stands w (Stops (one_frame f given) later left)
  pub stands : IsLeftAt limit left folder

-- what becomes of a machine by a frame
abbrev pub TurnsMachine : ℕ → World → Frame → List Reply → Machine → Type 0
TurnsMachine limit w f replies (machines.Runs life) = KeepsRunning limit w f replies life
TurnsMachine limit w f replies (machines.Stopped folder) = DiesInTurn limit w f replies folder

-- A server started over what was left from the world's book, and was asked for a name.
abbrev pub AnswersForName : ℕ → World → List ℕ → Machine → Type 0
AnswersForName limit w name machine = (replies : List Reply)
    × TurnsMachine limit (record w { book = cut_book w.book }) (Asks name 0) replies machine

-- another server began over what one left that held this book
abbrev pub BeginsOverLeft : ℕ → Book → Life → Type 0
BeginsOverLeft limit book life =
    (left : Book) × LeavesAtLeast book book left × IsRunning limit (cut_book left) life

-- A server started over what was left from the world's book, found a name, and stopped; another that
-- started over what it left goes on, or none does.
pub record StartsFound (limit : ℕ) (w : World) (name : List ℕ) (machine : Machine) : Type 0 where
  pub given : List Reply
  pub later : Book
  pub left : Book
  pub next : IsNextStep nothing_stands (record w { book = cut_book w.book })
      (Stops (one_frame (Asks name 0) given) later left)
  pub machine_is : IsMachine limit (if runs machine then cut_book left else left) machine

-- A machine was looked at: how many numbers of the name are done, if its server runs; it may have
-- stopped as it looked.
abbrev pub ShowsNext : ℕ → World → List ℕ → ℕ → Machine → Type 0
ShowsNext limit w name done (machines.Runs life) =
    (done ≡ (log_of w.book name).done) × IsRunning limit w.book life
ShowsNext limit w name done (machines.Stopped folder) =
    (left : Book) × LeavesAtLeast w.book w.book left × IsLeftAt limit left folder

-- what the disk of the journals shows at a path: the journals, and the takes' files of the other disk
abbrev pub shown_at : (List ℕ → Option (List ℕ)) → (List ℕ → Option (List ℕ)) → List ℕ →
    Option (List ℕ)
shown_at takes notes path =
    option_or (if ends_with ◌==◌ path (codes ".journal") then notes path else None)
    (if ends_with ◌==◌ path (codes ".wav") then takes path else None)
