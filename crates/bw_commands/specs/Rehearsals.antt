-- The text of a rehearsal, and what refuses its input.
use Rattle.std.specs.Prelude.{◌≡◌, ◌⊎◌, ◌<◌, ◌≤◌, ℕ, Option, false, true, List, ◌++◌, length, map}
use Rattle.std.specs.Prelude.{codes, decimal}
use Rattle.bw_model.specs.Book.{log_of}
use Rattle.bw_model.specs.CountedTurn.{is_pending}
use Rattle.bw_model.specs.Turn.{Faults}
use Rattle.bw_model.specs.Exchange.{nothing_stands, take_in, content_in}
use Rattle.bw_model.specs.Holds.{Kept, Holds}
use Rattle.bw_model.specs.World as model
use Rattle.bw_store.specs.MemoryNames.{AreNames}
use Rattle.bw_session.specs.Books.{HoldsBook}
use Rattle.bw_sender.specs.Senders.{IsSender}
use Rattle.bw_commands.specs.FaultRuns.{AreFaultsOfRuns}
use Rattle.bw_commands.specs.RehearsedWorlds.{no_contents}
use Rattle.bw_commands.specs.declared.rehearsing.World.{World}
use Rattle.bw_commands.specs.EventLines.{SayEvents, FirstOther}
use Rattle.bw_console.specs.Input.{longest_input}
use Rattle.bw_console.specs.Lines.{lines_of}
use Rattle.bw_console.specs.Text.{as_line}
use Rattle.bw_commands.specs.Text.{files_text}
use Rattle.bw_console.specs.declared.fault.Fault.{Fault}
use Rattle.bw_console.specs.declared.fault.Fault.TheVariants as faults

-- how many requests were offered, messages sent and replies written
abbrev pub world_counts_line : ℕ → ℕ → ℕ → List ℕ
world_counts_line offered sent replies =
    as_line (codes "offered " ++ decimal offered ++ codes " sent " ++ decimal sent
    ++ codes " replies " ++ decimal replies)

-- how far the server and the sender got
abbrev pub world_progress_line : ℕ → ℕ → ℕ → List ℕ
world_progress_line done settled stored =
    as_line (codes "done " ++ decimal done ++ codes " settled " ++ decimal settled
    ++ codes " stored " ++ decimal stored)

-- the two lines that report a world
abbrev pub world_lines : model.World → List ℕ
world_lines w =
    world_counts_line (length w.sender.offered) (length w.sent) (length w.replies)
    ++ world_progress_line (log_of w.book w.sender.name).done (model.settled w.sender)
    (model.stored w.sender)

-- a rehearsal resulted in this world
pub record HasWorld (world : model.World) (w : World) : Type 0 where
  pub offered : w.offered ≡ length world.sender.offered
  pub sent : w.sent ≡ length world.sent
  pub replies : w.replies ≡ length world.replies
  pub sender : IsSender world.sender w.sender
  pub held : HoldsBook _ _ no_contents w.server world.book

-- The text of a world that just these events lead to, with some faults at each, which is reported where
-- so many calls of the store failed: its two lines, and the files in the order of their names.
pub record IsWorldText (name : List ℕ) (limit : ℕ) (events : List model.Event) (text : List ℕ)
    : Type 0 where
  pub schedule : List (model.Event × Faults)
  pub events_are : map (λ x. x.0) schedule ≡ events
  pub world : model.World
  pub reached : model.world_after nothing_stands (model.new_world name) schedule ≡ world
  pub failures : ℕ
  pub fault_runs : AreFaultsOfRuns 0 failures (model.new_world name) schedule
  -- the files are those of a server that holds the world's book
  pub contents : List ℕ → Option (List ℕ)
  pub kept_of : List ℕ → Option Kept
  pub held : Holds limit (record { contents = contents; first = no_contents; honest = true })
      kept_of world.book
  -- so each name that is closed, or of which nothing waits, has its take's file
  pub files : (name : List ℕ) → (is_pending (log_of world.book name) ≡ false)
      ⊎ ((take_in false world.book name).closed ≡ true) →
      contents name ≡ content_in no_contents limit world.book name
  -- and each name does where no store call failed
  pub whole : failures ≡ 0 → (name : List ℕ) →
      contents name ≡ content_in no_contents limit world.book name
  pub names : List (List ℕ)
  pub ordered : AreNames names contents
  pub is : text ≡ world_lines world ++ files_text contents names

-- the lines say events, and this is the text of a world that they lead to
pub record IsTextOfLines (name : List ℕ) (limit : ℕ) (input text : List ℕ) : Type 0 where
  pub within : length input ≤ longest_input
  pub events : List model.Event
  pub said : SayEvents (lines_of input) events
  pub right : IsWorldText name limit events text

-- a fault that refuses is the one that the input has
abbrev pub RefusesEvents : Fault → List ℕ → Type 0
RefusesEvents faults.TooLong input = longest_input < length input
RefusesEvents (faults.NotEvent n) input =
    (length input ≤ longest_input) × FirstOther 1 (lines_of input) n
RefusesEvents (faults.NotHex n) input = ⊥
RefusesEvents (faults.NotRequest n) input = ⊥
RefusesEvents faults.Unreadable input = Unit {0}
RefusesEvents faults.Unwritable input = Unit {0}
RefusesEvents faults.Memory input = Unit {0}
