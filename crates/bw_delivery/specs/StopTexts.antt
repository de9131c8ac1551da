-- The text of a rehearsal in which servers stop and start.
use Rattle.std.specs.Prelude.{◌≡◌, ◌≤◌, ℕ, List, ◌++◌, length, codes, decimal}
use Rattle.bw_model.specs.Book.{log_of}
use Rattle.bw_model.specs.World.{World, settled, stored}
use Rattle.bw_folder.specs.Folders.{take_content}
use Rattle.bw_console.specs.Input.{longest_input}
use Rattle.bw_console.specs.Lines.{lines_of}
use Rattle.bw_console.specs.Text.{as_line}
use Rattle.bw_commands.specs.Rehearsals.{world_counts_line, world_progress_line}
use Rattle.bw_commands.specs.Text.{file_text_if}
use Rattle.bw_delivery.specs.Machines.{takes_at, the_folder}
use Rattle.bw_delivery.specs.Rehearsals.{WasRehearsedWithStops}
use Rattle.bw_delivery.specs.declared.event.StopEvent.{StopEvent}
use Rattle.bw_delivery.specs.declared.machine.Machine.{Machine}
use Rattle.bw_delivery.specs.declared.machine.Machine.TheVariants as machines
use Rattle.bw_delivery.specs.declared.rehearsal.Rehearsed.{Rehearsed}
use Rattle.bw_delivery.specs.ServerLines.{SayStopEvents}

-- how far the sender got, where no server runs
abbrev pub stopped_line : ℕ → ℕ → List ℕ
stopped_line settled stored =
    as_line (codes "stopped settled " ++ decimal settled ++ codes " stored " ++ decimal stored)

-- how far the server and the sender got
abbrev pub progress_text : Machine → List ℕ → World → List ℕ
progress_text (machines.Runs life) name w =
    world_progress_line (log_of w.book name).done (settled w.sender) (stored w.sender)
progress_text (machines.Stopped folder) name w = stopped_line (settled w.sender) (stored w.sender)

-- two lines that report a world and a machine, and the file of the take
abbrev pub stops_text : Machine → List ℕ → World → List ℕ
stops_text machine name w =
    world_counts_line (length w.sender.offered) (length w.sent) (length w.replies)
    ++ progress_text machine name w
    ++ file_text_if name (take_content (takes_at machine) the_folder name)

-- the text of what a rehearsal of these events resulted in
pub record IsStopsText (name : List ℕ) (limit : ℕ) (events : List StopEvent) (text : List ℕ)
    : Type 0 where
  pub it : Rehearsed
  pub was : WasRehearsedWithStops name limit events it
  pub is : text ≡ stops_text it.machine name was.world

-- the lines say events, and this is the text of what a rehearsal of them resulted in
pub record IsStopsTextOfLines (name : List ℕ) (limit : ℕ) (input text : List ℕ) : Type 0 where
  pub within : length input ≤ longest_input
  pub events : List StopEvent
  pub said : SayStopEvents (lines_of input) events
  pub right : IsStopsText name limit events text
