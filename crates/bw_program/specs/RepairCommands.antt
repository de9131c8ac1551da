-- What is done for the command line that repairs a file.
use Rattle.std.specs.Prelude.{◌≡◌, ℕ, Bool, List}
use Rattle.bw_stream.specs.declared.sink.Sink.{Ghosts as Writer}
use Rattle.bw_console.specs.Outcomes.{Outcome, HasWritten}
use Rattle.bw_console.specs.Prints.{failures_if}
use Rattle.bw_console.specs.declared.exit.Exit.{Exit}
use Rattle.bw_ports.specs.declared.edited_files.EditedFiles.{Ghosts as EditGhosts}
use Rattle.bw_repair.specs.Repairs.{IsRepair}

-- the file at this path was repaired, or its repair was printed, as far as it lacks sizes
abbrev pub RepairsFile : {F J O E : Type 0} → EditGhosts F J → Writer O → Writer E → List ℕ →
    Bool → Exit → F → F → O → O → E → E → Type 0
RepairsFile files out reported path write exit f f' o o' e e' =
    (did : Outcome) × (did.exit ≡ exit) × (gives_all : Bool)
    × IsRepair (files.content_at f) (files.content_at f') path write gives_all did
    × (files.edit_failures f' ≡ failures_if gives_all (files.edit_failures f))
    × HasWritten out reported did o o' e e'
