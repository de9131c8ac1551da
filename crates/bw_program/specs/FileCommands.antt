-- What is done for the command lines about files and standard input.
use Rattle.std.specs.Prelude.{◌≡◌, ℕ, Bool, true, false, List, [], ◌∷◌, length, nat_lt, map, codes}
use Rattle.std.specs.Prelude.{string_bytes, Option, if◌then◌else◌}
use Rattle.clap.specs.Walk.{Text}
use Rattle.bw_stream.specs.declared.sink.Sink.{Ghosts as Writer}
use Rattle.bw_stream.specs.declared.source.Source.{Ghosts as Reader}
use Rattle.bw_ports.specs.declared.recording_files.RecordingFiles.{Ghosts as FileGhosts}
use Rattle.bw_args.specs.InspectedFiles.{is_input}
use Rattle.bw_args.specs.declared.inspection.Inspection.{Inspection}
use Rattle.bw_console.specs.Outcomes.{HasWritten, Outcome}
use Rattle.bw_console.specs.Prints.{failures_if}
use Rattle.bw_console.specs.declared.exit.Exit.{Exit}
use Rattle.bw_commands.specs.Inspections.{IsInspection}
use Rattle.bw_commands.specs.Looks.{IsLook}
use Rattle.bw_report.specs.FileLooks.{AreInspected, files_there}
use Rattle.bw_report.specs.Inputs.{IsEntryOf}
use Rattle.bw_report.specs.declared.entry.Style.{Style}
use Rattle.bw_report.specs.declared.entry.Style.TheVariants.{Plain, Human, Json}
use Rattle.bw_report.specs.declared.entry.Wanted.{Wanted}

-- how the files are reported
abbrev pub style_of : Bool → Bool → Style
style_of json human = if json then Json else if human then Human else Plain

-- .. and what is wanted of each: several are below lines with their names
abbrev pub wanted_of : Inspection → Wanted
wanted_of i = record {
  style = style_of i.json i.human;
  named = nat_lt 1 (length i.files.items);
  digest = i.digest;
}

-- the only one of these paths is that of standard input
abbrev pub is_only_input : List Text → Bool
is_only_input [] = false
is_only_input (path ∷ []) = is_input path
is_only_input (path ∷ other ∷ more) = false

abbrev pub is_input_alone : Inspection → Bool
is_input_alone i = is_only_input (map string_bytes i.files.items)

-- standard input was inspected, or the file of a path
abbrev pub IsLookBy : Bool → Option (List ℕ) → Option (List ℕ) → Text → Bool → Outcome →
    Type 0
IsLookBy true file input path gives_all did = IsInspection input did × (gives_all ≡ true)
IsLookBy false file input path gives_all did = IsLook file path gives_all did

abbrev pub IsInspectedAt : (Text → Option (List ℕ)) → Option (List ℕ) → Text → Bool →
    Outcome → Type 0
IsInspectedAt file_at input path gives_all did =
    IsLookBy (is_input path) (file_at path) input path gives_all did

module _ {F H G M I O E : Type 0} (files : FileGhosts F H G M) (input : Reader I) (out : Writer O)
    (reported : Writer E) where
  -- an entry of standard input was printed
  pub record InspectsInput (style : Style) (exit : Exit) (i i' : I) (o o' : O) (e e' : E) : Type 0 where
    pub did : Outcome
    pub ends : did.exit ≡ exit
    pub is : IsEntryOf (input.left i) style (codes "-") did
    pub reads : input.failures i' ≡ failures_if did.reads_all (input.failures i)
    pub writes : HasWritten out reported did o o' e e'

  -- by whether standard input is the only file
  abbrev pub InspectsBy : Bool → Inspection → Exit → F → F → I → I → O → O → E → E →
      Type 0
  InspectsBy true inspection exit f f' i i' o o' e e' =
      InspectsInput (wanted_of inspection).style exit i i' o o' e e' × (f' ≡ f)
  InspectsBy false inspection exit f f' i i' o o' e e' =
      AreInspected out reported (files_there (files.file_at f) (files.stamp_at f))
      (map string_bytes inspection.files.items) (wanted_of inspection) exit
      (files.failures f) (files.failures f') o o' e e'
      × (i' ≡ i)

  -- the files that a command line names were inspected
  abbrev pub InspectsFiles : Inspection → Exit → F → F → I → I → O → O → E → E → Type 0
  InspectsFiles inspection exit f f' i i' o o' e e' =
      InspectsBy (is_input_alone inspection) inspection exit f f' i i' o o' e e'
