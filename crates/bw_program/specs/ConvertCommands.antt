-- What is done for the command line that converts a file.
use Rattle.std.specs.Prelude.{◌≡◌, ℕ, Bool, List}
use Rattle.bw_args.specs.declared.asked_form.AskedForm.{AskedForm}
use Rattle.bw_args.specs.declared.asked_form.AskedForm.TheVariants as asked
use Rattle.bw_stream.specs.declared.sink.Sink.{Ghosts as Writer}
use Rattle.bw_console.specs.Outcomes.{Outcome, HasWritten}
use Rattle.bw_console.specs.Prints.{failures_if}
use Rattle.bw_console.specs.declared.exit.Exit.{Exit}
use Rattle.bw_repair.specs.Conversions.{IsConversion}
use Rattle.bw_repair.specs.declared.conversions.form.WideForm.{WideForm}
use Rattle.bw_repair.specs.declared.conversions.form.WideForm.TheVariants.{Rf64, Bw64}
use Rattle.bw_disk.specs.declared.disk.Disk.{Ghosts as DiskGhosts}
use Rattle.bw_ports.specs.declared.recording_files.RecordingFiles.{Ghosts as FileGhosts}

-- what a conversion uses of the system
pub record ConversionSide (F H G M D DF O E : Type 0) : Type 1 where
  pub files : FileGhosts F H G M
  pub disk : DiskGhosts D DF
  pub out : Writer O
  pub reported : Writer E

abbrev pub conversion_side : {F H G M D DF O E : Type 0} → FileGhosts F H G M → DiskGhosts D DF →
    Writer O → Writer E → ConversionSide F H G M D DF O E
conversion_side files disk out reported =
    record { files = files; disk = disk; out = out; reported = reported }

-- the same as they are before or after a command
pub record ConversionWorld (F D O E : Type 0) : Type 0 where
  pub files : F
  pub disk : D
  pub out : O
  pub faults : E

abbrev pub conversion_world : {F D O E : Type 0} → F → D → O → E → ConversionWorld F D O E
conversion_world files disk out faults = record { files = files; disk = disk; out = out; faults = faults }

-- the form that is asked for
abbrev pub form_asked : AskedForm → WideForm
form_asked asked.Rf64 = Rf64
form_asked asked.Bw64 = Bw64

-- the file at this path was converted, as far as it is of the other form
abbrev pub ConvertsFile : {F H G M D DF O E : Type 0} → ConversionSide F H G M D DF O E → List ℕ →
    List ℕ → AskedForm → Exit → ConversionWorld F D O E → ConversionWorld F D O E → Type 0
ConvertsFile side path to form exit w w' =
    (did : Outcome) × (did.exit ≡ exit) × (gives_all : Bool)
    × IsConversion side.disk (side.files.file_at w.files path) to (form_asked form) path
    w.disk w'.disk gives_all did
    × (side.files.failures w'.files ≡ failures_if gives_all (side.files.failures w.files))
    × HasWritten side.out side.reported did w.out w'.out w.faults w'.faults
