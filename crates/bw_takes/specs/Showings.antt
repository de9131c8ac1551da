-- What the command `takes` prints and reports, and how it ends.
use Rattle.std.specs.Prelude.{◌≡◌, ◌⊎◌, ◌<◌, ℕ, Bool, true, Option, List, length, IsTrue, if◌then◌else◌}
use Rattle.bw_console.specs.Faults.{input_fault_text}
use Rattle.bw_console.specs.Outcomes.{Outcome, IsOutOfMemory}
use Rattle.bw_console.specs.Prints.{Print, Nothing, Whole, Part, IsOf, IsPrint}
use Rattle.bw_console.specs.Text.{as_line}
use Rattle.bw_stream.specs.declared.sink.Sink.{Ghosts as Writer}
use Rattle.bw_console.specs.declared.exit.Exit.{Exit}
use Rattle.bw_console.specs.declared.exit.Exit.TheVariants as exits
use Rattle.bw_console.specs.declared.fault.Fault.TheVariants as faults
use Rattle.bw_takes.specs.declared.listing.ReportForm.{ReportForm}
use Rattle.bw_takes.specs.ReadCounts.{Rises, has_lines}
use Rattle.bw_takes.specs.TakeReports.{ReportsTakes, Told}
use Rattle.bw_takes.specs.UnreadEntries.{unread_text}

-- how the command ends that has printed its lines
abbrev pub exit_for : Bool → Exit
exit_for sound = if sound then exits.Done else exits.Refused

-- these lines are printed
pub record PrintsAll (lines : List ℕ) (sound : Bool) (did : Outcome) : Type 0 where
  pub prints : did.out ≡ Whole lines
  pub reports : did.faults ≡ Nothing
  pub exit_is : did.exit ≡ exit_for sound

-- the writer fails within them
pub record PrintsPart (lines : List ℕ) (did : Outcome) : Type 0 where
  pub prints : did.out ≡ Part lines
  pub reports : IsOf (as_line (input_fault_text faults.Unwritable)) did.faults
  pub exit_is : did.exit ≡ exits.Device

-- these lines are printed, and then reported which files can't be read
pub record PrintsReadable (lines unread : List ℕ) (did : Outcome) : Type 0 where
  pub prints : did.out ≡ Whole lines
  pub reports : IsOf unread did.faults
  pub exit_is : did.exit ≡ exits.Device

-- the lines are printed, or the writer fails
abbrev pub PrintsTold : Told → Outcome → Type 0
PrintsTold told did = ((length told.unread ≡ 0) × PrintsAll told.lines told.sound did)
    ⊎ ((0 < length told.unread) × PrintsReadable told.lines told.unread did)
    ⊎ PrintsPart told.lines did

-- after the lines it is reported which files can't be read, if there are any, and the command ends so
abbrev pub ReportsUnread : {E : Type 0} → Writer E → Told → Exit → E → E → Type 0
ReportsUnread reported told exit e e' =
    ((length told.unread ≡ 0) × (exit ≡ exit_for told.sound) × (e' ≡ e))
    ⊎ ((0 < length told.unread) × (exit ≡ exits.Device)
    × ((print : Print) × IsOf told.unread print × IsPrint reported print e e'))

-- the takes of a folder are reported, a file as one that can't be read only if a call failed
pub record ShowsReport (form : ReportForm) (honest : Bool) (folder : List ℕ)
    (contents : List ℕ → Option (List ℕ)) (before after : ℕ) (did : Outcome) : Type 0 where
  pub told : Told
  pub counted : Rises before after (has_lines told.unread)
  pub is : IsTrue honest → ReportsTakes form folder contents told
  pub printed : PrintsTold told did
  pub reads : did.reads_all ≡ true

-- the folder can't be read
pub record IsFolderUnread (folder : List ℕ) (did : Outcome) : Type 0 where
  pub prints : did.out ≡ Nothing
  pub reports : IsOf (unread_text folder) did.faults
  pub exit_is : did.exit ≡ exits.Device
  pub reads : did.reads_all ≡ true

-- what the command did over a folder, where the disk is as honest as this, and has these contents, and
-- so many of its calls had failed before and after
abbrev pub IsShowing : ReportForm → Bool → List ℕ → (List ℕ → Option (List ℕ)) → ℕ →
    ℕ →
    Outcome → Type 0
IsShowing form honest folder contents before after did =
    ShowsReport form honest folder contents before after did
    ⊎ (IsFolderUnread folder did × Rises before after true)
    ⊎ IsOutOfMemory did
