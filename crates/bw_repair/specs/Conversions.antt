-- What the command `convert` does, and how it ends.
use Rattle.std.specs.Prelude.{◌≡◌, ◌⊎◌, ℕ, Bool, true, false, IsTrue, List, Option, length}
use Rattle.std.specs.declared.io.ErrorKind.{ErrorKind}
use Rattle.bw_stream.specs.Readers.{Of}
use Rattle.bw_disk.specs.declared.disk.Disk.{Ghosts}
use Rattle.bw_console.specs.FailedOpenings.{IsUnopened}
use Rattle.bw_console.specs.Outcomes.{Outcome, IsOutOfMemory, PrintsText}
use Rattle.bw_console.specs.Prints.{Nothing, IsOf}
use Rattle.bw_console.specs.declared.exit.Exit.{Exit}
use Rattle.bw_console.specs.declared.exit.Exit.TheVariants as exits
use Rattle.bw_repair.specs.Repairs.{exit_on_unread}
use Rattle.bw_repair.specs.ConvertFaults.{IsConvertRefusal, is_write_fault}
use Rattle.bw_repair.specs.Forms.{IsConvertible, id_of, renamed, unnamed}
use Rattle.bw_repair.specs.Makings.{IsMade, LeavesOut}
use Rattle.bw_repair.specs.DiskSteps.{IsStep}
use Rattle.bw_repair.specs.ConvertTexts.{conversion_line, made_text}
use Rattle.bw_repair.specs.declared.conversions.fault.ConvertKind.{ConvertKind}
use Rattle.bw_repair.specs.declared.conversions.fault.ConvertKind.TheVariants.{Unread, Riff, SameForm}
use Rattle.bw_repair.specs.declared.conversions.fault.ConvertKind.TheVariants.{TooLong}
use Rattle.bw_repair.specs.declared.conversions.fault.ConvertKind.TheVariants.{Exists, Unwritten}
use Rattle.bw_repair.specs.declared.conversions.fault.ConvertFault.{ConvertFault}
use Rattle.bw_repair.specs.declared.conversions.fault.ConvertError.{ConvertError}
use Rattle.bw_repair.specs.declared.conversions.fault.ConvertError.TheVariants.{Unopened, Refused}
use Rattle.bw_repair.specs.declared.conversions.form.WideForm.{WideForm}

-- FILE has these bytes, which are converted: OUT is new, and has them under the form's id
pub record Converts {D F : Type 0} (G : Ghosts D F) (b to : List ℕ) (form : WideForm) (len : ℕ)
    (old new : D) : Type 0 where
  pub right : IsConvertible form b
  pub counts : len ≡ length b
  pub makes : IsTrue (G.honest old) → IsMade G to (renamed form b) old new

-- what a fault of FILE's bytes or of OUT leaves of OUT
abbrev pub LeavesFault : {D F : Type 0} → Ghosts D F → List ℕ → List ℕ → WideForm →
    ConvertKind → D → D → Type 0
LeavesFault G b to form kind old new =
    IsTrue (G.honest old) → LeavesOut (id_of form) (unnamed b) kind (G.contents old to) (G.contents new to)

-- .. or what an error leaves of the disk, where FILE has these bytes, if they are reported
abbrev pub LeavesError : {D F : Type 0} → Ghosts D F → Option (List ℕ) → List ℕ → WideForm →
    ConvertError → D → D → Type 0
LeavesError G file to form (Unopened error) old new = new ≡ old
LeavesError G file to form (Refused f) old new = Of file (λ b. LeavesFault G b to form f.kind old new)

-- how the command ends after a fault of this kind
abbrev pub exit_on_conversion : ConvertKind → Exit
exit_on_conversion (Unread kind) = exit_on_unread kind
exit_on_conversion Riff = exits.Refused
exit_on_conversion SameForm = exits.Refused
exit_on_conversion TooLong = exits.Refused
exit_on_conversion Exists = exits.Refused
exit_on_conversion Unwritten = exits.Device

-- a fault is reported
pub record IsRefusedConversion (fault : ConvertFault) (did : Outcome) : Type 0 where
  pub exit_is : did.exit ≡ exit_on_conversion fault.kind
  pub reads : did.reads_all ≡ true
  pub prints : did.out ≡ Nothing
  pub reports : IsOf (conversion_line fault) did.faults

module _ {D F : Type 0} (G : Ghosts D F) (file : Option (List ℕ)) (to : List ℕ) (form : WideForm) where
  -- FILE is converted, and OUT's form and length are printed
  pub record PrintsMade (old new : D) (gives_all : Bool) (did : Outcome) : Type 0 where
    pub len : ℕ
    pub right : Of file (λ b. Converts G b to form len old new)
    pub step : IsStep G to false old new
    pub gives : gives_all ≡ true
    pub prints : PrintsText (made_text form len) did

  -- FILE isn't converted, which is reported
  pub record RefusesConversion (old new : D) (gives_all : Bool) (did : Outcome) : Type 0 where
    pub fault : ConvertFault
    pub right : Of file (λ b. IsConvertRefusal b form fault × LeavesFault G b to form fault.kind old new)
    pub step : IsStep G to (is_write_fault fault.kind) old new
    pub gives : gives_all ≡ true
    pub reports : IsRefusedConversion fault did

  -- FILE isn't opened, which is reported
  pub record OpensNoFile (path : List ℕ) (old new : D) (gives_all : Bool) (did : Outcome) : Type 0 where
    pub kind : ErrorKind
    pub kept : new ≡ old
    pub gives : gives_all ≡ false
    pub reports : IsUnopened path kind did ⊎ IsOutOfMemory did

  -- the command did this with the file at a path, and with the disk
  abbrev pub IsConversion : List ℕ → D → D → Bool → Outcome → Type 0
  IsConversion path old new gives_all did =
      PrintsMade old new gives_all did
      ⊎ (RefusesConversion old new gives_all did ⊎ OpensNoFile path old new gives_all did)
