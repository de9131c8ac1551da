-- What `repair` does: to the file, and on its writers.
use Rattle.std.specs.Prelude.{◌≡◌, ◌⊎◌, ℕ, Bool, true, false, List, Option}
use Rattle.std.specs.declared.io.ErrorKind.{ErrorKind}
use Rattle.bw_stream.specs.Readers.{Of}
use Rattle.bw_console.specs.FailedOpenings.{IsUnopened, ReportsFailure}
use Rattle.bw_console.specs.Outcomes.{Outcome, IsOutOfMemory, PrintsText}
use Rattle.bw_console.specs.Prints.{Nothing, IsOf}
use Rattle.bw_console.specs.declared.exit.Exit.{Exit}
use Rattle.bw_console.specs.declared.exit.Exit.TheVariants as exits
use Rattle.bw_ports.specs.Rewrites.{KeepsOtherPaths}
use Rattle.bw_inspect.specs.declared.fault.InspectKind.{InspectKind}
use Rattle.bw_inspect.specs.declared.fault.InspectKind.TheVariants.{Read, Memory}
use Rattle.bw_repair.specs.declared.fault.RepairFault.{RepairFault}
use Rattle.bw_repair.specs.declared.fault.RepairKind.{RepairKind}
use Rattle.bw_repair.specs.declared.fault.RepairKind.TheVariants.{Unread}
use Rattle.bw_repair.specs.Soundnesses.{HasFrames, IsRefusal, LacksSizes, StandsAsItIs}
use Rattle.bw_repair.specs.Texts.{plan_text, repair_line, sound_text, unwritten_text}
use Rattle.bw_repair.specs.Writes.{GivesSizes, GivesSizesInPart}
use Rattle.bw_repair.specs.declared.plan.SizePlan.{SizePlan}

-- the contents of paths
abbrev pub Contents : Type 0
Contents = List ℕ → Option (List ℕ)

-- how a command ends after a fault of this kind
abbrev pub exit_on_unread : InspectKind → Exit
exit_on_unread Read = exits.Device
exit_on_unread Memory = exits.Memory
exit_on_unread _ = exits.Refused

abbrev pub exit_on_fault : RepairKind → Exit
exit_on_fault (Unread kind) = exit_on_unread kind
exit_on_fault _ = exits.Refused

-- a fault is reported
pub record IsRefusedRepair (fault : RepairFault) (did : Outcome) : Type 0 where
  pub exit_is : did.exit ≡ exit_on_fault fault.kind
  pub reads : did.reads_all ≡ true
  pub prints : did.out ≡ Nothing
  pub reports : IsOf (repair_line fault) did.faults

-- a write failed, for an error of this kind, whose reason is reported
abbrev pub IsUnwritten : List ℕ → ErrorKind → Outcome → Type 0
IsUnwritten path = ReportsFailure (unwritten_text path)

-- the file is sound, and stays as it is
pub record PrintsSound (before after : Contents) (path : List ℕ) (gives_all : Bool) (did : Outcome)
    : Type 0 where
  pub frames : ℕ
  pub right : Of (before path) (λ b. StandsAsItIs b × HasFrames b frames)
  pub kept : after ≡ before
  pub gives : gives_all ≡ true
  pub prints : PrintsText (sound_text frames) did

-- the sizes that it lacks are printed, and it stays as it is
pub record PrintsSizes (before after : Contents) (path : List ℕ) (gives_all : Bool) (did : Outcome)
    : Type 0 where
  pub plan : SizePlan
  pub right : Of (before path) (λ b. LacksSizes b plan)
  pub kept : after ≡ before
  pub gives : gives_all ≡ true
  pub prints : PrintsText (plan_text plan false) did

-- the sizes of this plan are written, and nothing else, or a prefix of them if the system fails
pub record EndsWriting (plan : SizePlan) (path : List ℕ) (before after : Contents) (gives_all : Bool)
    (did : Outcome) : Type 0 where
  pub others : KeepsOtherPaths path before after
  pub ends :
      ((gives_all ≡ true) × GivesSizes plan (before path) (after path)
      × PrintsText (plan_text plan true) did)
      ⊎ ((gives_all ≡ false) × GivesSizesInPart plan (before path) (after path)
      × ((kind : ErrorKind) × (IsUnwritten path kind did ⊎ IsOutOfMemory did)))

-- the sizes that it lacks are written
pub record WritesSizes (before after : Contents) (path : List ℕ) (gives_all : Bool) (did : Outcome)
    : Type 0 where
  pub plan : SizePlan
  pub right : Of (before path) (λ b. LacksSizes b plan)
  pub writes : EndsWriting plan path before after gives_all did

-- the file is refused, and stays as it is
pub record RefusesRepair (before after : Contents) (path : List ℕ) (gives_all : Bool) (did : Outcome)
    : Type 0 where
  pub fault : RepairFault
  pub right : Of (before path) (λ b. IsRefusal b fault)
  pub kept : after ≡ before
  pub gives : gives_all ≡ true
  pub reports : IsRefusedRepair fault did

-- it isn't opened
pub record OpensNothing (before after : Contents) (path : List ℕ) (gives_all : Bool) (did : Outcome)
    : Type 0 where
  pub kind : ErrorKind
  pub kept : after ≡ before
  pub gives : gives_all ≡ false
  pub reports : IsUnopened path kind did ⊎ IsOutOfMemory did

-- what is done where nothing is written, and where it is
abbrev pub PrintsOrWrites : Bool → Contents → Contents → List ℕ → Bool → Outcome → Type 0
PrintsOrWrites false before after path gives_all did = PrintsSizes before after path gives_all did
PrintsOrWrites true before after path gives_all did = WritesSizes before after path gives_all did

-- the command did this, with these contents before and after
abbrev pub IsRepair : Contents → Contents → List ℕ → Bool → Bool → Outcome → Type 0
IsRepair before after path is_written gives_all did =
    PrintsSound before after path gives_all did
    ⊎ (PrintsOrWrites is_written before after path gives_all did
    ⊎ (RefusesRepair before after path gives_all did ⊎ OpensNothing before after path gives_all did))
