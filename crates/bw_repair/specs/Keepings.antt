-- What keeping a recording's chunks leaves, and why they aren't kept.
use Rattle.std.specs.Prelude.{◌≡◌, ◌≢◌, ◌⊎◌, ℕ, Bool, true, false, IsTrue, List, Option, Result, Ok, Err}
use Rattle.std.specs.Prelude.{Some, codes}
use Rattle.std.specs.declared.io.ErrorKind.{ErrorKind}
use Rattle.bw_stream.specs.Readers.{Of}
use Rattle.bw_stream.specs.declared.sink.Sink.{Ghosts as Writer}
use Rattle.bw_disk.specs.declared.disk.Disk.{Ghosts}
use Rattle.bw_console.specs.FailedOpenings.{IsUnopened}
use Rattle.bw_console.specs.Outcomes.{Outcome, IsOutOfMemory}
use Rattle.bw_console.specs.Prints.{Nothing, IsOf, IsPrint}
use Rattle.bw_console.specs.declared.exit.Exit.{Exit}
use Rattle.bw_inspect.specs.Readings.{HasReading}
use Rattle.bw_repair.specs.Conversions.{exit_on_conversion}
use Rattle.bw_repair.specs.ConvertFaults.{IsFaultOfFile, is_write_fault}
use Rattle.bw_repair.specs.DiskSteps.{IsStep}
use Rattle.bw_repair.specs.Forms.{unnamed}
use Rattle.bw_repair.specs.LeftOut.{fits_left, left_file}
use Rattle.bw_repair.specs.LeftTexts.{keep_line}
use Rattle.bw_repair.specs.Makings.{LeavesOut}
use Rattle.bw_repair.specs.Puttings.{IsThere}
use Rattle.bw_repair.specs.declared.conversions.fault.ConvertKind.{ConvertKind}
use Rattle.bw_repair.specs.declared.conversions.fault.ConvertKind.TheVariants.{Unread, Riff, SameForm}
use Rattle.bw_repair.specs.declared.conversions.fault.ConvertKind.TheVariants.{TooLong}
use Rattle.bw_repair.specs.declared.conversions.fault.ConvertKind.TheVariants.{Exists, Unwritten}
use Rattle.bw_repair.specs.declared.conversions.fault.ConvertFault.{ConvertFault}
use Rattle.bw_repair.specs.declared.conversions.fault.ConvertError.{ConvertError}
use Rattle.bw_repair.specs.declared.conversions.fault.ConvertError.TheVariants.{Unopened, Refused}

-- the recording has these bytes, and LEFT has its chunks that a take doesn't carry: it is new, or had them
pub record HasLeftFile {D F : Type 0} (G : Ghosts D F) (b to : List ℕ) (old new : D) : Type 0 where
  pub reading_is : HasReading b
  pub fits : fits_left reading_is.entries ≡ true
  pub makes : IsTrue (G.honest old) → IsThere G to (left_file b reading_is.entries) old new

-- the bytes have a reading, and its chunks are too long for LEFT
pub record IsTooLongToKeep (b : List ℕ) : Type 0 where
  pub reading_is : HasReading b
  pub unfit : fits_left reading_is.entries ≡ false

-- the recording has these bytes, and this is its first fault, or what else is wrong
abbrev pub IsKeepRefusal : List ℕ → ConvertKind → ℕ → Type 0
IsKeepRefusal b (Unread kind) offset = IsFaultOfFile b (record { kind = kind; offset = offset })
IsKeepRefusal b Riff offset = ⊥
IsKeepRefusal b SameForm offset = ⊥
IsKeepRefusal b TooLong offset = IsTooLongToKeep b × (offset ≡ 0)
IsKeepRefusal b Exists offset = HasReading b × (offset ≡ 0)
IsKeepRefusal b Unwritten offset = HasReading b

-- What is at LEFT after a fault: what was there, or where nothing was a file that isn't whole. Exists says
-- that it isn't what would be made.
abbrev pub LeavesOfLeft : {D F : Type 0} → Ghosts D F → List ℕ → List ℕ → ConvertKind → D → D → Type 0
LeavesOfLeft G b to kind old new = (r : HasReading b) → IsTrue (G.honest old) →
    LeavesOut (codes "RIFF") (unnamed (left_file b r.entries)) kind (G.contents old to) (G.contents new to)
    × (kind ≡ Exists → G.contents old to ≢ Some (left_file b r.entries))

-- a fault is reported
pub record IsRefusedKeeping (fault : ConvertFault) (did : Outcome) : Type 0 where
  pub exit_is : did.exit ≡ exit_on_conversion fault.kind
  pub reads : did.reads_all ≡ true
  pub prints : did.out ≡ Nothing
  pub reports : IsOf (keep_line fault) did.faults

-- .. or the recording isn't opened
abbrev pub RefusesKeep : List ℕ → ConvertError → Type 0
RefusesKeep b (Unopened error) = Unit {0}
RefusesKeep b (Refused f) = IsKeepRefusal b f.kind f.offset

-- what an error leaves of the disk, where the recording has these bytes, if they are reported
abbrev pub LeavesKeep : {D F : Type 0} → Ghosts D F → Option (List ℕ) → List ℕ → ConvertError → D → D → Type 0
LeavesKeep G file to (Unopened error) old new = new ≡ old
LeavesKeep G file to (Refused f) old new = Of file (λ b. LeavesOfLeft G b to f.kind old new)

module _ {D F : Type 0} (G : Ghosts D F) (file : Option (List ℕ)) (path to : List ℕ) where
  -- the chunks are kept
  pub record KeepsLeftOut (old new : D) (gives_all : Bool) : Type 0 where
    pub right : Of file (λ b. HasLeftFile G b to old new)
    pub step : IsStep G to false old new
    pub gives : gives_all ≡ true

  -- they aren't, which is reported
  pub record RefusesKeeping (old new : D) (gives_all : Bool) (did : Outcome) : Type 0 where
    pub fault : ConvertFault
    pub right : Of file (λ b. IsKeepRefusal b fault.kind fault.offset
        × LeavesOfLeft G b to fault.kind old new)
    pub step : IsStep G to (is_write_fault fault.kind) old new
    pub gives : gives_all ≡ true
    pub reports : IsRefusedKeeping fault did

  -- the recording isn't opened, which is reported
  pub record OpensNoRecording (old new : D) (gives_all : Bool) (did : Outcome) : Type 0 where
    pub kind : ErrorKind
    pub kept : new ≡ old
    pub gives : gives_all ≡ false
    pub reports : IsUnopened path kind did ⊎ IsOutOfMemory did

  -- why nothing is kept was reported so
  pub record ReportsKeeping {E : Type 0} (reported : Writer E) (exit : Exit) (old new : D)
      (gives_all : Bool) (e e' : E) : Type 0 where
    pub did : Outcome
    pub ends : did.exit ≡ exit
    pub is : RefusesKeeping old new gives_all did ⊎ OpensNoRecording old new gives_all did
    pub reports : IsPrint reported did.faults e e'

  -- the chunks were kept, or why they aren't was reported
  abbrev pub IsKeeping : {E : Type 0} → Writer E → Result (Unit {0}) Exit → D → D → Bool → E → E → Type 0
  IsKeeping reported (Ok x) old new gives_all e e' = KeepsLeftOut old new gives_all × (e' ≡ e)
  IsKeeping reported (Err exit) old new gives_all e e' = ReportsKeeping reported exit old new gives_all e e'
