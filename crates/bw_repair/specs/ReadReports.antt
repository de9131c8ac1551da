-- What is known of a file once it was read, before anything is made or printed of it.
use Rattle.std.specs.Prelude.{◌≡◌, ◌⊎◌, ℕ, ◌≤◌, List}
use Rattle.bw_model.specs.Limits.{largest}
use Rattle.bw_inspect.specs.Readings.{HasReading}
use Rattle.bw_inspect.specs.declared.fault.InspectKind.TheVariants.{Memory}
use Rattle.bw_inspect.specs.declared.report.Report.{Report}
use Rattle.bw_repair.specs.ConvertFaults.{IsFaultOfFile}
use Rattle.bw_repair.specs.declared.conversions.fault.ConvertKind.{ConvertKind}
use Rattle.bw_repair.specs.declared.conversions.fault.ConvertKind.TheVariants.{Unread, Riff, SameForm}
use Rattle.bw_repair.specs.declared.conversions.fault.ConvertKind.TheVariants.{TooLong}
use Rattle.bw_repair.specs.declared.conversions.fault.ConvertKind.TheVariants.{Exists, Unwritten}
use Rattle.bw_repair.specs.declared.conversions.fault.ConvertFault.{ConvertFault}
use Rattle.bw_repair.specs.declared.conversions.fault.ConvertError.{ConvertError}
use Rattle.bw_repair.specs.declared.conversions.fault.ConvertError.TheVariants.{Unopened, Refused}

-- the bytes have a reading, and these are its id and its chunks
pub record HasChunkReport (b : List ℕ) (r : Report) : Type 0 where
  pub reading_is : HasReading b
  pub form_is : r.form ≡ reading_is.form.id
  pub chunks_are : r.chunks ≡ reading_is.entries
  pub small : reading_is.form.size ≤ largest

-- why the bytes aren't read
abbrev pub IsUnreadAt : List ℕ → ConvertKind → ℕ → Type 0
IsUnreadAt b (Unread kind) offset = IsFaultOfFile b (record { kind = kind; offset = offset })
IsUnreadAt b Riff offset = ⊥
IsUnreadAt b SameForm offset = ⊥
IsUnreadAt b TooLong offset = ⊥
IsUnreadAt b Exists offset = ⊥
IsUnreadAt b Unwritten offset = ⊥

-- .. or the file isn't opened
abbrev pub IsNotRead : List ℕ → ConvertError → Type 0
IsNotRead b (Unopened error) = Unit {0}
IsNotRead b (Refused f) = IsUnreadAt b f.kind f.offset

-- there is no memory for them, or these chunks don't fit
abbrev pub IsUnfit : Type 0 → ConvertFault → Type 0
IsUnfit unfit f =
    (f ≡ record { kind = Unread Memory; offset = 0 }) ⊎ (unfit × (f ≡ record { kind = TooLong; offset = 0 }))
