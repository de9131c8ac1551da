-- What the command `join` does, and how it ends.
use Rattle.std.specs.Prelude.{◌≡◌, ◌⊎◌, ℕ, Bool, true, false, List, ◌++◌, Option}
use Rattle.std.specs.declared.io.ErrorKind.{ErrorKind}
use Rattle.bw_stream.specs.Readers.{Of}
use Rattle.bw_console.specs.FailedOpenings.{IsUnopened}
use Rattle.bw_console.specs.Outcomes.{Outcome, IsOutOfMemory, PrintsText}
use Rattle.bw_console.specs.Prints.{Nothing, IsOf}
use Rattle.bw_inspect.specs.Readings.{HasReading}
use Rattle.bw_inspect.specs.declared.fault.InspectKind.TheVariants.{Read}
use Rattle.bw_repair.specs.Conversions.{exit_on_conversion}
use Rattle.bw_repair.specs.ConvertFaults.{IsFaultOfFile}
use Rattle.bw_repair.specs.Joined.{fits_take, joined_take}
use Rattle.bw_repair.specs.LeftTexts.{join_line}
use Rattle.bw_repair.specs.declared.conversions.fault.ConvertKind.{ConvertKind}
use Rattle.bw_repair.specs.declared.conversions.fault.ConvertKind.TheVariants.{Unread, Riff, SameForm}
use Rattle.bw_repair.specs.declared.conversions.fault.ConvertKind.TheVariants.{TooLong}
use Rattle.bw_repair.specs.declared.conversions.fault.ConvertKind.TheVariants.{Exists, Unwritten}
use Rattle.bw_repair.specs.declared.conversions.fault.ConvertFault.{ConvertFault}

-- the files have these bytes, and this is the take with the chunks
pub record Joins (t l text : List ℕ) : Type 0 where
  pub take_reading : HasReading t
  pub left_reading : HasReading l
  pub fits : fits_take take_reading.form.id take_reading.entries left_reading.entries ≡ true
  pub is : text ≡ joined_take t l take_reading left_reading

-- .. or a prefix of it
pub record JoinsInPart (t l part : List ℕ) : Type 0 where
  pub text : List ℕ
  pub rest : List ℕ
  pub whole : part ++ rest ≡ text
  pub joins : Joins t l text

-- the bytes have readings, and the chunks are too long for the take's form
pub record IsTooLongToJoin (t l : List ℕ) : Type 0 where
  pub take_reading : HasReading t
  pub left_reading : HasReading l
  pub unfit : fits_take take_reading.form.id take_reading.entries left_reading.entries ≡ false

-- the files have these bytes, and this is a fault of either, or the chunks are too long
abbrev pub IsJoinRefusal : List ℕ → List ℕ → ConvertKind → ℕ → Type 0
IsJoinRefusal t l (Unread kind) offset =
    IsFaultOfFile t (record { kind = kind; offset = offset })
    ⊎ (HasReading t × IsFaultOfFile l (record { kind = kind; offset = offset }))
IsJoinRefusal t l Riff offset = ⊥
IsJoinRefusal t l SameForm offset = ⊥
IsJoinRefusal t l TooLong offset = IsTooLongToJoin t l × (offset ≡ 0)
IsJoinRefusal t l Exists offset = ⊥
IsJoinRefusal t l Unwritten offset = ⊥

module _ (take left : Option (List ℕ)) where
  -- the take with the chunks is printed
  pub record PrintsJoined (gives_all : Bool) (did : Outcome) : Type 0 where
    pub text : List ℕ
    pub right : Of take (λ t. Of left (λ l. Joins t l text))
    pub gives : gives_all ≡ true
    pub prints : PrintsText text did

  -- they aren't joined, which is reported
  pub record RefusesJoin (gives_all : Bool) (did : Outcome) : Type 0 where
    pub fault : ConvertFault
    pub right : Of take (λ t. Of left (λ l. IsJoinRefusal t l fault.kind fault.offset))
    pub gives : gives_all ≡ true
    pub exit_is : did.exit ≡ exit_on_conversion fault.kind
    pub reads : did.reads_all ≡ true
    pub prints : did.out ≡ Nothing
    pub reports : IsOf (join_line fault) did.faults

  -- a read failed after a part was printed, which is reported
  pub record StopsJoin (gives_all : Bool) (did : Outcome) : Type 0 where
    pub fault : ConvertFault
    pub kind_is : fault.kind ≡ Unread Read
    pub text : List ℕ
    pub right : Of take (λ t. Of left (λ l. JoinsInPart t l text))
    pub gives : gives_all ≡ true
    pub exit_is : did.exit ≡ exit_on_conversion fault.kind
    pub reads : did.reads_all ≡ true
    pub prints : IsOf text did.out
    pub reports : IsOf (join_line fault) did.faults

  -- a file of one of these paths isn't opened, which is reported, after a part may have been printed
  pub record OpensNot (take_path left_path : List ℕ) (gives_all : Bool) (did : Outcome) : Type 0 where
    pub kind : ErrorKind
    pub gives : gives_all ≡ false
    pub reports : IsUnopened take_path kind did ⊎ (IsUnopened left_path kind did ⊎ IsOutOfMemory did)

  -- the command did this with the files at these paths
  abbrev pub IsJoining : List ℕ → List ℕ → Bool → Outcome → Type 0
  IsJoining take_path left_path gives_all did =
      PrintsJoined gives_all did
      ⊎ (RefusesJoin gives_all did
      ⊎ (StopsJoin gives_all did ⊎ OpensNot take_path left_path gives_all did))
