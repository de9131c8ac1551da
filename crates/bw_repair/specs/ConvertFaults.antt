-- Why a file isn't converted, as it is printed, and of what that is a fault.
use Rattle.std.specs.Prelude.{◌≡◌, ◌≢◌, ℕ, ◌^◌, ◌<◌, Bool, true, false, List, ◌++◌, Some, Result, Ok, Err}
use Rattle.std.specs.Prelude.{codes, decimal, length}
use Rattle.bw_model.specs.Reading.{Fault, IsFault}
use Rattle.bw_inspect.specs.Faults.{bytes_fault, name_of}
use Rattle.bw_inspect.specs.Readings.{HasReading}
use Rattle.bw_inspect.specs.declared.fault.InspectFault.{InspectFault}
use Rattle.bw_repair.specs.Forms.{IsConvertible, id_of, other_of}
use Rattle.bw_repair.specs.declared.conversions.fault.ConvertKind.{ConvertKind}
use Rattle.bw_repair.specs.declared.conversions.fault.ConvertKind.TheVariants.{Unread, Riff, SameForm}
use Rattle.bw_repair.specs.declared.conversions.fault.ConvertKind.TheVariants.{TooLong}
use Rattle.bw_repair.specs.declared.conversions.fault.ConvertKind.TheVariants.{Exists, Unwritten}
use Rattle.bw_repair.specs.declared.conversions.fault.ConvertFault.{ConvertFault}
use Rattle.bw_repair.specs.declared.conversions.fault.ConvertError.{ConvertError}
use Rattle.bw_repair.specs.declared.conversions.fault.ConvertError.TheVariants.{Unopened, Refused}
use Rattle.bw_repair.specs.declared.conversions.form.WideForm.{WideForm}

-- the name of a kind, as it is printed
abbrev pub convert_kind_text : ConvertKind → List ℕ
convert_kind_text (Unread kind) = name_of kind
convert_kind_text Riff = codes "Riff"
convert_kind_text SameForm = codes "SameForm"
convert_kind_text TooLong = codes "TooLong"
convert_kind_text Exists = codes "Exists"
convert_kind_text Unwritten = codes "Unwritten"

-- a fault as it is printed
abbrev pub convert_fault_text : ConvertFault → List ℕ
convert_fault_text f = convert_kind_text f.kind ++ codes " at " ++ decimal f.offset

-- a call of the disk failed
abbrev pub is_write_fault : ConvertKind → Bool
is_write_fault Unwritten = true
is_write_fault _ = false

-- .. in a call with this result
abbrev pub is_disk_stopped : {X : Type 0} → Result X ConvertFault → Bool
is_disk_stopped (Ok x) = false
is_disk_stopped (Err f) = is_write_fault f.kind

-- .. or that caused this error
abbrev pub is_disk_cause : ConvertError → Bool
is_disk_cause (Unopened error) = false
is_disk_cause (Refused f) = is_write_fault f.kind

abbrev pub is_disk_error : {X : Type 0} → Result X ConvertError → Bool
is_disk_error (Ok x) = false
is_disk_error (Err e) = is_disk_cause e

-- FILE was opened each time
abbrev pub is_opened : {X : Type 0} → Result X ConvertError → Bool
is_opened (Ok x) = true
is_opened (Err (Unopened error)) = false
is_opened (Err (Refused f)) = true

-- a fault of the bytes is theirs
abbrev pub IsFaultOfFile : List ℕ → InspectFault → Type 0
IsFaultOfFile b f = (g : Fault) → bytes_fault f ≡ Some g → IsFault b g

-- the bytes have a reading, with this id
pub record HasId (b id : List ℕ) : Type 0 where
  pub reading_is : HasReading b
  pub named : reading_is.form.id ≡ id

-- the bytes have a reading, with the id of neither form
pub record IsNarrow (b : List ℕ) (form : WideForm) : Type 0 where
  pub reading_is : HasReading b
  pub unlike : reading_is.form.id ≢ id_of form
  pub other : reading_is.form.id ≢ id_of (other_of form)

-- FILE has these bytes, and this is its first fault, or what else is wrong
abbrev pub IsConvertRefusalAt : List ℕ → WideForm → ConvertKind → ℕ → Type 0
IsConvertRefusalAt b form (Unread kind) offset = IsFaultOfFile b (record { kind = kind; offset = offset })
IsConvertRefusalAt b form Riff offset = IsNarrow b form × (offset ≡ 0)
IsConvertRefusalAt b form SameForm offset = HasId b (id_of form) × (offset ≡ 0)
IsConvertRefusalAt b form TooLong offset = IsConvertible form b × (2 ^ 62 < length b)
IsConvertRefusalAt b form Exists offset = IsConvertible form b × (offset ≡ 0)
IsConvertRefusalAt b form Unwritten offset = IsConvertible form b

abbrev pub IsConvertRefusal : List ℕ → WideForm → ConvertFault → Type 0
IsConvertRefusal b form f = IsConvertRefusalAt b form f.kind f.offset

-- .. or FILE isn't opened
abbrev pub RefusesConvert : List ℕ → WideForm → ConvertError → Type 0
RefusesConvert b form (Unopened error) = Unit {0}
RefusesConvert b form (Refused f) = IsConvertRefusal b form f
