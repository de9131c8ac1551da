-- Why a file isn't to be converted, as far as it is known before OUT is made.
use Rattle.std.specs.Prelude.{◌≡◌, ◌≢◌, ℕ, List}
use Rattle.bw_repair.specs.ConvertFaults.{HasId, IsFaultOfFile, IsNarrow}
use Rattle.bw_repair.specs.Forms.{id_of, other_of}
use Rattle.bw_repair.specs.declared.conversions.fault.ConvertKind.{ConvertKind}
use Rattle.bw_repair.specs.declared.conversions.fault.ConvertKind.TheVariants.{Unread, Riff, SameForm}
use Rattle.bw_repair.specs.declared.conversions.fault.ConvertKind.TheVariants.{TooLong}
use Rattle.bw_repair.specs.declared.conversions.fault.ConvertKind.TheVariants.{Exists, Unwritten}
use Rattle.bw_repair.specs.declared.conversions.fault.ConvertError.{ConvertError}
use Rattle.bw_repair.specs.declared.conversions.fault.ConvertError.TheVariants.{Unopened, Refused}
use Rattle.bw_repair.specs.declared.conversions.form.WideForm.{WideForm}

-- why a file with this id isn't converted
abbrev pub RefusesIdAt : List ℕ → WideForm → ConvertKind → Type 0
RefusesIdAt id form (Unread kind) = ⊥
RefusesIdAt id form Riff = (id ≢ id_of form) × (id ≢ id_of (other_of form))
RefusesIdAt id form SameForm = id ≡ id_of form
RefusesIdAt id form TooLong = ⊥
RefusesIdAt id form Exists = ⊥
RefusesIdAt id form Unwritten = ⊥

abbrev pub RefusesId : List ℕ → WideForm → ConvertError → Type 0
RefusesId id form (Unopened error) = ⊥
RefusesId id form (Refused f) = RefusesIdAt id form f.kind × (f.offset ≡ 0)

-- why a file of these bytes isn't converted
abbrev pub RefusesConvertKind : List ℕ → WideForm → ConvertKind → ℕ → Type 0
RefusesConvertKind b form (Unread kind) offset = IsFaultOfFile b (record { kind = kind; offset = offset })
RefusesConvertKind b form Riff offset = IsNarrow b form × (offset ≡ 0)
RefusesConvertKind b form SameForm offset = HasId b (id_of form) × (offset ≡ 0)
RefusesConvertKind b form TooLong offset = ⊥
RefusesConvertKind b form Exists offset = ⊥
RefusesConvertKind b form Unwritten offset = ⊥

-- .. or it isn't opened
abbrev pub RefusesBefore : List ℕ → WideForm → ConvertError → Type 0
RefusesBefore b form (Unopened error) = Unit {0}
RefusesBefore b form (Refused f) = RefusesConvertKind b form f.kind f.offset
