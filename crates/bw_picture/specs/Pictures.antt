-- What the command `picture` prints and reports, and how it ends.
use Rattle.std.specs.Prelude.{◌≡◌, ◌⊎◌, ℕ, ◌-◌, Bool, true, List, Option, Some, None, Ok, codes}
use Rattle.bw_stream.specs.Readers.{Of}
use Rattle.bw_model.specs.Report.{Report, report_of}
use Rattle.bw_inspect.specs.Readings.{HasReading}
use Rattle.bw_console.specs.Outcomes.{Outcome, PrintsText}
use Rattle.bw_console.specs.Prints.{Nothing}
use Rattle.bw_picture.specs.Fits.{fitting_shape}
use Rattle.bw_picture.specs.Pages.{picture_text}
use Rattle.bw_picture.specs.declared.drawing.Shape.{Shape}
use Rattle.bw_plan.specs.Recordings.{Recording, no_options, recording_of}
use Rattle.bw_plan.specs.declared.fault.RecordingKind.TheVariants.{TooLong}
use Rattle.bw_recorder.specs.Openings.{RefusesAs, is_well_at}
use Rattle.bw_recorder.specs.Packs.{IsOpenReport}
use Rattle.bw_recorder.specs.declared.fault.OpenFault.{OpenFault}
use Rattle.bw_recorder.specs.declared.fault.OpenFault.TheVariants.{Refused}

-- the bytes have a recording, which `pack` prints
abbrev pub HasRecording : List ℕ → Type 0
HasRecording b = (recording : Recording) × (recording_of b no_options ≡ Ok recording)

-- the report of a reading
abbrev pub report_in : (b : List ℕ) → HasReading b → Report
report_in b r = report_of b r.form r.entries

-- the bytes have a recording, and this is its picture, with the cue points of the file
pub record IsPictureOf (b text : List ℕ) : Type 0 where
  pub recorded : HasRecording b
  pub reading_is : HasReading b
  pub shape : Shape
  pub fits : fitting_shape (report_in b reading_is) ≡ Some shape
  pub draws : text
      ≡ picture_text b shape (report_in b reading_is).fmt.rate (report_in b reading_is).cues

-- the samples that begin here are too many, or begin too far into the file
abbrev pub too_long : ℕ → OpenFault
too_long data_at = Refused (record { kind = TooLong; offset = data_at - 8 })

-- the bytes have a recording, which doesn't fit into a picture
pub record IsUndrawable (b : List ℕ) (fault : OpenFault) : Type 0 where
  pub recorded : HasRecording b
  pub reading_is : HasReading b
  pub unfit : fitting_shape (report_in b reading_is) ≡ None
  pub is : fault ≡ too_long (report_in b reading_is).data_at

-- why these bytes aren't drawn: they don't change
abbrev pub RefusesPicture : List ℕ → OpenFault → Type 0
RefusesPicture b fault = RefusesAs b no_options fault ⊎ IsUndrawable b fault

-- the picture of the file is printed
pub record PrintsPicture (file : Option (List ℕ)) (gives_all : Bool) (did : Outcome) : Type 0 where
  pub text : List ℕ
  pub right : Of file (λ b. IsPictureOf b text)
  pub gives : gives_all ≡ true
  pub prints : PrintsText text did

-- it isn't drawn, which is reported
pub record DrawsNothing (file : Option (List ℕ)) (path : List ℕ) (gives_all : Bool) (did : Outcome)
    : Type 0 where
  pub fault : OpenFault
  pub right : Of file (λ b. RefusesPicture b fault)
  pub gives : gives_all ≡ is_well_at fault
  pub reads : did.reads_all ≡ true
  pub prints : did.out ≡ Nothing
  pub reports : IsOpenReport (codes "picture") path fault did.exit did.faults

-- the command did this with the file at a path
abbrev pub IsDrawing : Option (List ℕ) → List ℕ → Bool → Outcome → Type 0
IsDrawing file path gives_all did =
    PrintsPicture file gives_all did ⊎ DrawsNothing file path gives_all did
