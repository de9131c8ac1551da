-- What `convert` prints and reports.
use Rattle.std.specs.Prelude.{ℕ, List, [], ◌++◌, codes, decimal}
use Rattle.bw_console.specs.Text.{as_line}
use Rattle.bw_inspect.specs.Hints.{file_hint}
use Rattle.bw_repair.specs.ConvertFaults.{convert_fault_text}
use Rattle.bw_repair.specs.declared.conversions.fault.ConvertKind.{ConvertKind}
use Rattle.bw_repair.specs.declared.conversions.fault.ConvertKind.TheVariants.{Unread, Riff, SameForm}
use Rattle.bw_repair.specs.declared.conversions.fault.ConvertKind.TheVariants.{TooLong}
use Rattle.bw_repair.specs.declared.conversions.fault.ConvertKind.TheVariants.{Exists, Unwritten}
use Rattle.bw_repair.specs.declared.conversions.fault.ConvertFault.{ConvertFault}
use Rattle.bw_repair.specs.declared.conversions.form.WideForm.{WideForm}
use Rattle.bw_repair.specs.declared.conversions.form.WideForm.TheVariants.{Rf64, Bw64}

-- the form that OUT has
abbrev pub form_text : WideForm → List ℕ
form_text Rf64 = codes "form=RF64"
form_text Bw64 = codes "form=BW64"

-- OUT is made, in this form and with so many bytes
abbrev pub made_text : WideForm → ℕ → List ℕ
made_text form len = as_line (form_text form ++ codes " bytes=" ++ decimal len)

-- what to do about a fault of this kind at a place
abbrev pub convert_kind_hint : ConvertKind → ℕ → List ℕ
convert_kind_hint (Unread kind) place = file_hint kind place
convert_kind_hint Riff place = codes "hint: RIFF has no ds64 chunk: it is read as it is\n"
convert_kind_hint SameForm place = codes "hint: FILE has this id already\n"
convert_kind_hint TooLong place = []
convert_kind_hint Exists place = codes "hint: something is at OUT: give a path where nothing is\n"
convert_kind_hint Unwritten place = codes "hint: OUT can't be written: remove what is there of it\n"

-- the line of a fault, and the hint below it
abbrev pub conversion_line : ConvertFault → List ℕ
conversion_line f =
    as_line (codes "convert: " ++ convert_fault_text f) ++ convert_kind_hint f.kind f.offset
