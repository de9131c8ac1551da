-- What is reported where chunks can't be kept, or can't be joined to a take.
use Rattle.std.specs.Prelude.{ℕ, List, [], ◌++◌, codes}
use Rattle.bw_console.specs.Text.{as_line}
use Rattle.bw_inspect.specs.Hints.{file_hint}
use Rattle.bw_repair.specs.ConvertFaults.{convert_fault_text}
use Rattle.bw_repair.specs.declared.conversions.fault.ConvertKind.{ConvertKind}
use Rattle.bw_repair.specs.declared.conversions.fault.ConvertKind.TheVariants.{Unread, Riff, SameForm}
use Rattle.bw_repair.specs.declared.conversions.fault.ConvertKind.TheVariants.{TooLong}
use Rattle.bw_repair.specs.declared.conversions.fault.ConvertKind.TheVariants.{Exists, Unwritten}
use Rattle.bw_repair.specs.declared.conversions.fault.ConvertFault.{ConvertFault}

-- what to do about a fault of this kind at a place
abbrev pub keep_hint : ConvertKind → ℕ → List ℕ
keep_hint (Unread kind) place = file_hint kind place
keep_hint Riff place = []
keep_hint SameForm place = []
keep_hint TooLong place = codes "hint: a RIFF file can't hold these chunks\n"
keep_hint Exists place = codes "hint: something else is at LEFT: give a path where nothing is\n"
keep_hint Unwritten place = codes "hint: LEFT can't be written: remove what is there of it\n"

-- the line of a fault, and the hint below it
abbrev pub keep_line : ConvertFault → List ℕ
keep_line f = as_line (codes "keep: " ++ convert_fault_text f) ++ keep_hint f.kind f.offset

-- the same for a take and the file whose chunks are joined to it
abbrev pub join_hint : ConvertKind → ℕ → List ℕ
join_hint (Unread kind) place = file_hint kind place
join_hint Riff place = []
join_hint SameForm place = []
join_hint TooLong place = codes "hint: the form can't hold these chunks: RIFF has 4 GiB at most\n"
join_hint Exists place = []
join_hint Unwritten place = []

abbrev pub join_line : ConvertFault → List ℕ
join_line f = as_line (codes "join: " ++ convert_fault_text f) ++ join_hint f.kind f.offset
