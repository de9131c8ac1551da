-- What `repair` prints and reports.
use Rattle.std.specs.Prelude.{ℕ, ◌+◌, Bool, List, [], ◌∷◌, ◌++◌, codes, decimal, if◌then◌else◌}
use Rattle.bw_console.specs.Text.{as_line}
use Rattle.bw_inspect.specs.Hints.{form_hint}
use Rattle.bw_repair.specs.Faults.{repair_fault_text}
use Rattle.bw_repair.specs.declared.fault.RepairKind.{RepairKind}
use Rattle.bw_repair.specs.declared.fault.RepairKind.TheVariants.{Unread}
use Rattle.bw_repair.specs.declared.fault.RepairFault.{RepairFault}
use Rattle.bw_repair.specs.declared.plan.SizePlan.{SizePlan}

-- a file that is sound, with so many frames
abbrev pub sound_text : ℕ → List ℕ
sound_text frames = as_line (codes "sound frames=" ++ decimal frames)

-- a size, by its name and where it is: what it was, and what it becomes
abbrev pub size_line : List ℕ → ℕ → ℕ → ℕ → List ℕ
size_line name place old new =
    as_line (name ++ decimal place ++ codes " old=" ++ decimal old ++ codes " new=" ++ decimal new)

-- the two sizes, the frames that the file reads as with them, and whether they are written
abbrev pub plan_text : SizePlan → Bool → List ℕ
plan_text p is_written =
    size_line (codes "form at=") 4 p.old.form p.new.form
    ++ size_line (codes "data at=") (p.place + 4) p.old.«data» p.new.«data»
    ++ codes "frames=" ++ decimal p.frames
    ++ (if is_written then codes " written=yes\n" else codes " written=no\n")

-- what to do about a fault, but for what `repair` itself does
abbrev pub repair_kind_hint : RepairKind → ℕ → List ℕ
repair_kind_hint (Unread kind) place = form_hint kind place
repair_kind_hint _ place = []

abbrev pub repair_hint : RepairFault → List ℕ
repair_hint f = repair_kind_hint f.kind f.offset

-- the line of a fault, and the hint below it
abbrev pub repair_line : RepairFault → List ℕ
repair_line f = as_line (codes "repair: " ++ repair_fault_text f) ++ repair_hint f

-- the line of a path whose file isn't written, for this reason
abbrev pub unwritten_text : List ℕ → List ℕ → List ℕ
unwritten_text path reason = path ++ (codes " can't be written: " ++ (reason ++ 10 ∷ []))
