-- The faults of repairs as they are printed.
use Rattle.std.specs.Prelude.{ℕ, List, ◌++◌, codes, decimal}
use Rattle.bw_inspect.specs.Faults.{name_of}
use Rattle.bw_inspect.specs.declared.fault.InspectFault.{InspectFault}
use Rattle.bw_repair.specs.declared.fault.RepairKind.{RepairKind}
use Rattle.bw_repair.specs.declared.fault.RepairKind.TheVariants.{Unread, NotLast, Overlap}
use Rattle.bw_repair.specs.declared.fault.RepairFault.{RepairFault}

-- the name of a kind, as it is printed
abbrev pub repair_kind_text : RepairKind → List ℕ
repair_kind_text (Unread kind) = name_of kind
repair_kind_text NotLast = codes "NotLast"
repair_kind_text Overlap = codes "Overlap"

-- a fault as it is printed
abbrev pub repair_fault_text : RepairFault → List ℕ
repair_fault_text f = repair_kind_text f.kind ++ codes " at " ++ decimal f.offset

-- the fault of a repair whose file isn't read
abbrev pub as_repair_fault : InspectFault → RepairFault
as_repair_fault f = record { kind = Unread f.kind; offset = f.offset }
