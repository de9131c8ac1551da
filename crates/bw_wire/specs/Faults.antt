-- How faults are reported.
use Rattle.std.specs.Prelude.{ℕ, List, ◌++◌, codes, decimal}
use Rattle.bw_wire.specs.declared.fault.WireFault.{WireFault}
use Rattle.bw_wire.specs.Reasons.{reason_text}

-- the text for people about bytes that are no frame
abbrev pub fault_text : WireFault → List ℕ
fault_text fault = codes "at " ++ decimal fault.offset ++ codes ": " ++ reason_text fault.reason
