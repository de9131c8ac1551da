-- The faults of a file, by number and in the words of the definitions.
use Rattle.std.specs.Prelude.{ℕ, Bool, true, false, Option, Some, None, option_map, is_some, Result}
use Rattle.std.specs.Prelude.{Ok, Err, List, ◌++◌, codes, decimal, if◌then◌else◌}
use Rattle.bw_stream.specs.Moves.{one_more}
use Rattle.bw_model.specs.Reading as reading
use Rattle.bw_inspect.specs.declared.fault.InspectKind.{InspectKind}
use Rattle.bw_inspect.specs.declared.fault.InspectKind.TheVariants.{NotWave, Truncated, NoDs64}
use Rattle.bw_inspect.specs.declared.fault.InspectKind.TheVariants.{BadDs64, NoSize, Twice, NoFmt}
use Rattle.bw_inspect.specs.declared.fault.InspectKind.TheVariants.{NoData, BadFmt, BadBext, BadCue}
use Rattle.bw_inspect.specs.declared.fault.InspectKind.TheVariants.{TooMany, TooLarge, Read, Memory}
use Rattle.bw_inspect.specs.declared.fault.InspectFault.{InspectFault}

-- the number of a kind
abbrev pub kind_number : InspectKind → ℕ
kind_number NotWave = 1
kind_number Truncated = 2
kind_number NoDs64 = 3
kind_number BadDs64 = 4
kind_number NoSize = 5
kind_number Twice = 6
kind_number NoFmt = 7
kind_number NoData = 8
kind_number BadFmt = 9
kind_number BadBext = 10
kind_number BadCue = 11
kind_number TooMany = 12
kind_number TooLarge = 13
kind_number Read = 14
kind_number Memory = 15

-- the name of a kind, as it is printed
abbrev pub name_of : InspectKind → List ℕ
name_of NotWave = codes "NotWave"
name_of Truncated = codes "Truncated"
name_of NoDs64 = codes "NoDs64"
name_of BadDs64 = codes "BadDs64"
name_of NoSize = codes "NoSize"
name_of Twice = codes "Twice"
name_of NoFmt = codes "NoFmt"
name_of NoData = codes "NoData"
name_of BadFmt = codes "BadFmt"
name_of BadBext = codes "BadBext"
name_of BadCue = codes "BadCue"
name_of TooMany = codes "TooMany"
name_of TooLarge = codes "TooLarge"
name_of Read = codes "Read"
name_of Memory = codes "Memory"

-- a fault as it is printed
abbrev pub inspect_fault_text : InspectFault → List ℕ
inspect_fault_text f = name_of f.kind ++ codes " at " ++ decimal f.offset

-- the fault of the bytes that a kind names: a failed read and lack of memory are none
abbrev pub kind_of : InspectKind → Option reading.FaultKind
kind_of NotWave = Some reading.NotWave
kind_of Truncated = Some reading.Truncated
kind_of NoDs64 = Some reading.NoDs64
kind_of BadDs64 = Some reading.BadDs64
kind_of NoSize = Some reading.NoSize
kind_of Twice = Some reading.Twice
kind_of NoFmt = Some reading.NoFmt
kind_of NoData = Some reading.NoData
kind_of BadFmt = Some reading.BadFmt
kind_of BadBext = Some reading.BadBext
kind_of BadCue = Some reading.BadCue
kind_of TooMany = Some reading.TooMany
kind_of TooLarge = Some reading.TooLarge
kind_of Read = None
kind_of Memory = None

-- the same with its place
abbrev pub bytes_fault : InspectFault → Option reading.Fault
bytes_fault f = option_map (λ k. record { kind = k; offset = f.offset }) (kind_of f.kind)

-- the reader failed
abbrev pub is_failed_read : InspectKind → Bool
is_failed_read Read = true
is_failed_read _ = false

-- memory was refused
abbrev pub is_memory : InspectKind → Bool
is_memory Memory = true
is_memory _ = false

-- the fault is one of the bytes
abbrev pub is_of_bytes : InspectKind → Bool
is_of_bytes k = is_some (kind_of k)

-- the reader failed in a call with this result
abbrev pub stopped : {X : Type 0} → Result X InspectFault → Bool
stopped (Ok x) = false
stopped (Err f) = is_failed_read f.kind

-- the reader's failures after a call: one more exactly if Read is returned
abbrev pub counted : {X : Type 0} → Result X InspectFault → ℕ → ℕ
counted r n = if stopped r then one_more n else n
