-- The faults of recordings as they are returned and printed.
use Rattle.std.specs.Prelude.{List, ◌++◌, Option, Some, None, option_map, codes, decimal, ℕ}
use Rattle.bw_inspect.specs.Faults.{kind_of, name_of}
use Rattle.bw_plan.specs.Recordings as recording
use Rattle.bw_plan.specs.declared.fault.RecordingKind.{RecordingKind}
use Rattle.bw_plan.specs.declared.fault.RecordingKind.TheVariants.{Unread, Foreign, Float, NotPcm, Bits}
use Rattle.bw_plan.specs.declared.fault.RecordingKind.TheVariants.{ValidBits, Align, Rate, Channels}
use Rattle.bw_plan.specs.declared.fault.RecordingKind.TheVariants.{PartFrame, Empty, Short, Unclean}
use Rattle.bw_plan.specs.declared.fault.RecordingKind.TheVariants.{TooLong}
use Rattle.bw_plan.specs.declared.fault.RecordingFault.{RecordingFault}

-- the name of a kind, as it is printed
abbrev pub kind_text : RecordingKind → List ℕ
kind_text (Unread kind) = name_of kind
kind_text (Foreign format) = codes "NotWave"
kind_text (Float bits) = codes "NotPcm"
kind_text NotPcm = codes "NotPcm"
kind_text Bits = codes "Bits"
kind_text ValidBits = codes "ValidBits"
kind_text Align = codes "Align"
kind_text Rate = codes "Rate"
kind_text Channels = codes "Channels"
kind_text PartFrame = codes "PartFrame"
kind_text Empty = codes "Empty"
kind_text Short = codes "Truncated"
kind_text (Unclean part) = codes "Unclean"
kind_text TooLong = codes "TooLong"

-- a fault as it is printed
abbrev pub recording_fault_text : RecordingFault → List ℕ
recording_fault_text f = kind_text f.kind ++ codes " at " ++ decimal f.offset

-- the fault of the bytes that a kind names: a failed read and lack of memory aren't theirs
abbrev pub kind_meaning : RecordingKind → Option recording.RecordingFault
kind_meaning (Unread kind) = option_map recording.Unread (kind_of kind)
kind_meaning (Foreign format) = Some (recording.Foreign format)
kind_meaning (Float bits) = Some (recording.Float bits)
kind_meaning NotPcm = Some recording.NotPcm
kind_meaning Bits = Some recording.Bits
kind_meaning ValidBits = Some recording.ValidBits
kind_meaning Align = Some recording.Align
kind_meaning Rate = Some recording.Rate
kind_meaning Channels = Some recording.Channels
kind_meaning PartFrame = Some recording.PartFrame
kind_meaning Empty = Some recording.Empty
kind_meaning Short = Some recording.Short
kind_meaning (Unclean part) = Some (recording.Unclean part)
kind_meaning TooLong = Some recording.TooLong

-- the same with its place
abbrev pub recording_fault_meaning : RecordingFault → Option recording.FaultAt
recording_fault_meaning f =
    option_map (λ (kind : recording.RecordingFault). record { kind = kind; offset = f.offset })
    (kind_meaning f.kind)

-- the fault of the bytes, if there is one
abbrev pub found : Option RecordingFault → Option recording.FaultAt
found None = None
found (Some f) = recording_fault_meaning f
