-- Why a file couldn't be read.
use Rattle.std.specs.Prelude.{Bool, true, false, Result, Ok, Err}
use Rattle.bw_disk.specs.declared.reading.ReadFault.{ReadFault}
use Rattle.bw_disk.specs.declared.reading.ReadFault.TheVariants.{Disk, Memory}

-- whether a read failed because the disk did
abbrev pub is_disk_fault : {T : Type 0} → Result T ReadFault → Bool
is_disk_fault (Ok found) = false
is_disk_fault (Err Disk) = true
is_disk_fault (Err Memory) = false
