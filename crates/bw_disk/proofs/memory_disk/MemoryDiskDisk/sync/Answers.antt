use Rattle.std.proofs.Common.{rules}
use Rattle.bw_disk.proofs.memory_disk.MemoryDiskDisk.sync.Goals as goal

pub returns-clause-synced : goal.returns-clause-synced
returns-clause-synced c = search rules

pub returns-clause-stands : goal.returns-clause-stands
returns-clause-stands c = search rules
