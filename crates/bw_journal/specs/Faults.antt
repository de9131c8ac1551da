-- The faults of a journal as the code has them.
use Rattle.std.specs.Prelude.{◌≡◌, ℕ, Option, Some, None, Result, Err}
use Rattle.bw_journal.specs.Replays.{Story, JournalFault, NotBegun, NotAJournal, OtherName}
use Rattle.bw_journal.specs.Replays.{OtherLimit, OtherVerdict, NotAnEntry, Damaged, fault_code}
use Rattle.bw_journal.specs.declared.fault.ReplayFault.{ReplayFault}
use Rattle.bw_journal.specs.declared.fault.ReplayFault.TheVariants as faults

-- what is wrong with the journal; nothing if memory was refused
abbrev pub fault_meaning : ReplayFault → Option JournalFault
fault_meaning faults.NotBegun = Some NotBegun
fault_meaning faults.NotAJournal = Some NotAJournal
fault_meaning faults.OtherName = Some OtherName
fault_meaning faults.OtherLimit = Some OtherLimit
fault_meaning faults.OtherVerdict = Some OtherVerdict
fault_meaning faults.NotAnEntry = Some NotAnEntry
fault_meaning faults.Damaged = Some Damaged
fault_meaning faults.Memory = None

-- the number of a lack of memory
abbrev pub memory_code : ℕ
memory_code = 8

-- the number of a fault, or of a lack of memory
abbrev pub code_by : Option JournalFault → ℕ
code_by None = memory_code
code_by (Some f) = fault_code f

-- the number of a fault of a replay
abbrev pub replay_code : ReplayFault → ℕ
replay_code e = code_by (fault_meaning e)

-- unless memory was refused, this is the journal's fault
abbrev pub IsJournalFault : ReplayFault → Result Story JournalFault → Type 0
IsJournalFault e reported = (f : JournalFault) → fault_meaning e ≡ Some f → reported ≡ Err f
