-- Why a name can't be resumed, as text.
use Rattle.std.specs.Prelude.{ℕ, List, ◌++◌, codes, decimal}
use Rattle.bw_journal.specs.declared.fault.ReplayFault.{ReplayFault}
use Rattle.bw_journal.specs.declared.fault.ReplayFault.TheVariants.{NotBegun, NotAJournal, OtherName}
use Rattle.bw_journal.specs.declared.fault.ReplayFault.TheVariants.{OtherLimit as HasOtherLimit}
use Rattle.bw_journal.specs.declared.fault.ReplayFault.TheVariants.{OtherVerdict, NotAnEntry, Damaged}
use Rattle.bw_journal.specs.declared.fault.ReplayFault.TheVariants.{Memory as NoMemory}
use Rattle.bw_recovery.specs.declared.fault.FileFault.{FileFault}
use Rattle.bw_recovery.specs.declared.fault.FileFault.TheVariants.{Lost, Changed}
use Rattle.bw_recovery.specs.declared.finding.NameFault.{NameFault as Fault}
use Rattle.bw_recovery.specs.declared.finding.NameFault.TheVariants.{Journal, OtherLimit, File}

-- what is wrong with a journal
abbrev pub journal_text : ReplayFault → List ℕ
journal_text NotBegun = codes "NotBegun"
journal_text NotAJournal = codes "NotAJournal"
journal_text OtherName = codes "OtherName"
journal_text HasOtherLimit = codes "OtherLimit"
journal_text OtherVerdict = codes "OtherVerdict"
journal_text NotAnEntry = codes "NotAnEntry"
journal_text Damaged = codes "Damaged"
journal_text NoMemory = codes "Memory"

-- what is wrong with a take's file
abbrev pub file_cause_text : FileFault → List ℕ
file_cause_text Lost = codes "LostFile"
file_cause_text Changed = codes "ChangedFile"

-- why a name can't be resumed; of another limit, which one to give
abbrev pub cause_text : Fault → List ℕ
cause_text (Journal fault) = journal_text fault
cause_text (OtherLimit limit) = codes "OtherLimit, needs --limit " ++ decimal limit
cause_text (File fault) = file_cause_text fault
