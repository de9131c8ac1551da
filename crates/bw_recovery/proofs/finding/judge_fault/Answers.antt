use Rattle.std.proofs.Common.{refl, ap}
use Rattle.bw_journal.specs.Faults.{fault_meaning}
use Rattle.bw_journal.specs.Replays.{NotAJournal, OtherName, OtherLimit, OtherVerdict, NotAnEntry, Damaged}
use Rattle.bw_recovery.proofs.Refusals.{refuses}
use Rattle.bw_recovery.proofs.finding.judge_fault.Goals as goal

pub returns-in-NotAJournal-clause-found : goal.returns-in-NotAJournal-clause-found
returns-in-NotAJournal-clause-found g c honest limit name is =
    refuses limit name c.args.journal.now _ c.args.fault NotAJournal (ap fault_meaning c.in-NotAJournal.is) refl
    (is NotAJournal (ap fault_meaning c.in-NotAJournal.is))

pub returns-in-OtherName-clause-found : goal.returns-in-OtherName-clause-found
returns-in-OtherName-clause-found g c honest limit name is =
    refuses limit name c.args.journal.now _ c.args.fault OtherName (ap fault_meaning c.in-OtherName.is) refl
    (is OtherName (ap fault_meaning c.in-OtherName.is))

pub returns-in-OtherVerdict-clause-found : goal.returns-in-OtherVerdict-clause-found
returns-in-OtherVerdict-clause-found g c honest limit name is =
    refuses limit name c.args.journal.now _ c.args.fault OtherVerdict (ap fault_meaning c.in-OtherVerdict.is) refl
    (is OtherVerdict (ap fault_meaning c.in-OtherVerdict.is))

pub returns-in-NotAnEntry-clause-found : goal.returns-in-NotAnEntry-clause-found
returns-in-NotAnEntry-clause-found g c honest limit name is =
    refuses limit name c.args.journal.now _ c.args.fault NotAnEntry (ap fault_meaning c.in-NotAnEntry.is) refl
    (is NotAnEntry (ap fault_meaning c.in-NotAnEntry.is))

pub returns-in-Damaged-clause-found : goal.returns-in-Damaged-clause-found
returns-in-Damaged-clause-found g c honest limit name is =
    refuses limit name c.args.journal.now _ c.args.fault Damaged (ap fault_meaning c.in-Damaged.is) refl
    (is Damaged (ap fault_meaning c.in-Damaged.is))

pub returns-in-OtherLimit-clause-found : goal.returns-in-OtherLimit-clause-found
returns-in-OtherLimit-clause-found g c honest limit name is =
    c.other_limit.ensures.found limit name _ (is OtherLimit (ap fault_meaning c.in-OtherLimit.is))
