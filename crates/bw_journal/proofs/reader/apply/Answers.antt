use Rattle.std.proofs.Common.{rules}
use Rattle.bw_journal.proofs.reader.apply.Goals as goal

pub commit-requires-clause-stored : goal.commit-requires-clause-stored
commit-requires-clause-stored c = search rules

pub returns-in_ok-reserve_for-clause-parts : goal.returns-in_ok-reserve_for-clause-parts
returns-in_ok-reserve_for-clause-parts c = search rules
