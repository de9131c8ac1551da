use Rattle.bw_journal.proofs.EntryLaws.{entries_read_back, entries_are_short, cut_entries_are_none, entries_are_clean}
use Rattle.bw_journal.proofs.ClosingLaws.{stored_closes_are_noted}
use Rattle.bw_journal.proofs.SpeltLaws.{read_entries_stand}
use Rattle.bw_journal.proofs.laws.law_entries.Goals as goal

pub returns : goal.returns
returns c = search (
  entries_read_back,
  read_entries_stand,
  cut_entries_are_none,
  entries_are_clean,
  entries_are_short,
  stored_closes_are_noted,
)
