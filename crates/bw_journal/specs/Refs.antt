-- Entries as the code has them.
use Rattle.bw_model.specs.Requests.{meaning}
use Rattle.bw_model.specs.VerdictMeanings.{verdict_meaning}
use Rattle.bw_journal.specs.Entries.{JournalEntry}
use Rattle.bw_journal.specs.declared.entry.EntryRef.{EntryRef}

-- the entry that is borrowed
abbrev pub entry_said : EntryRef → JournalEntry
entry_said e =
    record {
      request = meaning e.request;
      verdict = verdict_meaning e.verdict;
      digest = e.digest.now;
    }
