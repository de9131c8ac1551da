use Rattle.std.proofs.Common.{◌∙◌, ◌≤◌, ap, subst, sym}
use Rattle.bw_folder.specs.JournalFolders.{failed_sync_in, journals_disk, journals_folder, journals_limit, journals_sync}
use Rattle.bw_folder.specs.TakeFolders.{takes_disk, takes_failed_sync, takes_folder, takes_retry}
use Rattle.bw_kept.specs.KeptServers.{table_server}
use Rattle.bw_kept.specs.LeftFolders.{KnowsNone}
use Rattle.bw_kept.proofs.DiskForms.{empty_committed}
use Rattle.bw_machine.specs.KeptOpenings.{HasDisks, IsServerOver}
use Rattle.bw_machine.proofs.OpenedServers.{disks_back, knows_none, none_failed, of_same}
use Rattle.bw_machine.proofs.locked.server_over.Goals as goal

pub returns-in-Ok-with_journal-clause-none : goal.returns-in-Ok-with_journal-clause-none
returns-in-Ok-with_journal-clause-none g c =
    let made = c.in-Ok-with_journal.ensures in
    let store = c.in_folder-store in
    let journal = c.in_folder-journal in
    of_same c.kept_over.result table_server c.in-Ok-with_journal.server (KnowsNone _ _)
    (knows_none _ _ c.in-Ok-with_journal.server store.result journal.result c.args.limit made.store made.journal
    made.limit made.book
    (subst (λ n. n ≤ 4294967294) c.bytes-most.ensures.value c.bytes-most.ensures.range.no_larger)
    (journal.ensures.folder ∙ c.in-Ok-from_str.ensures.ok ∙ sym (store.ensures.folder ∙ c.in-Ok.ensures.ok))
    (λ name. journal.ensures.limit) (empty_committed _ journal.result journal.ensures.pending)) c.kept_over.ensures.server

pub returns-in-Ok-with_journal-clause-over : goal.returns-in-Ok-with_journal-clause-over
returns-in-Ok-with_journal-clause-over g c =
    let made = c.in-Ok-with_journal.ensures in
    let store = c.in_folder-store.ensures in
    let journal = c.in_folder-journal.ensures in
    of_same c.kept_over.result table_server c.in-Ok-with_journal.server
    (IsServerOver c.args.limit c.args.folder.now c.args.sync)
    (record {
      limit_is = made.limit;
      store = ap (λ s. takes_folder s) made.store ∙ store.folder ∙ c.in-Ok.ensures.ok;
      journal = ap (λ j. journals_folder j) made.journal ∙ journal.folder ∙ c.in-Ok-from_str.ensures.ok;
      journal_limit = ap (λ j. journals_limit j) made.journal ∙ journal.limit;
      journal_sync = ap (λ j. journals_sync j) made.journal ∙ journal.sync;
      store_retry = ap (λ s. takes_retry s) made.store ∙ store.retries;
      failed_sync = none_failed _ _ (ap (λ s. takes_failed_sync s) made.store ∙ store.failed_sync)
          (ap (λ j. failed_sync_in j) made.journal ∙ journal.failed_sync);
    }) c.kept_over.ensures.server

pub returns-in-Ok-with_journal-clause-disks : goal.returns-in-Ok-with_journal-clause-disks
returns-in-Ok-with_journal-clause-disks g c =
    of_same c.kept_over.result table_server c.in-Ok-with_journal.server (HasDisks c.args.takes c.args.notes)
    (record {
      takes_are = ap (λ s. takes_disk s) c.in-Ok-with_journal.ensures.store ∙ c.in_folder-store.ensures.disk;
      notes_are = ap (λ j. journals_disk j) c.in-Ok-with_journal.ensures.journal ∙ c.in_folder-journal.ensures.disk;
    }) c.kept_over.ensures.server

pub returns-in-Ok-with_journal-clause-back : goal.returns-in-Ok-with_journal-clause-back
returns-in-Ok-with_journal-clause-back g c =
    disks_back c.kept_over.result c.args.takes c.args.notes c.in-Ok-with_journal.server
    (record {
      takes_are = ap (λ s. takes_disk s) c.in-Ok-with_journal.ensures.store ∙ c.in_folder-store.ensures.disk;
      notes_are = ap (λ j. journals_disk j) c.in-Ok-with_journal.ensures.journal ∙ c.in_folder-journal.ensures.disk;
    }) c.kept_over.ensures.back
