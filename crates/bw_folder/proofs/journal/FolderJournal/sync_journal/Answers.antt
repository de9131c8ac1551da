use Rattle.std.proofs.Common.{rules, ◌≡◌, ◌⊎◌, ap, subst, List, ℕ, Some, IsTrue, OnOk, string_bytes}
use Rattle.std.specs.List.{position}
use Rattle.std.specs.Str.{bytes_eq}
use Rattle.bw_folder.specs.declared.journal.OpenJournal.{OpenJournal}
use Rattle.bw_folder.specs.Journals.{journal_path}
use Rattle.bw_folder.specs.PendingNotes.{pendings}
use Rattle.bw_folder.specs.SyncOrders.{IsSyncedAt}
use Rattle.bw_folder.proofs.PendingLaws.{holds_same}
use Rattle.bw_folder.proofs.ChangedJournals.{place_of, path_there, known_set, pendings_set, paths_set}
use Rattle.bw_folder.proofs.ChangedJournals.{keeps_pending, marked_or}
use Rattle.bw_folder.proofs.journal.FolderJournal.sync_journal.Goals as goal

pub returns-clause-known : goal.returns-clause-known
returns-clause-known g c =
    known_set c.args.self.now.journals.items c.in-Some.place c.index_mut.result.now c.sync_begun.new.journal
    c.index_mut.ensures.value c.sync_begun.ensures.name c.sync_begun.ensures.existed

pub returns-clause-pending : goal.returns-clause-pending
returns-clause-pending g c =
    pendings_set c.args.self.now.journals.items c.in-Some.place c.index_mut.result.now c.sync_begun.new.journal
    c.index_mut.ensures.value c.sync_begun.ensures.name c.sync_begun.ensures.pending

pub returns-clause-marked : goal.returns-clause-marked
returns-clause-marked g c =
    let items = c.args.self.now.journals.items in
    let first : position (λ (x : OpenJournal g.row.D-File.Denot). bytes_eq x.name c.args.name.now) items
    ≡ Some c.in-Some.place = search rules in
    let pl = place_of c.args.name.now items c.in-Some.place c.index_mut.result.now c.index_mut.ensures.value first in
    subst (λ (n : List ℕ). (c.sync_begun.new.failed_sync ≡ c.args.self.now.failed_sync) ⊎ (c.sync_begun.new.failed_sync ≡ Some n))
    pl.named
    (marked_or c.sync_begun.result c.args.self.now.failed_sync c.sync_begun.new.failed_sync (Some c.index_mut.result.now.name)
    c.sync_begun.ensures.unmarked c.sync_begun.ensures.marked)

pub returns-clause-synced : goal.returns-clause-synced
returns-clause-synced g c = λ honest.
    let items = c.args.self.now.journals.items in
    let first : position (λ (x : OpenJournal g.row.D-File.Denot). bytes_eq x.name c.args.name.now) items
    ≡ Some c.in-Some.place = search rules in
    let pl = place_of c.args.name.now items c.in-Some.place c.index_mut.result.now c.index_mut.ensures.value first in
    subst (λ (p : List ℕ). OnOk c.sync_begun.result
    (IsSyncedAt (g.D.Disk.contents c.sync_begun.new.disk) (g.D.Disk.synced c.sync_begun.new.disk) p))
    (path_there g.D.Disk (string_bytes c.args.self.now.folder) c.args.name.now items c.in-Some.place c.index_mut.result.now pl
    (c.args.self.now.paths honest))
    (c.sync_begun.ensures.synced honest)

pub invariant_of-self-2 : goal.invariant_of-self-2
invariant_of-self-2 g c =
    let self = c.args.self.now in
    let items = self.journals.items in
    let first : position (λ (x : OpenJournal g.row.D-File.Denot). bytes_eq x.name c.args.name.now) items
    ≡ Some c.in-Some.place = search rules in
    let pl = place_of c.args.name.now items c.in-Some.place c.index_mut.result.now c.index_mut.ensures.value first in
    record {
      paths = λ honest.
          paths_set g.D.Disk (string_bytes self.folder) items c.in-Some.place c.index_mut.result.now c.sync_begun.new.journal
          pl.within c.index_mut.ensures.value c.sync_begun.ensures.name (ap g.D.Disk.path_of c.sync_begun.ensures.file)
          (self.paths (subst IsTrue c.sync_begun.ensures.honest honest));
      pending = λ honest.
          let before : IsTrue (g.D.Disk.honest self.disk) = subst IsTrue c.sync_begun.ensures.honest honest in
          let same = pendings_set items c.in-Some.place c.index_mut.result.now c.sync_begun.new.journal
          c.index_mut.ensures.value c.sync_begun.ensures.name c.sync_begun.ensures.pending in
          holds_same self.sync (pendings items) _ (string_bytes self.folder) (g.D.Disk.contents self.disk)
          (g.D.Disk.contents c.sync_begun.new.disk) (keeps_pending _ _ same)
          (λ n. c.sync_begun.ensures.contents before (journal_path (string_bytes self.folder) n)) (self.pending before);
    }
