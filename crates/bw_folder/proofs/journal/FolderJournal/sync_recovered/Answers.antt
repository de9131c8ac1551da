use Rattle.std.proofs.Common.{rules, ◌≡◌, ◌≢◌, ◌⊎◌, ◌∙◌, ap, sym, subst, Some, IsTrue, List, ℕ, ◌<◌, OnOk, Result, Ok, Err}
use Rattle.std.proofs.Common.{string_bytes, length, get_or}
use Rattle.bw_folder.specs.declared.journal.OpenJournal.{OpenJournal}
use Rattle.bw_folder.specs.Folders.{take_path}
use Rattle.bw_folder.specs.Journals.{journal_path}
use Rattle.bw_folder.specs.SyncOrders.{IsSyncedAt}
use Rattle.bw_folder.proofs.JournalPaths.{paths_apart}
use Rattle.bw_folder.proofs.JournalNames.{file_at}
use Rattle.std.specs.List.{position}
use Rattle.std.specs.Str.{bytes_eq}
use Rattle.bw_folder.specs.PendingNotes.{pendings}
use Rattle.bw_folder.proofs.PendingLaws.{holds_same, noted_same}
use Rattle.bw_folder.proofs.ChangedJournals.{place_of, known_set, pendings_set, paths_set, keeps_pending}
use Rattle.bw_folder.proofs.journal.FolderJournal.sync_recovered.Goals as goal

both_ok : {T E : Type 0} (P Q : Type 0) (r : Result T E) → OnOk r P → OnOk r Q → OnOk r (P × Q)
both_ok P Q (Ok x) p q = (p, q)
both_ok P Q (Err e) p q = tt

pub returns-clause-known : goal.returns-clause-known
returns-clause-known g c =
    known_set c.args.self.now.journals.items c.in-Some.place c.index_mut.result.now c.sync_both-answer.new.journal
    c.index_mut.ensures.value c.sync_both-answer.ensures.name c.sync_both-answer.ensures.existed

pub returns-clause-pending : goal.returns-clause-pending
returns-clause-pending g c =
    pendings_set c.args.self.now.journals.items c.in-Some.place c.index_mut.result.now c.sync_both-answer.new.journal
    c.index_mut.ensures.value c.sync_both-answer.ensures.name c.sync_both-answer.ensures.pending

pub returns-clause-marked : goal.returns-clause-marked
returns-clause-marked g c =
    let items = c.args.self.now.journals.items in
    let first : position (λ (x : OpenJournal g.row.D-File.Denot). bytes_eq x.name c.args.name.now) items
    ≡ Some c.in-Some.place = search rules in
    let pl = place_of c.args.name.now items c.in-Some.place c.index_mut.result.now c.index_mut.ensures.value first in
    subst (λ (n : List ℕ). (c.sync_both-answer.new.failed_sync ≡ c.args.self.now.failed_sync)
    ⊎ (c.sync_both-answer.new.failed_sync ≡ Some n))
    pl.named c.sync_both-answer.ensures.marked

pub returns-clause-noted : goal.returns-clause-noted
returns-clause-noted g c = λ honest n.
    let self = c.args.self.now in
    let call = c.sync_both-answer in
    noted_same (pendings self.journals.items) _ (string_bytes self.folder)
    (g.D.Disk.contents self.disk) (g.D.Disk.contents call.new.disk)
    (keeps_pending _ _ (pendings_set self.journals.items c.in-Some.place c.index_mut.result.now call.new.journal
    c.index_mut.ensures.value call.ensures.name call.ensures.pending))
    (λ m. call.ensures.contents honest (journal_path (string_bytes self.folder) m)) n

pub invariant_of-self-2 : goal.invariant_of-self-2
invariant_of-self-2 g c =
    let self = c.args.self.now in
    let call = c.sync_both-answer in
    let items = self.journals.items in
    let first : position (λ (x : OpenJournal g.row.D-File.Denot). bytes_eq x.name c.args.name.now) items
    ≡ Some c.in-Some.place = search rules in
    let pl = place_of c.args.name.now items c.in-Some.place c.index_mut.result.now c.index_mut.ensures.value first in
    record {
      paths = λ honest.
          paths_set g.D.Disk (string_bytes self.folder) items c.in-Some.place c.index_mut.result.now call.new.journal
          pl.within c.index_mut.ensures.value call.ensures.name (ap g.D.Disk.path_of call.ensures.file)
          (self.paths (subst IsTrue call.ensures.honest honest));
      pending = λ honest.
          let before : IsTrue (g.D.Disk.honest self.disk) = subst IsTrue call.ensures.honest honest in
          holds_same self.sync (pendings items) _ (string_bytes self.folder) (g.D.Disk.contents self.disk)
          (g.D.Disk.contents call.new.disk)
          (keeps_pending _ _ (pendings_set items c.in-Some.place c.index_mut.result.now call.new.journal
          c.index_mut.ensures.value call.ensures.name call.ensures.pending))
          (λ n. call.ensures.contents before (journal_path (string_bytes self.folder) n)) (self.pending before);
    }

pub returns-clause-synced : goal.returns-clause-synced
returns-clause-synced g c = λ honest on known.
    let folder : List ℕ = string_bytes c.args.self.now.folder in
    let name : List ℕ = c.args.name.now in
    let disk = c.sync_both-answer.new.disk in
    let journal = c.index_mut.result.now in
    let within : c.in-Some.place < length c.args.self.now.journals.items = search rules in
    let named : journal.name ≡ name =
    ap (λ (j : OpenJournal g.row.D-File.Denot). j.name) c.index_mut.ensures.value
    ∙ ap (λ (js : List (OpenJournal g.row.D-File.Denot)). (get_or js c.in-Some.place journal).name)
    (sym c.deref.ensures.value)
    ∙ (c.in-Some.ensures.place.1 journal).0 in
    let path : g.D.Disk.path_of journal.file ≡ journal_path folder name =
    file_at g.D.Disk folder name c.args.self.now.journals.items c.in-Some.place journal (c.args.self.now.paths honest) within
    c.index_mut.ensures.value named in
    let take : c.as_str.result.now ≡ take_path folder name = search rules in
    let apart : c.as_str.result.now ≢ g.D.Disk.path_of journal.file =
    λ same. paths_apart folder name name (sym take ∙ same ∙ path) in
    let file : OnOk c.sync_both-answer.result
    (IsSyncedAt (g.D.Disk.contents disk) (g.D.Disk.synced disk) (take_path folder name)) =
    subst (λ (p : List ℕ). OnOk c.sync_both-answer.result
    (IsSyncedAt (g.D.Disk.contents disk) (g.D.Disk.synced disk) p)) take (c.sync_both-answer.ensures.take honest apart) in
    let notes : OnOk c.sync_both-answer.result
    (IsSyncedAt (g.D.Disk.contents disk) (g.D.Disk.synced disk) (journal_path folder name)) =
    subst (λ (p : List ℕ). OnOk c.sync_both-answer.result
    (IsSyncedAt (g.D.Disk.contents disk) (g.D.Disk.synced disk) p)) path (c.sync_both-answer.ensures.synced honest) in
    let both = both_ok _ _ c.sync_both-answer.result file notes in
    search (rules, both)
