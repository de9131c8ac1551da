use Rattle.std.proofs.Common.{rules, ◌∙◌, ap, sym, subst, List, ℕ, IsTrue, OnOk, string_bytes}
use Rattle.bw_folder.specs.Journals.{journal_path, existences}
use Rattle.bw_folder.specs.SyncOrders.{IsSyncedAt}
use Rattle.bw_folder.proofs.HeaderKeeping.{header_noted}
use Rattle.bw_folder.proofs.Headings.{failed_started}
use Rattle.bw_folder.proofs.journal.FolderJournal.begin_file.Goals as goal

pub returns-clause-headers : goal.returns-clause-headers
returns-clause-headers g c = λ honest n.
    let now = c.write_header.new.self in
    let new = c.sync_journal.new.self in
    let still : IsTrue (g.D.Disk.honest now.disk) = search rules in
    header_noted now.limit new.limit (existences now.journals.items) (existences new.journals.items)
    (g.D.Disk.contents now.disk) (g.D.Disk.contents new.disk) (string_bytes now.folder) (string_bytes new.folder)
    c.args.name.now c.sync_journal.ensures.settings.0 c.sync_journal.ensures.known
    (ap string_bytes c.sync_journal.ensures.settings.2) (λ p far. c.sync_journal.ensures.contents still p) n
    ∙ c.write_header.ensures.headers honest n

pub returns-clause-failed : goal.returns-clause-failed
returns-clause-failed g c = λ honest.
    let still : IsTrue (g.D.Disk.honest c.write_header.new.self.disk) = search rules in
    failed_started c.sync_journal.result _ _ _ _ (c.in_ok-write_header.ensures.begun honest)
    (c.sync_journal.ensures.contents still (journal_path (string_bytes c.args.self.now.folder) c.args.name.now))

pub returns-clause-rest : goal.returns-clause-rest
returns-clause-rest g c =
    let now = c.write_header.new.self in
    record {
      honest = c.sync_journal.ensures.honest ∙ c.write_header.ensures.rest.honest;
      others = λ honest other apart.
          c.sync_journal.ensures.contents (subst IsTrue (sym c.write_header.ensures.rest.honest) honest) other
          ∙ c.write_header.ensures.rest.others honest other apart;
      plain = λ off honest. search rules;
      journal = λ on honest.
          let still : IsTrue (g.D.Disk.honest now.disk) = subst IsTrue (sym c.write_header.ensures.rest.honest) honest in
          subst
          (λ (p : List ℕ). OnOk c.sync_journal.result
          (IsSyncedAt (g.D.Disk.contents c.sync_journal.new.self.disk) (g.D.Disk.synced c.sync_journal.new.self.disk) p))
          (ap (λ f. journal_path (string_bytes f) c.args.name.now) c.write_header.ensures.settings.2)
          (c.sync_journal.ensures.synced still);
    }
