use Rattle.std.proofs.Common.{◌∙◌, ap, string_bytes}
use Rattle.bw_folder.specs.Journals.{existences}
use Rattle.bw_folder.proofs.HeaderKeeping.{header_noted}
use Rattle.bw_folder.proofs.journal.FolderJournalJournal.note.Goals as goal

pub returns-clause-headers : goal.returns-clause-headers
returns-clause-headers g c = λ honest n.
    let old = c.args.self.now in
    let new = c.count.new.self in
    let ens = c.note_and_sync-answer.ensures in
    let counts = c.count.ensures in
    header_noted old.limit new.limit (existences old.journals.items) (existences new.journals.items)
    (g.D.Disk.contents old.disk) (g.D.Disk.contents new.disk) (string_bytes old.folder) (string_bytes new.folder)
    c.args.name.now (counts.settings.0 ∙ ens.settings.0) (ap (λ v. existences v.items) counts.journals ∙ ens.known)
    (ap string_bytes (counts.settings.2 ∙ ens.settings.2))
    (λ p far. ap (λ d. g.D.Disk.contents d p) counts.disk ∙ ens.files honest p far) n
