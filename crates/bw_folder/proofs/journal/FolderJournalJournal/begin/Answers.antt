use Rattle.std.proofs.Common.{◌≡◌, ◌∙◌, ap, List, ℕ, Option, string_bytes}
use Rattle.bw_journal.specs.JournalHeaders.{header_bytes}
use Rattle.bw_folder.specs.declared.journal.FolderJournal.{FolderJournal}
use Rattle.bw_folder.specs.Journals.{existences, header_at, notes_at}
use Rattle.bw_folder.specs.PendingNotes.{UnwrittenNotes, pendings, unwritten_of, waits, noted_with}
use Rattle.bw_folder.proofs.Headings.{begin_failed}
use Rattle.bw_folder.proofs.PendingLaws.{noted_idle}
use Rattle.bw_folder.proofs.journal.FolderJournalJournal.begin.Goals as goal

pub returns-clause-failed : goal.returns-clause-failed
returns-clause-failed g c = λ honest.
    let old = c.args.self.now in
    let mid = c.begin_file-answer.new.self in
    let new = c.count.new.self in
    let call = c.begin_file-answer.ensures in
    let counts = c.count.ensures in
    let name : List ℕ = c.args.name.now in
    let folder : List ℕ = string_bytes old.folder in
    let all = pendings old.journals.items in
    let found = notes_at (g.D.Disk.contents old.disk) folder name in
    let found' = notes_at (g.D.Disk.contents mid.disk) folder name in
    let noted : Option (List ℕ) = noted_with (unwritten_of all name) found in
    let noted' : Option (List ℕ) =
    noted_with (unwritten_of (pendings new.journals.items) name)
    (notes_at (g.D.Disk.contents new.disk) (string_bytes new.folder) name) in
    let moved : noted' ≡ noted_with (unwritten_of (pendings mid.journals.items) name) found' =
    ap (λ v. noted_with (unwritten_of (pendings v.items) name) (notes_at (g.D.Disk.contents new.disk) (string_bytes new.folder) name))
    counts.journals
    ∙ ap (λ d. noted_with (unwritten_of (pendings mid.journals.items) name) (notes_at (g.D.Disk.contents d) (string_bytes new.folder) name))
    counts.disk
    ∙ ap (λ f. noted_with (unwritten_of (pendings mid.journals.items) name) (notes_at (g.D.Disk.contents mid.disk) (string_bytes f) name))
    (counts.settings.2 ∙ call.settings.2) in
    begin_failed c.begin_file-answer.result
    (header_bytes name (header_at old.limit (existences old.journals.items) (g.D.Disk.contents old.disk) folder name))
    (waits (unwritten_of all name).bytes) noted noted' found found'
    (λ idle. (
      noted_idle (unwritten_of all name) found idle,
      moved
          ∙ noted_idle (unwritten_of (pendings mid.journals.items) name) found'
          (ap (λ (p : UnwrittenNotes). waits p.bytes) (call.pending name) ∙ idle),
    ))
    (λ busy. moved
    ∙ ap (λ (j : FolderJournal g.row.D.Denot g.row.D-File.Denot g.D.Disk).
    noted_with (unwritten_of (pendings j.journals.items) name) (notes_at (g.D.Disk.contents j.disk) folder name)) (call.busy busy).1)
    (call.failed honest)
