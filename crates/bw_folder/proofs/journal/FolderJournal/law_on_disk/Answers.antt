use Rattle.std.proofs.Common.{sym}
use Rattle.bw_folder.specs.JournalFolders.{journal_on_disk, unwritten_in}
use Rattle.bw_folder.specs.PendingNotes.{unwritten_of}
use Rattle.bw_folder.proofs.PendingLaws.{left_of, pends, noted_idle}
use Rattle.bw_folder.proofs.journal.FolderJournal.law_on_disk.Goals as goal

pub returns-clause-left : goal.returns-clause-left
returns-clause-left g c = λ honest n.
    let j = c.args.self.now in
    left_of j.sync (unwritten_of (unwritten_in j) n) (journal_on_disk j n)
    (pends j.sync (unwritten_of (unwritten_in j) n) (journal_on_disk j n) (j.pending honest n))

pub returns-clause-whole : goal.returns-clause-whole
returns-clause-whole g c = λ n idle.
    sym (noted_idle (unwritten_of (unwritten_in c.args.self.now) n) (journal_on_disk c.args.self.now n) idle)
