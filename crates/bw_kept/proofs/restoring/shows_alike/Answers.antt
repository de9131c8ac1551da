use Rattle.std.proofs.Common.{string_bytes}
use Rattle.bw_recovery.specs.Paths.{path_with}
use Rattle.bw_folder.specs.Folders.{take_path}
use Rattle.bw_folder.specs.JournalFolders.{noted_in_folder}
use Rattle.bw_kept.proofs.RestoredForms.{each_noted}
use Rattle.bw_kept.proofs.restoring.shows_alike.Goals as goal

pub returns-clause-alike : goal.returns-clause-alike
unfolding take_path path_with
returns-clause-alike g c = λ takes notes. c.lend_disks.ensures.visited.alike takes notes

pub returns-clause-noted : goal.returns-clause-noted
returns-clause-noted g c = λ honest.
    let journal = c.args.journal.now in
    each_noted (string_bytes journal.folder) (string_bytes c.lend_disks.new.journal.folder)
    (noted_in_folder journal) (noted_in_folder c.lend_disks.new.journal) (g.E.Disk.contents journal.disk)
    (g.E.Disk.contents c.lend_disks.new.journal.disk) c.lend_disks.ensures.noted.0 c.lend_disks.ensures.noted.1
    c.lend_disks.ensures.journal.settings.2 (c.lend_disks.ensures.visited.notes_whole.contents honest)
