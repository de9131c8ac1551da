use Rattle.bw_disk.specs.MemoryVolumes.{disk_content}
use Rattle.bw_journal.specs.Stops.{cut_book}
use Rattle.bw_delivery.proofs.MachineForms.{shown}
use Rattle.bw_delivery.proofs.machine.start_over.Goals as goal

pub returns : goal.returns
returns c = λ book left. c.begin.ensures.running book
    (shown (disk_content c.args.folder.takes) (disk_content c.args.folder.notes) c.args.limit (cut_book book)
    (disk_content c.in_ok-notes.notes) c.in_ok-notes.ensures left)
