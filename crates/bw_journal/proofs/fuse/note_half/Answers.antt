use Rattle.bw_journal.proofs.Starts.{either_part}
use Rattle.bw_journal.proofs.fuse.note_half.Goals as goal

pub returns-clause-part : goal.returns-clause-part
returns-clause-part c =
    either_part c.note.result c.args.offset _ c.args.bytes.now _ _ c.note.ensures.over c.note.ensures.cut
