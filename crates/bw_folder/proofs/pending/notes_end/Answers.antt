use Rattle.std.proofs.Common.{rules, ◌≡◌, ◌∙◌, ◌+◌, sym, IsTrue, length}
use Rattle.bw_folder.specs.PendingNotes.{unwritten_at, waits}
use Rattle.bw_folder.proofs.NoteKeeping.{ends_waiting}
use Rattle.bw_folder.proofs.pending.notes_end.Goals as goal

pub returns-in-Some-clause-value : goal.returns-in-Some-clause-value
returns-in-Some-clause-value g c = λ honest holds.
    let journal = c.args.journal.now in
    let found = g.D.Disk.contents c.args.disk.now (g.D.Disk.path_of journal.file) in
    let some : IsTrue (waits journal.pending.items) = search rules in
    let end : c.in-Some.end ≡ journal.place + length journal.pending.items = search rules in
    let ends = ends_waiting (unwritten_at journal) found holds some in
    (ends.0, ends.1, ends.2 ∙ sym end)
