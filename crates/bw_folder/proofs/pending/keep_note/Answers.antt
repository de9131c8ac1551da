use Rattle.std.proofs.Common.{arith, ◌≡◌, ◌≤◌, ℕ, subst}
use Rattle.bw_journal.specs.JournalHeaders.{header_len}
use Rattle.bw_folder.specs.PendingNotes.{unwritten_at, noted_with, NotesEndAt}
use Rattle.bw_folder.proofs.NoteKeeping.{kept_holds, kept_noted}
use Rattle.bw_folder.proofs.pending.keep_note.Goals as goal

pub returns-clause-holds : goal.returns-clause-holds
returns-clause-holds g c = λ honest holds.
    let journal = c.args.journal.now in
    let found = g.D.Disk.contents c.args.disk.now (g.D.Disk.path_of journal.file) in
    let same : c.in_ok-end.end ≡ c.args.offset = omega arith in
    let headed : header_len ≤ c.args.offset = omega arith in
    kept_holds c.push.result c.args.offset c.args.bytes.now c.in_ok-writes.writes (unwritten_at journal) (unwritten_at c.push.new.self)
    found
    (subst (λ (n : ℕ). NotesEndAt n (noted_with (unwritten_at journal) found)) same (c.in_ok-end.ensures.value honest holds))
    headed c.push.ensures.pending c.push.ensures.failed holds

pub returns-clause-noted : goal.returns-clause-noted
returns-clause-noted g c = λ honest holds.
    let journal = c.args.journal.now in
    let found = g.D.Disk.contents c.args.disk.now (g.D.Disk.path_of journal.file) in
    let same : c.in_ok-end.end ≡ c.args.offset = omega arith in
    let headed : header_len ≤ c.args.offset = omega arith in
    kept_noted c.push.result c.args.offset c.args.bytes.now c.in_ok-writes.writes (unwritten_at journal) (unwritten_at c.push.new.self)
    found
    (subst (λ (n : ℕ). NotesEndAt n (noted_with (unwritten_at journal) found)) same (c.in_ok-end.ensures.value honest holds))
    headed c.push.ensures.pending c.push.ensures.failed holds
