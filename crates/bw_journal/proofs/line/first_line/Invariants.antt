use Rattle.std.proofs.Common.{◌≡◌, take, drop}
use Rattle.bw_journal.specs.Lines.{journal_lines, journal_lines_after}
use Rattle.bw_journal.proofs.line.first_line.Given as goal

abbrev pub invariant-loop-place : goal.invariant-loop-place
invariant-loop-place l = journal_lines_after (take l.place l.bytes) (drop l.place l.bytes) ≡ journal_lines l.bytes
