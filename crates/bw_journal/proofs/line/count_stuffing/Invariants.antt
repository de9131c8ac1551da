use Rattle.std.proofs.Common.{◌≡◌, ◌≤◌, ◌+◌, length, drop}
use Rattle.bw_journal.specs.Lines.{stuffed}
use Rattle.bw_journal.proofs.line.count_stuffing.Given as goal

abbrev pub invariant-loop-byte : goal.invariant-loop-byte
invariant-loop-byte l =
    (l.count + l.byte-index + length (stuffed (drop l.byte-index l.bytes)) ≡ length (stuffed l.bytes))
    × (l.count ≤ l.byte-index)
