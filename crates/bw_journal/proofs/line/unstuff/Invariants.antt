use Rattle.std.proofs.Common.{◌≡◌, drop}
use Rattle.bw_journal.specs.Lines.{plain, plain_after}
use Rattle.bw_journal.proofs.line.unstuff.Given as goal

abbrev pub invariant-loop-byte : goal.invariant-loop-byte
invariant-loop-byte l = plain_after l.after_one l.out.items (drop l.byte-index l.line) ≡ plain l.line
