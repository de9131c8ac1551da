use Rattle.std.proofs.Common.{◌≡◌, ◌++◌, take, drop}
use Rattle.bw_journal.specs.Lines.{before_zero}
use Rattle.bw_journal.proofs.line.before_zero.Given as goal

abbrev pub invariant-loop-place : goal.invariant-loop-place
invariant-loop-place l = take l.place l.bytes ++ before_zero (drop l.place l.bytes) ≡ before_zero l.bytes
