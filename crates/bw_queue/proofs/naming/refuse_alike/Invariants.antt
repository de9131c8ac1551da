use Rattle.std.proofs.Common.{take}
use Rattle.bw_queue.specs.NamedRecordings.{AreNamedApart}
use Rattle.bw_queue.proofs.naming.refuse_alike.Given as goal

-- those so far have names of their own
abbrev pub invariant-loop-place : goal.invariant-loop-place
invariant-loop-place l = AreNamedApart (take l.place l.recordings)
