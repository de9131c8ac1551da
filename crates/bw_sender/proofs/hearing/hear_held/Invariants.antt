use Rattle.std.proofs.Common.{length}
use Rattle.bw_sender.specs.Hears.{HearsMore}
use Rattle.bw_sender.proofs.hearing.hear_held.Given as goal

abbrev pub invariant-loop : goal.invariant-loop
invariant-loop l = HearsMore l.fn.sender l.sender l.fn.framer l.framer

abbrev pub decreases-loop : goal.decreases-loop
decreases-loop l = length l.framer.bytes
