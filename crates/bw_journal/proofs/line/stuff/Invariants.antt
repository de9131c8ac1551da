use Rattle.std.proofs.Common.{◌-◌, take}
use Rattle.bw_journal.proofs.StuffLaws.{IsStuffedFrom}
use Rattle.bw_journal.proofs.line.stuff.Given as goal

abbrev pub invariant-loop-step : goal.invariant-loop-step
invariant-loop-step l = IsStuffedFrom (take l.len l.fn.bytes) l.bytes (l.len - l.step) l.place
