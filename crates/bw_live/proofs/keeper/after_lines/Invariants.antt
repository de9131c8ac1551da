use Rattle.std.proofs.Common.{◌≡◌, [], drop}
use Rattle.bw_ports.specs.StateReadings.{lines_after}
use Rattle.bw_live.proofs.keeper.after_lines.Given as goal

abbrev pub invariant-loop-seen : goal.invariant-loop-seen
invariant-loop-seen l = lines_after [] l.rest ≡ drop l._seen (lines_after [] l.fn.bytes)
