use Rattle.std.proofs.Common.{◌+◌, ◌≤◌, length}
use Rattle.bw_console.specs.Lines.{lines_of}
use Rattle.bw_console.proofs.SaidLines.{SaidSoFar}
use Rattle.bw_delivery.specs.ServerLines.{SaysStopEvent}
use Rattle.bw_delivery.proofs.events.stop_events.Given as goal

abbrev pub invariant-loop-rest : goal.invariant-loop-rest
invariant-loop-rest l = record {
  within : length l.rest ≤ length l.input;
  number : l.number + length l.rest ≤ 1 + length l.input;
  said : SaidSoFar SaysStopEvent (lines_of l.input) (lines_of l.rest) l.found.items l.number;
}

abbrev pub decreases-loop-rest : goal.decreases-loop-rest
decreases-loop-rest l = length l.rest
