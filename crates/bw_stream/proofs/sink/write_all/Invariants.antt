use Rattle.std.proofs.Common.{◌≡◌, ◌-◌, ◌≤◌, length, take}
use Rattle.bw_stream.specs.Moves.{Writes}
use Rattle.bw_stream.proofs.sink.write_all.Given as goal

abbrev pub invariant-loop-done : goal.invariant-loop-done
invariant-loop-done g l = record {
  within : l.done ≤ length l.bytes;
  count : g.W.Sink.failures l.writer ≡ g.W.Sink.failures l.fn.writer;
  written : Writes (g.W.Sink.written l.fn.writer) (take l.done l.bytes) (g.W.Sink.written l.writer);
}

abbrev pub decreases-loop-done : goal.decreases-loop-done
decreases-loop-done g l = length l.bytes - l.done
