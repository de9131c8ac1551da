use Rattle.std.proofs.Common.{◌≡◌, take}
use Rattle.std.specs.Prelude.{flat_map}
use Rattle.bw_stream.specs.Moves.{Writes}
use Rattle.bw_model.specs.Report.{chunk_line}
use Rattle.bw_inspect.proofs.write.write_chunks.Given as goal

abbrev pub invariant-loop-chunk : goal.invariant-loop-chunk
invariant-loop-chunk g l = record {
  count : g.W.Sink.failures l.writer ≡ g.W.Sink.failures l.fn.writer;
  written : Writes (g.W.Sink.written l.fn.writer) (flat_map chunk_line (take l.chunk-index l.chunk-items))
      (g.W.Sink.written l.writer);
}
