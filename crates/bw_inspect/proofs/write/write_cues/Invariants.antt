use Rattle.std.proofs.Common.{◌≡◌, take}
use Rattle.std.specs.Prelude.{flat_map}
use Rattle.bw_stream.specs.Moves.{Writes}
use Rattle.bw_model.specs.Report.{cue_line}
use Rattle.bw_inspect.proofs.write.write_cues.Given as goal

abbrev pub invariant-loop-cue : goal.invariant-loop-cue
invariant-loop-cue g l = record {
  count : g.W.Sink.failures l.writer ≡ g.W.Sink.failures l.fn.writer;
  written : Writes (g.W.Sink.written l.fn.writer) (flat_map cue_line (take l.cue-index l.cue-items))
      (g.W.Sink.written l.writer);
}
