use Rattle.std.proofs.Common.{◌∙◌, arith}
use Rattle.bw_model.specs.Report.{chunk_line}
use Rattle.bw_layout.proofs.Exits.{on_err}
use Rattle.bw_inspect.proofs.Writing.{begins_within, writes_next}
use Rattle.bw_inspect.proofs.write.write_chunks.Goals as goal

pub returns-in_err-write_line-clause-err : goal.returns-in_err-write_line-clause-err
returns-in_err-write_line-clause-err g c =
    let line = rw c.make_chunk_line.ensures at c.in_err-write_line.ensures.err in
    on_err c.from_residual.result _
    (rw (← c.as_slice-chunk-items.ensures)
    (begins_within chunk_line c.as_slice-chunk-items.result.now c.loop-chunk.chunk-index c.chunk-item.result
    (omega arith) c.chunk-item.is c.loop-chunk.invariant.written line))

pub loop-chunk-preserved : goal.loop-chunk-preserved
loop-chunk-preserved g c = record {
  count = c.in_ok-write_line.ensures.count ∙ c.loop-chunk.invariant.count;
  written =
      let line = rw c.make_chunk_line.ensures at c.in_ok-write_line.ensures.ok in
      writes_next chunk_line c.as_slice-chunk-items.result.now c.loop-chunk.chunk-index c.chunk-item.result
      (omega arith) c.chunk-item.is c.loop-chunk.invariant.written line;
}
