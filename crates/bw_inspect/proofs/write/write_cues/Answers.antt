use Rattle.std.proofs.Common.{◌∙◌, arith}
use Rattle.bw_model.specs.Report.{cue_line}
use Rattle.bw_layout.proofs.Exits.{on_err}
use Rattle.bw_inspect.proofs.Writing.{begins_within, writes_next}
use Rattle.bw_inspect.proofs.write.write_cues.Goals as goal

pub returns-in_err-write_line-clause-err : goal.returns-in_err-write_line-clause-err
returns-in_err-write_line-clause-err g c =
    let line = rw c.make_cue_line.ensures at c.in_err-write_line.ensures.err in
    on_err c.from_residual.result _
    (rw (← c.as_slice-cue-items.ensures)
    (begins_within cue_line c.as_slice-cue-items.result.now c.loop-cue.cue-index c.cue-item.result
    (omega arith) c.cue-item.is c.loop-cue.invariant.written line))

pub loop-cue-preserved : goal.loop-cue-preserved
loop-cue-preserved g c = record {
  count = c.in_ok-write_line.ensures.count ∙ c.loop-cue.invariant.count;
  written =
      let line = rw c.make_cue_line.ensures at c.in_ok-write_line.ensures.ok in
      writes_next cue_line c.as_slice-cue-items.result.now c.loop-cue.cue-index c.cue-item.result
      (omega arith) c.cue-item.is c.loop-cue.invariant.written line;
}
