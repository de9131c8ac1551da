use Rattle.std.proofs.Common.{Some, arith, ◌∙◌, ap}
use Rattle.std.proofs.lemmas.Grind.{common_steps}
use Rattle.std.proofs.lemmas.List.{take_rest}
use Rattle.bw_stream.proofs.WritesInPieces.{append-take-drop, begun-take}
use Rattle.bw_stream.proofs.sink.write_all.Goals as goal

pub loop-done-preserved : goal.loop-done-preserved
loop-done-preserved g c = record {
  within = grind (arith, common_steps, c.in-Ok.ensures.within);
  count = c.in-Ok.ensures.count ∙ c.loop-done.invariant.count;
  written = λ xs e. c.in-Ok.ensures.ok _ (c.loop-done.invariant.written xs e)
      ∙ ap Some (rw (take_rest c.args.bytes.now c.loop-done.done)
      (append-take-drop xs c.args.bytes.now c.loop-done.done c.in-Ok.count));
}

pub returns-in_default-clause-err : goal.returns-in_default-clause-err
returns-in_default-clause-err g c xs e =
    begun-take xs c.args.bytes.now c.loop-done.done _ (c.in_default.ensures.err _ (c.loop-done.invariant.written xs e))
