use Rattle.std.proofs.Common.{rules, arith, subst, ap, ℕ, ◌+◌, ◌*◌}
use Rattle.std.specs.Prelude.{not}
use Rattle.std.proofs.lemmas.Result.{err_from_is_err_and}
use Rattle.std.proofs.lemmas.Grind.{common_steps}
use Rattle.bw_inspect.specs.Places.{IsGiven}
use Rattle.bw_inspect.proofs.Faults.{bytes_no_read}
use Rattle.bw_picture.proofs.Pieces.{frames_end_before, widened_more}
use Rattle.bw_picture.proofs.reading.read_frames.Goals as goal

pub loop-done-preserved : goal.loop-done-preserved
loop-done-preserved g c = record {
  within = search rules;
  bytes = λ b e.
      let i = c.loop-done.invariant.bytes b e in
      let given = c.in_ok-read_at.ensures.ok b i.rest in
      widened_more b c.args.place c.loop-done.done c.min-count.result c.args.width c.args.align c.args.lows.now
      c.args.highs.now c.loop-done.lows c.loop-done.highs c.widen_all.new.lows c.widen_all.new.highs _ _ _
      (search rules)
      (search rules) i
      (subst (λ (n : ℕ). IsGiven b (c.args.place + c.loop-done.done * c.args.align) n c.read_at.new.buf
      (g.R.Source.left c.read_at.new.reader))
      (grind (arith, common_steps)) given) c.widen_all.ensures.lows c.widen_all.ensures.highs;
}

pub returns-in_err-read_at-clause-err : goal.returns-in_err-read_at-clause-err
returns-in_err-read_at-clause-err g c =
    let answer = err_from_is_err_and c.from_residual.result c.from_residual.ensures.1 in
    rw (answer.1, answer.2) (λ b e bytes.
    let i = c.loop-done.invariant.bytes b e in
    let missed = c.in_err-read_at.ensures.err b i.rest in
    let cut = missed.cuts (ap not (bytes_no_read _ bytes)) in
    frames_end_before b c.args.place c.loop-done.done c.min-count.result c.args.frames c.args.align _
    (grind (arith, common_steps)) (search rules) cut.1)
