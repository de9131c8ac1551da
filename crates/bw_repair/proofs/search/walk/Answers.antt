use Rattle.std.proofs.Common.{arith}
use Rattle.std.proofs.lemmas.Grind.{common_steps}
use Rattle.std.proofs.lemmas.Result.{err_from_is_err_and}
use Rattle.bw_repair.proofs.Heads.{head_fault}
use Rattle.bw_repair.proofs.Steps.{reached_more}
use Rattle.bw_repair.proofs.search.walk.Goals as goal

pub returns-in_err-size-clause-err : goal.returns-in_err-size-clause-err
returns-in_err-size-clause-err g c =
    let p = err_from_is_err_and c.from_residual.result c.from_residual.ensures.1 in
    rw (p.1, p.2) (λ b e h fault is.
    let i = c.loop-chunk.invariant.bytes b e h in
    record {
      count = c.loop-chunk._chunk;
      place = c.loop-chunk.reached.place;
      align = c.loop-chunk.reached.align;
      before = i.before;
      faulted = head_fault b c.loop-chunk._chunk c.loop-chunk.reached.place fault (omega arith)
          (c.in_err-size.ensures.err b i.rest fault is);
    })

pub loop-chunk-preserved : goal.loop-chunk-preserved
loop-chunk-preserved g c = record {
  near = let n = rw c.in-On.is at c.in_ok-size.ensures.near in omega (arith, n.1);
  following = let n = rw c.in-On.is at c.in_ok-size.ensures.near in omega (arith, n.0);
  failures = grind (arith, common_steps);
  bytes = λ b e h.
      let i = c.loop-chunk.invariant.bytes b e h in
      reached_more b c.loop-chunk._chunk c.loop-chunk.reached.place c.loop-chunk.reached.align c.in-On.next.place
      c.in-On.next.align _ _ i (rw c.in-On.is at (c.in_ok-size.ensures.ok b i.rest));
}
