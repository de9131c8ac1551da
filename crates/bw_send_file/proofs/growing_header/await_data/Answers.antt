use Rattle.std.proofs.Common.{◌∙◌}
use Rattle.bw_send_file.proofs.GrowingSteps.{holds_on}
use Rattle.bw_send_file.proofs.growing_header.await_data.Goals as goal

pub returns-in_err-read_on-clause-read : goal.returns-in_err-read_on-clause-read
returns-in_err-read_on-clause-read g c xs e =
    holds_on _ _ _ xs _ _ (c.loop-look.invariant.read xs e)
    (λ ys q. c.read_on.ensures.read ys (c.has_ended.ensures.kept ∙ q))

pub returns-then-is_complete-clause-read : goal.returns-then-is_complete-clause-read
returns-then-is_complete-clause-read g c xs e =
    holds_on _ _ _ xs _ _ (c.loop-look.invariant.read xs e)
    (λ ys q. c.read_on.ensures.read ys (c.has_ended.ensures.kept ∙ q))

pub loop-look-preserved : goal.loop-look-preserved
loop-look-preserved g c = record {
  size = c.read_on.ensures.size ∙ c.loop-look.invariant.size;
  read = λ xs e.
      holds_on _ _ _ xs _ _ (c.loop-look.invariant.read xs e)
      (λ ys q. c.read_on.ensures.read ys (c.has_ended.ensures.kept ∙ q));
}
